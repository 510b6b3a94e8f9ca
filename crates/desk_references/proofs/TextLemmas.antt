-- Texts, piece by piece.
use Rattle.std.specs.List.{flat_map}
use Rattle.std.proofs.Common.{◌≡◌, ◌<◌, ◌+◌, ℕ, List, [], ◌∷◌, ◌++◌, length, map, take, get_or, sym, ap, ◌∙◌, append-nil, append_assoc}
use Rattle.std.proofs.lemmas.Grind.{flat_map-append}
use Rattle.std.proofs.lemmas.List.{map-append, take_more}
use Rattle.file_references.specs.Finds.{reference_of}
use Rattle.file_references.specs.References.{Reference}
use Rattle.file_references.specs.declared.reference.FoundReference.{FoundReference}
use Rattle.schema_printer.specs.Printing.{words_text}

-- one word more
words_last : (f : ℕ → List ℕ) (xs : List ℕ) (x : ℕ) → words_text (map f (xs ++ x ∷ [])) ≡ words_text (map f xs) ++ 32 ∷ f x
words_last f xs x =
    ap words_text (map-append f xs (x ∷ []))
    ∙ flat_map-append (λ (w : List ℕ). 32 ∷ w) (map f xs) (f x ∷ [])
    ∙ ap (λ (t : List ℕ). words_text (map f xs) ++ 32 ∷ t) (append-nil (f x))

pub words_more : (f : ℕ → List ℕ) (columns : List ℕ) (i d : ℕ) (old text next new word : List ℕ) → i < length columns
    → text ≡ old ++ words_text (map f (take i columns)) → next ≡ text ++ 32 ∷ [] → new ≡ next ++ word → word ≡ f (get_or columns i d)
    → new ≡ old ++ words_text (map f (take (i + 1) columns))
words_more f columns i d old text next new word low before blank name is =
    let so_far : List ℕ = words_text (map f (take i columns)) in
    name ∙ ap (λ (t : List ℕ). t ++ word) (blank ∙ ap (λ (t : List ℕ). t ++ 32 ∷ []) before)
    ∙ append_assoc (old ++ so_far) (32 ∷ []) word
    ∙ append_assoc old so_far (32 ∷ word)
    ∙ ap (λ (w : List ℕ). old ++ (so_far ++ 32 ∷ w)) is
    ∙ ap (λ (t : List ℕ). old ++ t) (sym (ap (λ (ks : List ℕ). words_text (map f ks)) (take_more columns i d low) ∙ words_last f (take i columns) (get_or columns i d)))

-- one reference more
pub references_more : (f : Reference → List ℕ) (xs : List FoundReference) (i : ℕ) (d : FoundReference) (text new : List ℕ) → i < length xs
    → text ≡ flat_map f (map reference_of (take i xs)) → new ≡ text ++ f (reference_of (get_or xs i d))
    → new ≡ flat_map f (map reference_of (take (i + 1) xs))
references_more f xs i d text new low before is =
    let x = get_or xs i d in
    let so_far : List ℕ = flat_map f (map reference_of (take i xs)) in
    is ∙ ap (λ (t : List ℕ). t ++ f (reference_of x)) before
    ∙ ap (λ (t : List ℕ). so_far ++ t) (sym (append-nil (f (reference_of x))))
    ∙ sym (ap (λ (ys : List FoundReference). flat_map f (map reference_of ys)) (take_more xs i d low)
    ∙ ap (flat_map f) (map-append reference_of (take i xs) (x ∷ []))
    ∙ flat_map-append f (map reference_of (take i xs)) (reference_of x ∷ []))
