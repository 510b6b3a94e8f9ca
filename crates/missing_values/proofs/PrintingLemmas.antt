-- What is said of an attribute, part by part.
use Rattle.std.proofs.Common.{◌≡◌, ◌++◌, ℕ, List, [], Some, Result, Ok, Err, sym, ap, ◌∙◌, append_assoc}
use Rattle.std.specs.Prelude.{codes, slice_get, slice_index_or, OnOk}
use Rattle.std.proofs.lemmas.Option.{get_or_from_slice_get}
use Rattle.schema_model.specs.Schemas.{names_of, naming_of}
use Rattle.schema_model.specs.declared.naming.Naming.{Naming}
use Rattle.schema_model.specs.Schemas.{Schema}
use Rattle.schema_printer.specs.Spelling.{spelling}
use Rattle.missing_values.specs.Refusals.{missing_text}

-- a name as it is printed, between what stands before and after it
pub missing_added : {T E : Type 0} (r : Result T E) (s : Schema) (a : ℕ) (naming : Naming)
    (name old first middle new : List ℕ) → naming ≡ naming_of s → slice_get (names_of s) a ≡ Some name
    → first ≡ old ++ codes "refused: " → middle ≡ first ++ spelling naming name
    → OnOk r (new ≡ middle ++ codes " may be missing and is in ") → OnOk r (new ≡ old ++ missing_text s a)
unfolding missing_text
missing_added (Err e) s a naming name old first middle new same at begun named ended = tt
missing_added (Ok x) s a naming name old first middle new same at begun named ended =
    let front = codes "refused: " in
    let back = codes " may be missing and is in " in
    let printed = spelling naming name in
    let printed_is : printed ≡ spelling (naming_of s) (slice_index_or (names_of s) a []) =
    ap (λ (n : Naming). spelling n name) same
    ∙ ap (λ (bytes : List ℕ). spelling (naming_of s) bytes) (sym (get_or_from_slice_get (names_of s) a name [] at)) in
    ended ∙ ap (λ (t : List ℕ). t ++ back) (named ∙ ap (λ (t : List ℕ). t ++ printed) begun ∙ append_assoc old front printed)
    ∙ append_assoc old (front ++ printed) back
    ∙ ap (λ (word : List ℕ). old ++ (front ++ word ++ back)) printed_is
