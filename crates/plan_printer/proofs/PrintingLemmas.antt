-- The text of a plan, scheme by scheme.
use Rattle.std.proofs.Common.{◌≡◌, ◌<◌, ◌+◌, ℕ, zero, suc, Bool, false, if◌then◌else◌, List, [], ◌∷◌, ◌++◌, map, take, length, get_or, Result, Ok, Err, refl, sym, ap, ◌∙◌, ⊎_elim, arith, append_assoc}
use Rattle.std.specs.Prelude.{codes, OnOk}
use Rattle.std.proofs.lemmas.Bool.{cases_Bool, true≢false}
use Rattle.std.proofs.lemmas.Grind.{flat_map-append}
use Rattle.std.proofs.lemmas.List.{take_more, map-append, append-nil}
use Rattle.attr_sets.specs.declared.set.AttrSet.{AttrSet}
use Rattle.attr_sets.specs.Attributes.{Attributes, below, IsSubset, IsEmpty}
use Rattle.attr_sets.specs.Sets.{attributes}
use Rattle.attr_sets.proofs.AttributesLemmas.{tell_empty}
use Rattle.dep_model.specs.Plans.{schemes_of}
use Rattle.schema_printer.specs.Printing.{words_text, members_from, set_text, side_text, lines_text}
use Rattle.plan_printer.specs.Printing.{scheme_text, plan_text}

-- a line more
pub lines_more : (names : List (List ℕ)) (schemes : List AttrSet) (i : ℕ) (d : AttrSet) → i < length schemes
    → plan_text names (schemes_of (take (i + 1) schemes)) ≡ plan_text names (schemes_of (take i schemes)) ++ (scheme_text names (attributes (get_or schemes i d)) ++ 10 ∷ [])
lines_more names schemes i d lt =
    let x = get_or schemes i d in
    let front = map (scheme_text names) (schemes_of (take i schemes)) in
    let line = scheme_text names (attributes x) in
    ap (λ (xs : List AttrSet). plan_text names (schemes_of xs)) (take_more schemes i d lt)
    ∙ ap (λ (xs : List Attributes). plan_text names xs) (map-append attributes (take i schemes) (x ∷ []))
    ∙ ap (λ (ls : List (List ℕ)). lines_text ls) (map-append (scheme_text names) (schemes_of (take i schemes)) (attributes x ∷ []))
    ∙ flat_map-append (λ (l : List ℕ). l ++ 10 ∷ []) front (line ∷ [])
    ∙ ap (λ (rest : List ℕ). lines_text front ++ rest) (append-nil (line ++ 10 ∷ []))

-- ---- the names of a set with attributes
-- where no name is printed from an attribute on, the set has none from there on
members_from-nil : (x : Attributes) (names : List (List ℕ)) (k : ℕ) → members_from x k names ≡ [] → (j : ℕ) → j < length names → x (k + j) ≡ false
members_from-nil x [] k none j low = absurd (omega (arith, low))
members_from-nil x (name ∷ names) k none j low =
    ⊎_elim
    (λ here. absurd (cons_nil (sym (ap (λ (b : Bool). if b then name ∷ members_from x (k + 1) names else members_from x (k + 1) names) here) ∙ none)))
    (λ other. later j low other (members_from-nil x names (k + 1) (sym (ap (λ (b : Bool). if b then name ∷ members_from x (k + 1) names else members_from x (k + 1) names) other) ∙ none)))
    (cases_Bool (x k))
  where
    cons_nil : name ∷ members_from x (k + 1) names ≡ [] → ⊥
    cons_nil e = cc

    later : (j : ℕ) → j < length (name ∷ names) → x k ≡ false → ((i : ℕ) → i < length names → x (k + 1 + i) ≡ false) → x (k + j) ≡ false
    later zero low other rest = let same : k + 0 ≡ k = omega arith in ap x same ∙ other
    later (suc j) low other rest = let same : k + suc j ≡ k + 1 + j = omega arith in ap x same ∙ rest j (omega (arith, low))

words_not_empty : (names : List (List ℕ)) (x : Attributes) → IsSubset x (below (length names)) → (IsEmpty x → ⊥) → members_from x 0 names ≡ [] → ⊥
words_not_empty names x within not_empty none =
    ⊎_elim
    (λ found.
    let same : 0 + found.0 ≡ found.0 = omega arith in
    true≢false (sym found.2 ∙ ap x (sym same) ∙ members_from-nil x names 0 none found.0 found.1))
    (λ empty. not_empty empty)
    (tell_empty (length names) x within)

-- the line of a scheme, as it is put together
pub scheme_line : (names : List (List ℕ)) (x : Attributes) → IsSubset x (below (length names)) → (IsEmpty x → ⊥) → codes "scheme " ++ set_text names x ≡ scheme_text names x
unfolding set_text
scheme_line names x within not_empty = by_cases (members_from x 0 names) refl
  where
    by_cases : (words : List (List ℕ)) → members_from x 0 names ≡ words → codes "scheme " ++ side_text words ≡ codes "scheme" ++ words_text words
    by_cases [] none = absurd (words_not_empty names x within not_empty none)
    by_cases (word ∷ words) is = refl

-- a line is added part by part
pub line_added : {T E : Type 0} (r : Result T E) (old head words line new mid end : List ℕ) → mid ≡ (old ++ head) ++ words → head ++ words ≡ line → OnOk r (new ≡ mid ++ end) → OnOk r (new ≡ old ++ (line ++ end))
line_added (Ok x) old head words line new mid end before same added =
    added ∙ ap (λ (t : List ℕ). t ++ end) (before ∙ append_assoc old head words ∙ ap (λ (t : List ℕ). old ++ t) same) ∙ append_assoc old line end
line_added (Err e) old head words line new mid end before same added = tt
