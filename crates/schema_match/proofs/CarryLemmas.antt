-- Namesakes, and the sets that they make of a schema's sets.
use Rattle.std.proofs.Common.{◌≡◌, ℕ, ◌+◌, ◌<◌, ◌↔◌, inl, inr, true, false, List, [], ◌∷◌, ◌++◌, length, get_or}
use Rattle.std.proofs.Common.{Some, sym, ◌∙◌, ap, ⊎_elim, arith}
use Rattle.std.specs.Prelude.{slice_index_or, ◌==◌}
use Rattle.std.proofs.lemmas.Grind.{common_steps}
use Rattle.std.proofs.lemmas.List.{get_or_append_left}
use Rattle.std.proofs.lemmas.Bool.{cases_eq, eqb-true, eq-eqb, or_cases, false≢true}
use Rattle.std.proofs.lemmas.Option.{same_Some}
use Rattle.attr_sets.specs.Attributes.{Attributes, IsSubset, only, union}
use Rattle.attr_sets.proofs.AttributesLemmas.{same_from_within, same_at}
use Rattle.schema_model.specs.Schemas.{Schema}
use Rattle.schema_model.specs.Schemas.{names_of, width_of, universe_of, attribute_named}
use Rattle.schema_match.specs.Columns.{name_of_attribute}
use Rattle.schema_match.specs.Carried.{carry_attributes}
use Rattle.schema_match.specs.Namesakes.{AreNamesakes, IsNamesakeFrom}
use Rattle.schema_match.proofs.NameLemmas.{attribute_named_is, named_back, carry_attributes-at, carry_attributes-member}

-- ---- the namesakes of the first attributes
pub record AreNamesakesTo (schema other : Schema) (n : ℕ) (namesakes : List ℕ) : Type 0 where
  pub one_each : length namesakes ≡ n
  pub named : (a : ℕ) → a < n
      → attribute_named (names_of other) (name_of_attribute schema a) ≡ Some (slice_index_or namesakes a 0)

pub namesakes_more : (schema other : Schema) (n : ℕ) (namesakes : List ℕ) (b : ℕ)
    → AreNamesakesTo schema other n namesakes
    → attribute_named (names_of other) (name_of_attribute schema n) ≡ Some b
    → AreNamesakesTo schema other (n + 1) (namesakes ++ b ∷ [])
namesakes_more schema other n namesakes b before e = record {
  one_each = grind (arith, common_steps, before.one_each);
  named = λ a lt. ⊎_elim
      (λ (last : a ≡ n).
      let read : get_or (namesakes ++ b ∷ []) a 0 ≡ b = grind (arith, common_steps, before.one_each, last) in
      ap (λ (k : ℕ). attribute_named (names_of other) (name_of_attribute schema k)) last ∙ e
      ∙ ap (λ (k : ℕ). Some k) (sym read))
      (λ (other_one : a ≡ n → ⊥).
      let read : get_or (namesakes ++ b ∷ []) a 0 ≡ get_or namesakes a 0 =
      get_or_append_left namesakes (b ∷ []) 0 a (omega (arith, lt, other_one, before.one_each)) in
      before.named a (omega (arith, lt, other_one)) ∙ ap (λ (k : ℕ). Some k) (sym read))
      (cases_eq a n);
}

-- ---- the set of namesakes is the set that is carried over
pub carry_attributes-is : (schema other : Schema) (namesakes : List ℕ) (x p : Attributes)
    → AreNamesakes schema other namesakes → IsSubset x (universe_of schema)
    → ((b : ℕ) → (p b ≡ true) ↔ IsNamesakeFrom namesakes x b) → p ≡ carry_attributes schema other x
carry_attributes-is schema other namesakes x p are low members =
    (same_from_within p (carry_attributes schema other x) there back)
  where
    there : IsSubset p (carry_attributes schema other x)
    there b member =
        let found = (members b).0 member in
        let a = found.0 in
        let inside : a < width_of schema = omega (arith, found.1, are.one_each) in
        let lookup : attribute_named (names_of other) (name_of_attribute schema a) ≡ Some b = are.named a inside
        ∙ ap (λ (k : ℕ). Some k) found.3 in
        let b_inside = (attribute_named_is (names_of other) (name_of_attribute schema a) b lookup).0 in
        let named = named_back (names_of schema) (names_of other) a b schema.valid.names_differ inside lookup in
        carry_attributes-at schema other x a b b_inside named ∙ found.2

    back : IsSubset (carry_attributes schema other x) p
    back b member =
        let found = carry_attributes-member schema other x b member in
        let a = found.0 in
        let inside = (attribute_named_is (names_of schema) (name_of_attribute other b) a found.2).0 in
        let named : attribute_named (names_of other) (name_of_attribute schema a) ≡ Some b =
        named_back (names_of other) (names_of schema) b a other.valid.names_differ found.1 found.2 in
        let same : Some (get_or namesakes a 0) ≡ Some b = sym (are.named a inside) ∙ named in
        (members b).1 (a, omega (arith, inside, are.one_each), found.3, same_Some (get_or namesakes a 0) b same)

-- ---- the namesakes of the first members
abbrev pub IsNamesakeTo : ℕ → List ℕ → Attributes → ℕ → Type 0
IsNamesakeTo n namesakes x b = (a : ℕ) × (a < n) × (x a ≡ true) × (slice_index_or namesakes a 0 ≡ b)

-- the next attribute is a member
pub namesake_member : (n : ℕ) (namesakes : List ℕ) (x p q : Attributes) (c : ℕ) → x n ≡ true
    → slice_index_or namesakes n 0 ≡ c → q ≡ union p (only c)
    → ((b : ℕ) → (p b ≡ true) ↔ IsNamesakeTo n namesakes x b) → (b : ℕ)
    → (q b ≡ true) ↔ IsNamesakeTo (n + 1) namesakes x b
namesake_member n namesakes x p q c member read is before b = (there, back)
  where
    there : q b ≡ true → IsNamesakeTo (n + 1) namesakes x b
    there h = elim (or_cases (p b) (b == c) (sym (same_at is b) ∙ h)) [
      | inl old ↦ let found = (before b).0 old in (found.0, omega (arith, found.1), found.2, found.3)
      | inr new ↦ (n, omega arith, member, read ∙ sym (eqb-true b c new))
    ]

    back : IsNamesakeTo (n + 1) namesakes x b → q b ≡ true
    back found = same_at is b ∙ ⊎_elim
        (λ (last : found.0 ≡ n).
        let same : b ≡ c = sym found.3 ∙ ap (λ (k : ℕ). slice_index_or namesakes k 0) last ∙ read in
        let new : (b == c) ≡ true = eq-eqb b c same in
        grind (arith, new))
        (λ (other : found.0 ≡ n → ⊥).
        let old : p b ≡ true = (before b).1 (found.0, omega (arith, found.1, other), found.2, found.3) in
        grind (arith, old))
        (cases_eq found.0 n)

-- it is none
pub namesake_outside : (n : ℕ) (namesakes : List ℕ) (x p : Attributes) → x n ≡ false
    → ((b : ℕ) → (p b ≡ true) ↔ IsNamesakeTo n namesakes x b) → (b : ℕ)
    → (p b ≡ true) ↔ IsNamesakeTo (n + 1) namesakes x b
namesake_outside n namesakes x p outside before b = (there, back)
  where
    there : p b ≡ true → IsNamesakeTo (n + 1) namesakes x b
    there h = let found = (before b).0 h in (found.0, omega (arith, found.1), found.2, found.3)

    back : IsNamesakeTo (n + 1) namesakes x b → p b ≡ true
    back found = ⊎_elim
        (λ (last : found.0 ≡ n). absurd (false≢true (sym outside ∙ ap x (sym last) ∙ found.2)))
        (λ (other : found.0 ≡ n → ⊥). (before b).1 (found.0, omega (arith, found.1, other), found.2, found.3))
        (cases_eq found.0 n)
