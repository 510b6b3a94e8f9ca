-- The first part of a key that determines one of some attributes, and what is found with one more key.
use Rattle.std.proofs.Common.{◌≡◌, ℕ, true, false, List, sym, ap, subst, ◌∙◌, inl, inr, arith}
use Rattle.std.proofs.lemmas.Bool.{true≢false, cases_eq, cases_lt, false_from_ne_true, or_cases}
use Rattle.std.proofs.lemmas.Bool.Decides.{nat_tests}
use Rattle.std.specs.Prelude.{Option, Some, None, IfSome}
use Rattle.attr_sets.specs.declared.narrowing.Direction.TheVariants.{Descending}
use Rattle.attr_sets.specs.declared.set.AttrSet.{AttrSet}
use Rattle.attr_sets.specs.Attributes.{Attributes, below, union, intersection, IsSubset, IsBefore}
use Rattle.attr_sets.specs.Narrowing.{left_beside, IsNarrowed}
use Rattle.attr_sets.specs.Sets.{attributes}
use Rattle.attr_sets.proofs.AttributesLemmas.{same_at, same_from_within}
use Rattle.attr_sets.proofs.NarrowingLemmas.{narrowed_passes}
use Rattle.attr_sets.proofs.UpToLemmas.{subset_up_to}
use Rattle.dep_model.specs.Dependencies.{Dependency}
use Rattle.dep_model.specs.Keys.{IsKey}
use Rattle.normal_forms.specs.Adding.{AddOnlyThemselves}
use Rattle.normal_forms.specs.Primes.{ArePrime}
use Rattle.normal_forms.proofs.AddedLemmas.{closure_more}
use Rattle.normal_forms.proofs.SearchLemmas.{intersection_before}
use Rattle.which_form.specs.declared.found.Found.{Found}
use Rattle.which_form.specs.SecondForm.{IsProperPart}
use Rattle.which_form.specs.KeySearches.{AreInNoKey, DeterminesSome, IsNotBefore, KeepsAll}
use Rattle.which_form.proofs.RangeLemmas.{superkey_at}

-- ---- the first that passes
-- where each set passes that has a part which does, what is left by trying the last attribute first is the first of the
-- parts that pass
pub narrowed_first : (Passes : Attributes → Type 0) (start kept : Attributes) → IsNarrowed Descending Passes start start kept
    → ((x y : Attributes) → IsSubset x y → IsSubset y start → Passes x → Passes y)
    → (x : Attributes) → IsSubset x start → Passes x → IsBefore x kept → ⊥
narrowed_first Passes start kept narrowed monotone x x_in passes before =
    true≢false (sym before.2 ∙ (narrowed.left_out k k_in k_in).1 (monotone x (left_beside Descending start kept k) beside within passes))
  where
    k : ℕ
    k = before.0

    k_in : start k ≡ true
    k_in = narrowed.within k before.2

    beside : IsSubset x (left_beside Descending start kept k)
    beside j m = elim (cases_eq j k) [
      | inl same ↦ absurd (true≢false (sym m ∙ ap x same ∙ before.1))
      | inr differ ↦ elim (cases_lt k j) [
        | inl above ↦ grind (arith, nat_tests, above, m, before.3 j above)
        | inr up ↦ grind (arith, nat_tests, up, differ, x_in j m)
      ]
    ]

    within : IsSubset (left_beside Descending start kept k) start
    within j m = elim (cases_lt k j) [
      | inl above ↦ narrowed.within j (grind (arith, nat_tests, above, m))
      | inr up ↦ grind (arith, nat_tests, up, m)
    ]

-- ---- determining one of some attributes
pub determines_more : (n : ℕ) (ds : List Dependency) (wanted x y : Attributes) → IsSubset x y → DeterminesSome n ds wanted x
    → DeterminesSome n ds wanted y
determines_more n ds wanted x y inside d = (d.0, d.1, closure_more n ds x y d.0 inside d.2)

module _ (n : ℕ) (ds : List Dependency) (scheme sides wanted key : Attributes) (low : IsSubset scheme (below n))
    (added : AddOnlyThemselves n ds scheme sides) (in_no_key : AreInNoKey n ds scheme wanted) (is_key : IsKey n ds scheme key) where
  key_in : IsSubset key scheme
  key_in = is_key.superkey.within.0

  -- what is in no key is not in a part of one
  out_of_part : (x : Attributes) (a : ℕ) → IsSubset x key → wanted a ≡ true → x a ≡ false
  out_of_part x a inside is = false_from_ne_true (x a) (λ m. in_no_key.none a is (key, is_key, inside a m))

  -- so a part of a key determines it by its sides
  pub by_sides : (x : Attributes) → IsSubset x key → DeterminesSome n ds wanted x → DeterminesSome n ds wanted (intersection x sides)
  by_sides x inside d =
      (d.0, d.1, added x d.0 (λ k m. key_in k (inside k m)) d.2 (out_of_part x d.0 inside d.1))

  -- and the key itself determines each
  pub key_determines : (a : ℕ) → wanted a ≡ true → DeterminesSome n ds wanted (intersection key sides)
  key_determines a is =
      by_sides key (λ k m. m) (a, is, superkey_at n ds scheme key a low is_key.superkey (in_no_key.within a is))

  module _ (part : Attributes)
      (narrowed : IsNarrowed Descending (DeterminesSome n ds wanted) (intersection key sides) (intersection key sides) part) where
    start_low : IsSubset (intersection key sides) (below n)
    start_low k m = low k (key_in k (grind (arith, m)))

    -- no part of the key that determines one comes before it
    pub none_before : (x : Attributes) → IsSubset x key → DeterminesSome n ds wanted x → IsBefore x part → ⊥
    none_before x inside d before =
        narrowed_first (DeterminesSome n ds wanted) (intersection key sides) part narrowed (λ v w within _ p. determines_more n ds wanted v w within p)
        (intersection x sides) (λ k m. let there = inside k (grind (arith, m)) in grind (arith, there, m)) (by_sides x inside d)
        (intersection_before n sides x part (λ k m. low k (key_in k (inside k m))) before)

    pub part_in : IsSubset part key
    part_in k m = let there = narrowed.within k m in grind (arith, there)

    -- it determines one where one is wanted
    pub part_determines : (a : ℕ) → wanted a ≡ true → DeterminesSome n ds wanted part
    part_determines a is = narrowed_passes Descending (DeterminesSome n ds wanted) (intersection key sides) (intersection key sides) part narrowed n start_low (key_determines a is)

    -- where it is not the key, it is a proper part
    pub part_proper : (part ≡ key → ⊥) → IsProperPart n ds scheme part
    part_proper differs = (key, is_key, part_in, λ all. differs (same_from_within part key part_in all))

    -- where it is the key, no proper part determines one
    pub no_proper_part : part ≡ key → (x : Attributes) → IsSubset x key → (IsSubset key x → ⊥) → DeterminesSome n ds wanted x → ⊥
    no_proper_part same x inside proper d = elim (subset_up_to n x key (λ k m. low k (key_in k m)) inside) [
      | inl equal ↦ proper (λ k m. same_at equal k ∙ m)
      | inr before ↦ none_before x inside d (subst (λ (v : Attributes). IsBefore x v) (sym same) before)
    ]

-- ---- what is found
-- more attributes, and the same set or one that comes before
pub keeps_all : (n : ℕ) (ds : List Dependency) (wanted : Attributes) (earlier later : Found)
    → IsSubset (attributes earlier.in_keys) (attributes later.in_keys)
    → ((x : Attributes) → IsNotBefore x earlier.first → IsNotBefore x later.first) → KeepsAll n ds wanted earlier later
keeps_all n ds wanted earlier later more first k all = record {
  members = λ a m. more a (all.members a m);
  parts = λ x inside proper d. first x (all.parts x inside proper d);
}

-- what does not come before a found set does not come before an earlier one
pub not_before_earlier : (first : Option AttrSet) (result : AttrSet)
    → IfSome first (λ other. (x : Attributes) → IsBefore x (attributes result) → IsBefore x (attributes other))
    → (x : Attributes) → IsNotBefore x first → IsNotBefore x (Some result)
not_before_earlier (Some other) result before x not_before earlier = not_before (before x earlier)
not_before_earlier None result before x not_before earlier = absurd not_before

-- the attributes of a key are prime
pub prime_with_key : (n : ℕ) (ds : List Dependency) (scheme known key in_keys : Attributes) → ArePrime n ds scheme known → IsKey n ds scheme key
    → in_keys ≡ union known key → ArePrime n ds scheme in_keys
prime_with_key n ds scheme known key in_keys prime is_key is a m =
    elim (or_cases (known a) (key a) (sym (same_at is a) ∙ m)) [
      | inl old ↦ prime a old
      | inr new ↦ (key, is_key, new)
    ]
