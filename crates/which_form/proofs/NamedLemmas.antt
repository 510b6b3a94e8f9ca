-- What is found among the keys of a scheme is the violation of second form that is named, or the scheme is in the form.
use Rattle.std.proofs.Common.{◌≡◌, ℕ, false, true, List, subst, inl, inr}
use Rattle.std.proofs.lemmas.Bool.{cases_Bool, false_from_ne_true, ltb-true}
use Rattle.std.specs.Prelude.{Option, Some, None}
use Rattle.attr_sets.specs.declared.set.AttrSet.{AttrSet}
use Rattle.attr_sets.specs.Attributes.{Attributes, below, only, IsSubset}
use Rattle.attr_sets.specs.Sets.{attributes}
use Rattle.dep_model.specs.Dependencies.{Dependency, fd}
use Rattle.dep_model.specs.OnSchemes.{ImpliedOn}
use Rattle.dep_model.specs.Keys.{IsKey, IsPrime, InClosure}
use Rattle.dep_model.proofs.KeyLemmas.{fd_on-to}
use Rattle.normal_forms.specs.Violations.{DeterminesNonPrime}
use Rattle.normal_forms.proofs.PartLemmas.{only_on}
use Rattle.normal_forms.proofs.ViolationLemmas.{beyond_in}
use Rattle.which_form.specs.declared.found.Found.{Found}
use Rattle.which_form.specs.SecondForm.{IsProperPart, IsFirstInSecond}
use Rattle.which_form.specs.KeySearches.{AreInNoKey, HasAllOf, IsLeastDetermined, IsNotBefore}

module _ (n : ℕ) (ds : List Dependency) (scheme wanted : Attributes) (low : IsSubset scheme (below n)) (in_no_key : AreInNoKey n ds scheme wanted)
    (others : (a : ℕ) → scheme a ≡ true → wanted a ≡ false → IsPrime n ds scheme a) where
  part_in : (x : Attributes) → IsProperPart n ds scheme x → IsSubset x scheme
  part_in x part k m = part.1.superkey.within.0 k (part.2 k m)

  -- what a proper part of a key determines, and is in no key
  non_prime : (x : Attributes) (a : ℕ) → IsProperPart n ds scheme x → wanted a ≡ true → InClosure n ds x a → DeterminesNonPrime n ds scheme x a
  non_prime x a part is closed = (
    (
      only_on n ds scheme x a (part_in x part) (in_no_key.within a is) closed,
      false_from_ne_true (x a) (λ m. in_no_key.none a is (part.0, part.1, part.2 a m)),
    ),
    in_no_key.none a is,
  )

  wanted_from : (a : ℕ) → scheme a ≡ true → (IsPrime n ds scheme a → ⊥) → wanted a ≡ true
  wanted_from a member not_prime = elim (cases_Bool (wanted a)) [
    | inl is ↦ is
    | inr out ↦ absurd (not_prime (others a member out))
  ]

  closed_from : (x : Attributes) (a : ℕ) → DeterminesNonPrime n ds scheme x a → (wanted a ≡ true) × InClosure n ds x a
  closed_from x a d =
      let member = beyond_in n ds scheme x a d.0.0 in
      (wanted_from a member d.1, (ltb-true a n (low a member), fd_on-to n ds scheme x (only a) d.0.0))

  -- the set that was found, with the least that it determines
  pub named_violation : (found : Found) (x : AttrSet) (y : Attributes) → found.first ≡ Some x → IsProperPart n ds scheme (attributes x)
      → ((k : Attributes) → IsKey n ds scheme k → HasAllOf n ds wanted found k) → IsLeastDetermined n ds wanted (attributes x) y
      → IsFirstInSecond n ds scheme (attributes x) y
  named_violation found x y is part all least = record {
    within = part_in (attributes x) part;
    violates = record {
      part = part;
      attribute = least.attribute;
      determined = non_prime (attributes x) least.attribute part least.member least.determined;
      least = λ a less d. let back = closed_from (attributes x) a d in least.least a less back.0 back.1;
      right = least.right;
    };
    first = λ v w before violates.
        let back = closed_from v violates.attribute violates.determined in
        let not_before = (all violates.part.0 violates.part.1).parts v violates.part.2 violates.part.3 (violates.attribute, back.0, back.1) in
        subst (λ (o : Option AttrSet). IsNotBefore v o) is not_before before;
  }

  -- where none was found, each attribute that a proper part determines is prime
  pub none_found : (found : Found) → found.first ≡ None → ((k : Attributes) → IsKey n ds scheme k → HasAllOf n ds wanted found k)
      → (x : Attributes) (a : ℕ) → IsProperPart n ds scheme x → ImpliedOn n ds scheme (fd x (only a)) → IsPrime n ds scheme a
  none_found found is all x a part on = elim (cases_Bool (wanted a)) [
    | inl wants ↦
        let member = beyond_in n ds scheme x a on in
        absurd (subst (λ (o : Option AttrSet). IsNotBefore x o) is
        ((all part.0 part.1).parts x part.2 part.3 (a, wants, (ltb-true a n (low a member), fd_on-to n ds scheme x (only a) on))))
    | inr out ↦ others a (beyond_in n ds scheme x a on) out
  ]
