-- City, street and zip: the relation with two keys that is in third normal form and not in Boyce-Codd form.
use Rattle.std.proofs.Common.{◌≡◌, ℕ, ◌<◌, zero, suc, true, false, [], ◌∷◌, refl, sym, ap, ◌∙◌, inl, inr, arith}
use Rattle.std.proofs.lemmas.Bool.{true≢false, false≢true, eqb-true, or_cases, true_from_ne_false, ltb-true}
use Rattle.std.proofs.lemmas.Bool.Decides.{nat_tests}
use Rattle.std.proofs.lemmas.List.Elements.{All-nil, All-cons, All-head, All-tail}
use Rattle.attr_sets.specs.Attributes.{Attributes, below, only, union, IsSubset}
use Rattle.dep_model.specs.Tuples.{Relation}
use Rattle.dep_model.specs.Dependencies.{Dependency, fd, Obeys}
use Rattle.dep_model.specs.Implication.{IsLegal}
use Rattle.dep_model.specs.Keys.{IsSuperkey, IsKey, IsPrime}
use Rattle.dep_model.specs.Forms.{IsThird, IsBcnf}
use Rattle.dep_model.specs.TwoTuples.{two_tuples}
use Rattle.dep_model.specs.Address.{address}
use Rattle.dep_model.proofs.RuleLemmas.{reflexivity_obeyed, fd_union_obeyed, fd_weaker_obeyed}
use Rattle.dep_model.proofs.TwoTupleLemmas.{two_tuples-over, two_tuples_fd-to, two_tuples_fd-from}
use Rattle.dep_model.proofs.KeyLemmas.{superkey-from, fd_on-to, fd_on-from}

abbrev city_street_to_zip : Dependency
city_street_to_zip = fd (union (only 0) (only 1)) (only 2)

abbrev zip_to_city : Dependency
zip_to_city = fd (only 2) (only 0)

zip_given : (r : Relation) → IsLegal 3 address r → Obeys 3 city_street_to_zip r
zip_given r legal = All-head (λ d. Obeys 3 d r) city_street_to_zip (zip_to_city ∷ []) legal.obeys

city_given : (r : Relation) → IsLegal 3 address r → Obeys 3 zip_to_city r
city_given r legal = All-head (λ d. Obeys 3 d r) zip_to_city [] (All-tail (λ d. Obeys 3 d r) city_street_to_zip (zip_to_city ∷ []) legal.obeys)

-- ---- two tuples that agree exactly on a
legal_two : (a : Attributes) → (a 0 ≡ true → a 1 ≡ true → a 2 ≡ true) → (a 2 ≡ true → a 0 ≡ true) → IsLegal 3 address (two_tuples 3 a)
legal_two a zip city = record {
  over = two_tuples-over 3 a;
  obeys = All-cons (λ d. Obeys 3 d (two_tuples 3 a)) city_street_to_zip (zip_to_city ∷ [])
      (two_tuples_fd-from 3 a (union (only 0) (only 1)) (only 2) (λ (k : ℕ) m. grind (arith, nat_tests, m)) (λ (k : ℕ) m. grind (arith, nat_tests, m))
      (λ inside k m. ap a (eqb-true k 2 m) ∙ zip (inside 0 refl) (inside 1 refl)))
      (All-cons (λ d. Obeys 3 d (two_tuples 3 a)) zip_to_city []
      (two_tuples_fd-from 3 a (only 2) (only 0) (λ (k : ℕ) m. grind (arith, nat_tests, m)) (λ (k : ℕ) m. grind (arith, nat_tests, m))
      (λ inside k m. ap a (eqb-true k 0 m) ∙ city (inside 2 refl)))
      (All-nil (λ d. Obeys 3 d (two_tuples 3 a))));
}

-- what determines all is not within such a set, unless the set is all
superkey_within_all : (a x : Attributes) → IsLegal 3 address (two_tuples 3 a) → IsSuperkey 3 address (below 3) x → IsSubset x a → IsSubset (below 3) a
superkey_within_all a x legal superkey inside =
    two_tuples_fd-to 3 a x (below 3) superkey.within.0 (λ (k : ℕ) m. m) (fd_on-to 3 address (below 3) x (below 3) superkey (two_tuples 3 a) legal) inside

-- ---- the two keys
city_street_key : IsKey 3 address (below 3) (union (only 0) (only 1))
city_street_key = record {
  superkey = superkey-from 3 address (below 3) (union (only 0) (only 1)) (λ (k : ℕ) m. grind (arith, nat_tests, m)) (λ r legal.
      fd_weaker_obeyed (union (only 0) (only 1)) (union (union (only 0) (only 1)) (only 2)) (union (only 0) (only 1)) (below 3) r (λ (k : ℕ) m. m) (λ (k : ℕ) m. grind (arith, nat_tests, m))
      (fd_union_obeyed (union (only 0) (only 1)) (union (only 0) (only 1)) (only 2) r (reflexivity_obeyed (union (only 0) (only 1)) (union (only 0) (only 1)) r (λ (k : ℕ) m. m)) (zip_given r legal)));
  minimal = λ j inside superkey i m. true_from_ne_false (j i) (λ out. absurd (true≢false (sym (all j inside superkey i m out i (grind (arith, nat_tests, m))) ∙ out)));
}
  where
    all : (j : Attributes) → IsSubset j (union (only 0) (only 1)) → IsSuperkey 3 address (below 3) j → (i : ℕ) → union (only 0) (only 1) i ≡ true → j i ≡ false → IsSubset (below 3) j
    all j inside superkey i m out =
        let zip : j 0 ≡ true → j 1 ≡ true → j 2 ≡ true = λ at_0 at_1. elim (or_cases (only 0 i) (only 1 i) m) [
          | inl is_0 ↦ absurd (true≢false (sym at_0 ∙ sym (ap j (eqb-true i 0 is_0)) ∙ out))
          | inr is_1 ↦ absurd (true≢false (sym at_1 ∙ sym (ap j (eqb-true i 1 is_1)) ∙ out))
        ] in
        let city : j 2 ≡ true → j 0 ≡ true = λ at_2. absurd (false≢true (inside 2 at_2)) in
        superkey_within_all j j (legal_two j zip city) superkey (λ (k : ℕ) h. h)

street_zip_key : IsKey 3 address (below 3) (union (only 1) (only 2))
street_zip_key = record {
  superkey = superkey-from 3 address (below 3) (union (only 1) (only 2)) (λ (k : ℕ) m. grind (arith, nat_tests, m)) (λ r legal.
      fd_weaker_obeyed (union (only 1) (only 2)) (union (union (only 1) (only 2)) (only 0)) (union (only 1) (only 2)) (below 3) r (λ (k : ℕ) m. m) (λ (k : ℕ) m. grind (arith, nat_tests, m))
      (fd_union_obeyed (union (only 1) (only 2)) (union (only 1) (only 2)) (only 0) r (reflexivity_obeyed (union (only 1) (only 2)) (union (only 1) (only 2)) r (λ (k : ℕ) m. m))
      (fd_weaker_obeyed (only 2) (only 0) (union (only 1) (only 2)) (only 0) r (λ (k : ℕ) m. grind (arith, nat_tests, m)) (λ (k : ℕ) m. m) (city_given r legal))));
  minimal = λ j inside superkey i m. true_from_ne_false (j i) (λ out. elim (or_cases (only 1 i) (only 2 i) m) [
    | inl is_1 ↦ no_street j inside superkey (sym (ap j (eqb-true i 1 is_1)) ∙ out)
    | inr is_2 ↦ no_zip j inside superkey (sym (ap j (eqb-true i 2 is_2)) ∙ out)
  ]);
}
  where
    no_street : (j : Attributes) → IsSubset j (union (only 1) (only 2)) → IsSuperkey 3 address (below 3) j → j 1 ≡ false → ⊥
    no_street j inside superkey out =
        let a : Attributes = union j (only 0) in
        let all = superkey_within_all a j (legal_two a (λ at_0 at_1. absurd (true≢false (sym at_1 ∙ grind (arith, out)))) (λ at_2. grind arith)) superkey (λ (k : ℕ) h. grind (arith, h)) in
        true≢false (sym (all 1 refl) ∙ grind (arith, out))

    no_zip : (j : Attributes) → IsSubset j (union (only 1) (only 2)) → IsSuperkey 3 address (below 3) j → j 2 ≡ false → ⊥
    no_zip j inside superkey out =
        let all = superkey_within_all j j (legal_two j (λ at_0 at_1. absurd (false≢true (inside 0 at_0))) (λ at_2. absurd (true≢false (sym at_2 ∙ out)))) superkey (λ (k : ℕ) h. h) in
        true≢false (sym (all 2 refl) ∙ out)

-- ---- the forms
all_prime : (a : ℕ) → a < 3 → IsPrime 3 address (below 3) a
all_prime zero low = (union (only 0) (only 1), city_street_key, refl)
all_prime (suc zero) low = (union (only 0) (only 1), city_street_key, refl)
all_prime (suc (suc zero)) low = (union (only 1) (only 2), street_zip_key, refl)
all_prime (suc (suc (suc a))) low = absurd (omega (arith, low))

pub address_third : IsThird 3 address (below 3)
address_third x a on out = inr (all_prime a (ltb-true a 3 (on.within.1 a (grind (arith, nat_tests)))))

pub address_not_bcnf : IsBcnf 3 address (below 3) → ⊥
address_not_bcnf bcnf =
    let on = fd_on-from 3 address (below 3) (only 2) (only 0) (λ (k : ℕ) m. grind (arith, nat_tests, m)) (λ (k : ℕ) m. grind (arith, nat_tests, m)) city_given in
    let superkey = bcnf (only 2) 0 on refl in
    let a : Attributes = union (only 0) (only 2) in
    let all = superkey_within_all a (only 2) (legal_two a (λ at_0 at_1. absurd (false≢true at_1)) (λ at_2. refl)) superkey (λ (k : ℕ) h. grind (arith, h)) in
    false≢true (all 1 refl)
