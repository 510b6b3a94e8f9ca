-- Rows by the numbers of their values: what two of them agree on, and whether all obey a dependency.
use Rattle.std.proofs.Common.{inl, inr, ◌≡◌, ◌+◌, ◌<◌, ◌&&◌, ◌==◌, nat_lt, ℕ, Bool, true, false, List, length, refl, sym, subst, arith}
use mathlib.Core.Path.{fun_ext}
use Rattle.std.proofs.lemmas.Bool.{cases_eq, eq-eqb, eqb-true, ltb-true, true≢false}
use Rattle.std.proofs.lemmas.Bool.Decides.{nat_tests}
use Rattle.attr_sets.specs.Attributes.{Attributes, none, only, union}
use Rattle.attr_sets.proofs.AttributesLemmas.{same_from_within}
use Rattle.row_groups.specs.Interning.{IsInterned, codes_at}
use Rattle.row_groups.specs.Numberings.{number_at}
use Rattle.row_groups.specs.declared.interning.Interned.{Interned}
use Rattle.dep_model.specs.Dependencies.{ObeysFd}
use Rattle.dep_model.specs.Tuples.{Relation, value_at}
use Rattle.row_store.specs.Rows.{row_at}
use Rattle.candidate_sets.specs.Evidence.{agreement}
use Rattle.candidate_sets.proofs.EvidenceLemmas.{agreement-from, agreement-to}
use Rattle.fd_discovery.specs.Leaders.{AreLeadersOn}
use Rattle.fd_discovery.proofs.LeaderLemmas.{led_obeys}
use Rattle.candidate_search.specs.Pairs.{IsBroken, same_codes}

-- ---- equal numbers are equal values
module _ (n : ℕ) (r : Relation) (t : Interned) (coded : IsInterned n r t) (i j : ℕ) (i_in : i < length r) (j_in : j < length r)
    (k : ℕ) (k_in : k < n) where
  pub same_value : number_at (codes_at t k) i ≡ number_at (codes_at t k) j → value_at (row_at r i) k ≡ value_at (row_at r j) k
  same_value same = ((coded.codes k k_in).equal i j i_in j_in).0 same k (eq-eqb k k refl)

  pub same_number : value_at (row_at r i) k ≡ value_at (row_at r j) k → number_at (codes_at t k) i ≡ number_at (codes_at t k) j
  same_number same = ((coded.codes k k_in).equal i j i_in j_in).1 (λ m has.
      subst (λ (l : ℕ). value_at (row_at r i) l ≡ value_at (row_at r j) l) (sym (eqb-true m k has)) same)

-- ---- what two rows agree on
pub same_codes-start : (t : Interned) (i j : ℕ) → none ≡ same_codes t i j 0
same_codes-start t i j = fun_ext (λ k. sym (low k))
  where
    low : (k : ℕ) → same_codes t i j 0 k ≡ false
    low k = grind (arith, nat_tests)

pub same_codes-more : (t : Interned) (i j m : ℕ) → number_at (codes_at t m) i ≡ number_at (codes_at t m) j
    → union (same_codes t i j m) (only m) ≡ same_codes t i j (m + 1)
same_codes-more t i j m same = fun_ext (λ k. elim (cases_eq k m) [
  | inl at ↦ here k at
  | inr other ↦ grind (arith, nat_tests, other)
])
  where
    here : (k : ℕ) → k ≡ m → union (same_codes t i j m) (only m) k ≡ same_codes t i j (m + 1) k
    here k at = subst (λ (l : ℕ). union (same_codes t i j m) (only m) l ≡ same_codes t i j (m + 1) l) (sym at)
        (grind (arith, nat_tests, same))

pub same_codes-not : (t : Interned) (i j m : ℕ) → (number_at (codes_at t m) i ≡ number_at (codes_at t m) j → ⊥)
    → same_codes t i j m ≡ same_codes t i j (m + 1)
same_codes-not t i j m differ = fun_ext (λ k. elim (cases_eq k m) [
  | inl at ↦ here k at
  | inr other ↦ grind (arith, nat_tests, other)
])
  where
    here : (k : ℕ) → k ≡ m → same_codes t i j m k ≡ same_codes t i j (m + 1) k
    here k at = subst (λ (l : ℕ). same_codes t i j m l ≡ same_codes t i j (m + 1) l) (sym at)
        (grind (arith, nat_tests, differ))

pub agreement_is : (n : ℕ) (r : Relation) (t : Interned) (i j : ℕ) → IsInterned n r t → i < length r → j < length r
    → same_codes t i j n ≡ agreement n (row_at r i) (row_at r j)
agreement_is n r t i j coded i_in j_in = same_from_within (same_codes t i j n) (agreement n (row_at r i) (row_at r j))
    (λ k m. let both = parts k m in agreement-from n (row_at r i) (row_at r j) k both.0
    (same_value n r t coded i j i_in j_in k both.0 both.1))
    (λ k m. let both = agreement-to n (row_at r i) (row_at r j) k m in
    whole k both.0 (same_number n r t coded i j i_in j_in k both.0 both.1))
  where
    parts : (k : ℕ) → same_codes t i j n k ≡ true → (k < n) × (number_at (codes_at t k) i ≡ number_at (codes_at t k) j)
    parts k m = by (nat_lt k n) (number_at (codes_at t k) i == number_at (codes_at t k) j) refl refl m
      where
        by : (b c : Bool) → nat_lt k n ≡ b → (number_at (codes_at t k) i == number_at (codes_at t k) j) ≡ c
            → (b && c) ≡ true → (k < n) × (number_at (codes_at t k) i ≡ number_at (codes_at t k) j)
        by true true low same h = (ltb-true k n low, eqb-true (number_at (codes_at t k) i) (number_at (codes_at t k) j) same)
        by true false low same h = absurd (true≢false (sym h))
        by false c low same h = absurd (true≢false (sym h))

    whole : (k : ℕ) → k < n → number_at (codes_at t k) i ≡ number_at (codes_at t k) j → same_codes t i j n k ≡ true
    whole k low same = grind (arith, nat_tests, low, same)

-- ---- whether rows obey a dependency
-- where each row has the number of its leader
pub obeyed_by : (n : ℕ) (r : Relation) (t : Interned) (x : Attributes) (a : ℕ) (leaders : List ℕ) → IsInterned n r t → a < n
    → AreLeadersOn r x leaders
    → ((j : ℕ) → j < length r → number_at (codes_at t a) (number_at leaders j) ≡ number_at (codes_at t a) j)
    → ObeysFd x (only a) r
obeyed_by n r t x a leaders coded a_in led same =
    led_obeys r x leaders led a (codes_at t a) (coded.codes a a_in) (λ j j_in. sym (same j j_in))

-- a row that has another number than its leader
pub broken_by : (n : ℕ) (r : Relation) (t : Interned) (x : Attributes) (a : ℕ) (leaders : List ℕ) (i j : ℕ)
    → IsInterned n r t → a < n → AreLeadersOn r x leaders → j < length r → i ≡ number_at leaders j
    → (number_at (codes_at t a) i ≡ number_at (codes_at t a) j → ⊥) → IsBroken r x a i j
broken_by n r t x a leaders i j coded a_in led j_in is other =
    let low : i < length r = subst (λ (k : ℕ). k < length r) (sym is) (led.within j j_in) in
    record {
      first = low;
      second = j_in;
      agree = λ k m. subst (λ (l : ℕ). value_at (row_at r l) k ≡ value_at (row_at r j) k) (sym is)
          (sym (led.agrees j j_in k m));
      differ = λ same. other (same_number n r t coded i j low j_in a a_in same);
    }
