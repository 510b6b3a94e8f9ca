-- New evidence: what two rows agree on that do not obey a candidate.
use Rattle.std.proofs.Common.{inl, inr, ◌≡◌, ◌<◌, ◌&&◌, nat_lt, nat_eq, ℕ, Bool, true, false, List, refl, sym}
use Rattle.std.specs.Bool.{Decides}
use Rattle.std.specs.Cmp.Lexicographic.{pointwise, pointwise_decides}
use Rattle.std.specs.Prelude.{Contains}
use Rattle.std.proofs.lemmas.Bool.{cases_Bool, eq-eqb, eqb-true, lt-ltb, ltb-true, true≢false}
use Rattle.attr_sets.specs.Attributes.{Attributes, IsSubset}
use Rattle.dep_model.specs.Tuples.{Tuple, Relation, IsOver, AgreeExactly, AgreeOn, value_at}
use Rattle.dep_model.proofs.TupleLemmas.{IsOver-length}
use Rattle.candidate_sets.specs.Evidence.{IsEvidence, agreement}
use Rattle.candidate_sets.specs.Standing.{IsCandidate}

-- ---- the columns on which two rows agree
same_value : (t u : Tuple) (k : ℕ) → Decides (pointwise nat_eq (value_at t k) (value_at u k)) (value_at t k ≡ value_at u k)
same_value t u k = pointwise_decides (λ (a b : ℕ). (eqb-true a b, eq-eqb a b)) (value_at t k) (value_at u k)

pub agreement-to : (n : ℕ) (t u : Tuple) (k : ℕ) → agreement n t u k ≡ true → (k < n) × (value_at t k ≡ value_at u k)
agreement-to n t u k m = by (nat_lt k n) (pointwise nat_eq (value_at t k) (value_at u k)) refl refl m
  where
    by : (b c : Bool) → nat_lt k n ≡ b → pointwise nat_eq (value_at t k) (value_at u k) ≡ c → (b && c) ≡ true
        → (k < n) × (value_at t k ≡ value_at u k)
    by true true low same h = (ltb-true k n low, (same_value t u k).0 same)
    by true false low same h = absurd (true≢false (sym h))
    by false c low same h = absurd (true≢false (sym h))

pub agreement-from : (n : ℕ) (t u : Tuple) (k : ℕ) → k < n → value_at t k ≡ value_at u k → agreement n t u k ≡ true
agreement-from n t u k low same = both (nat_lt k n) _ (lt-ltb k n low) ((same_value t u k).1 same)
  where
    both : (b c : Bool) → b ≡ true → c ≡ true → (b && c) ≡ true
    both true true h g = refl
    both true false h g = g
    both false c h g = h

pub agreement_exact : (n : ℕ) (r : Relation) (t u : Tuple) → IsOver n r → Contains r t → Contains r u
    → AgreeExactly n (agreement n t u) t u
agreement_exact n r t u over t_in u_in = record {
  first = IsOver-length n r t over t_in;
  second = IsOver-length n r u over u_in;
  equal = λ k low. ((λ m. (agreement-to n t u k m).1), (λ same. agreement-from n t u k low same));
}

-- ---- rows that do not obey a candidate
pub new_evidence : (n most : ℕ) (r : Relation) (es : List Attributes) (a : ℕ) (x : Attributes) (t u : Tuple)
    → a < n → IsOver n r → Contains r t → Contains r u → IsCandidate n most es a x → AgreeOn x t u
    → (value_at t a ≡ value_at u a → ⊥)
    → IsEvidence n r (agreement n t u) × (agreement n t u a ≡ false)
    × IsSubset x (agreement n t u) × (Contains es (agreement n t u) → ⊥)
new_evidence n most r es a x t u a_in over t_in u_in is agree differ = (
  record {
    within = λ k m. lt-ltb k n (agreement-to n t u k m).0;
    one = t;
    other = u;
    one_row = t_in;
    other_row = u_in;
    agree = agreement_exact n r t u over t_in u_in;
  },
  lacks,
  inside,
  λ listed. is.minimal.stands (agreement n t u) listed lacks inside,
)
  where
    lacks : agreement n t u a ≡ false
    lacks = elim (cases_Bool (agreement n t u a)) [
      | inl has ↦ absurd (differ (agreement-to n t u a has).1)
      | inr out ↦ out
    ]

    inside : IsSubset x (agreement n t u)
    inside k m = agreement-from n t u k (ltb-true k n (is.within k m)) (agree k m)
