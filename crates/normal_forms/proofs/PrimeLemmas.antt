-- Prime attributes: those by which some set becomes a superkey. The set may be taken with all
-- attributes that add only themselves.
use Rattle.std.proofs.Common.{◌≡◌, ℕ, ◌<◌, true, false, List, sym, ap, subst, ◌∙◌, inl, inr, ⊎_elim, arith}
use Rattle.std.proofs.lemmas.Bool.{true≢false, cases_Bool, cases_eq, true_from_ne_false, ltb-true, or_cases}
use Rattle.std.proofs.lemmas.Bool.Decides.{nat_tests}
use Rattle.attr_sets.specs.Attributes.{Attributes, below, only, union, intersection, difference, IsSubset, count_below}
use Rattle.attr_sets.specs.declared.set.TheConstants.{MOST_ATTRIBUTES}
use Rattle.attr_sets.proofs.AttributesLemmas.{count_below-lt, same_at}
use Rattle.dep_model.specs.Dependencies.{Dependency}
use Rattle.dep_model.specs.Keys.{IsSuperkey, IsKey, IsPrime, IsGreedyKey, InClosure}
use Rattle.dep_model.proofs.RuleLemmas.{reflexivity_obeyed, transitivity_obeyed, fd_union_obeyed, fd_weaker_obeyed}
use Rattle.dep_model.proofs.KeyLemmas.{superkey-from, superkey_more, fd_on-to, greedy_is_key, key_of_superkey, prime-to}
use Rattle.normal_forms.specs.Adding.{AddOnlyThemselves}
use Rattle.normal_forms.specs.Primes.{BecomesSuperkeyBy, ArePrime}
use Rattle.normal_forms.proofs.AddedLemmas.{closure_more}

-- ---- a key of a set that becomes a superkey by an attribute
module _ (n : ℕ) (ds : List Dependency) (scheme x w k : Attributes) (a : ℕ) (low : IsSubset scheme (below n)) (x_in : IsSubset x scheme) (becomes_superkey : BecomesSuperkeyBy n ds scheme x a) (is : w ≡ union x (only a))
    (greedy : IsGreedyKey n ds w k) where
  superkey : IsSuperkey n ds scheme w
  superkey = subst (λ (v : Attributes). IsSuperkey n ds scheme v) (sym is) becomes_superkey.0

  pub completed_key : IsKey n ds scheme k
  completed_key = key_of_superkey n ds scheme w k superkey (greedy_is_key n ds w k (λ j m. low j (superkey.within.0 j m)) greedy)

  pub completed_member : k a ≡ true
  completed_member = true_from_ne_false (k a) (λ out. becomes_superkey.1 (superkey_more n ds scheme k x (without_a out) x_in completed_key.superkey))
    where
      without_a : k a ≡ false → IsSubset k x
      without_a out j m = elim (cases_eq j a) [
        | inl same ↦ absurd (true≢false (sym m ∙ ap k same ∙ out))
        | inr other ↦ grind (arith, nat_tests, same_at is j, greedy.within j m)
      ]

-- ---- no set becomes a superkey by it
-- what x has of a set, with the rest
abbrev with_rest : Attributes → Attributes → Attributes → Attributes
with_rest x others rest = union (intersection x others) rest

-- what is left without an attribute
pub without_in : (others whole : Attributes) (a : ℕ) → others ≡ difference whole (only a) → IsSubset others whole
without_in others whole a is k m = grind (arith, same_at is k, m)

module _ (n : ℕ) (ds : List Dependency) (scheme whole others rest : Attributes) (a : ℕ) (low : IsSubset scheme (below n)) (added : AddOnlyThemselves n ds scheme whole)
    (others_is : others ≡ difference whole (only a)) (rest_is : rest ≡ difference (difference scheme whole) (only a)) where
  -- the set beside the attribute
  pub beside_in : (y : Attributes) → IsSubset whole scheme → IsSubset y others → IsSubset (union y rest) scheme
  beside_in y whole_in y_in k m = elim (or_cases (y k) (rest k) m) [
    | inl in_y ↦ whole_in k (grind (arith, same_at others_is k, y_in k in_y))
    | inr in_rest ↦ grind (arith, same_at rest_is k, in_rest)
  ]

  module _ (x : Attributes) (x_in : IsSubset x scheme) where
    beside_more : IsSubset (union x (only a)) (union (with_rest x others rest) (only a))
    beside_more j m = elim (cases_eq j a) [
      | inl same ↦ grind (arith, nat_tests, same)
      | inr other ↦ grind (arith, nat_tests, m, other, same_at others_is j, same_at rest_is j, x_in j)
    ]

    -- it determines the attribute only where x does
    beside_closed : IsSubset (with_rest x others rest) scheme → InClosure n ds (with_rest x others rest) a → InClosure n ds x a
    beside_closed inside closed =
        let out : with_rest x others rest a ≡ false = grind (arith, nat_tests, same_at others_is a, same_at rest_is a) in
        closure_more n ds (intersection (with_rest x others rest) whole) x a (λ k m. grind (arith, m, same_at others_is k, same_at rest_is k)) (added (with_rest x others rest) a inside closed out)

  pub not_prime : IsSubset whole scheme → ((y : Attributes) → IsSubset y others → BecomesSuperkeyBy n ds scheme (union y rest) a → ⊥) → IsPrime n ds scheme a → ⊥
  not_prime whole_in none prime =
      let found = prime-to n ds scheme a prime in
      let x = found.0 in
      let k = found.1 in
      let x_in = found.2 in
      let key = found.4 in
      let s = with_rest x others rest in
      let s_in : IsSubset s scheme = beside_in (intersection x others) whole_in (λ j m. grind (arith, m)) in
      let a_in : scheme a ≡ true = prime.1.superkey.within.0 a prime.2 in
      let one_in : IsSubset (only a) scheme = λ (j : ℕ) m. grind (arith, nat_tests, m, a_in) in
      let both_in = λ (v : Attributes) (v_in : IsSubset v scheme) (j : ℕ) (m : union v (only a) j ≡ true). ⊎_elim (v_in j) (one_in j) (or_cases (v j) (only a j) m) in
      let with_x : IsSuperkey n ds scheme (union x (only a)) = superkey_more n ds scheme k (union x (only a)) found.5 (both_in x x_in) key.superkey in
      let with_s : IsSuperkey n ds scheme (union s (only a)) = superkey_more n ds scheme (union x (only a)) (union s (only a)) (beside_more x x_in) (both_in s s_in) with_x in
      none (intersection x others) (λ j m. grind (arith, m)) (
        with_s,
        (λ superkey.
            let closed : InClosure n ds s a = (ltb-true a n (low a a_in), λ r legal. fd_weaker_obeyed s scheme s (only a) r (λ (j : ℕ) m. m) one_in (fd_on-to n ds scheme s scheme superkey r legal)) in
            let by_x = beside_closed x x_in s_in closed in
            found.3 (superkey-from n ds scheme x x_in (λ r legal. transitivity_obeyed x (union x (only a)) scheme r
            (fd_union_obeyed x x (only a) r (reflexivity_obeyed x x r (λ (j : ℕ) m. m)) (by_x.1 r legal))
            (fd_on-to n ds scheme (union x (only a)) scheme with_x r legal)))),
      )

-- ---- what is known to be prime
-- with a key
pub primes_more : (n : ℕ) (ds : List Dependency) (scheme x k y : Attributes) → y ≡ union x k → ArePrime n ds scheme x → IsKey n ds scheme k → ArePrime n ds scheme y
primes_more n ds scheme x k y is primes key a m = elim (or_cases (x a) (k a) (sym (same_at is a) ∙ m)) [
  | inl in_x ↦ primes a in_x
  | inr in_k ↦ (k, key, in_k)
]

-- what is still asked becomes less
pub candidates_less : (asked known more left : Attributes) (a : ℕ) → a < MOST_ATTRIBUTES → left ≡ difference asked known → left a ≡ true → IsSubset known more → more a ≡ true
    → count_below (difference asked more) MOST_ATTRIBUTES < count_below (difference asked known) MOST_ATTRIBUTES
candidates_less asked known more left a within_limit is member grows now =
    count_below-lt MOST_ATTRIBUTES (difference asked more) (difference asked known) a (λ k m. elim (cases_Bool (known k)) [
      | inl before ↦ absurd (true≢false (sym (grows k before) ∙ grind (arith, m)))
      | inr out ↦ grind (arith, m, out)
    ]) within_limit (grind (arith, now)) (sym (same_at is a) ∙ member)
