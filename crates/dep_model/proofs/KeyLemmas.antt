-- Superkeys, and the key that is left where attributes are tried from the last to the first.
use Rattle.std.proofs.Common.{◌≡◌, ℕ, false, List, sym, ap, ◌∙◌, inl, inr, arith}
use Rattle.std.proofs.lemmas.Bool.{cases_eq, true≢false, true_from_ne_false}
use Rattle.std.proofs.lemmas.Bool.Decides.{nat_tests}
use Rattle.attr_sets.specs.Attributes.{Attributes, below, only, union, difference, IsSubset}
use Rattle.attr_sets.specs.declared.narrowing.Direction.TheVariants.{Descending}
use Rattle.attr_sets.proofs.NarrowingLemmas.{narrowed_passes, narrowed_minimal, one_narrowed}
use Rattle.dep_model.specs.Dependencies.{Dependency, fd}
use Rattle.dep_model.specs.Implication.{Implies}
use Rattle.dep_model.specs.OnSchemes.{ImpliedOn}
use Rattle.dep_model.specs.Keys.{IsSuperkey, IsKey, IsPrime, IsGreedyKey}
use Rattle.dep_model.proofs.RuleLemmas.{reflexivity_obeyed, transitivity_obeyed, fd_weaker_obeyed}
use Rattle.dep_model.proofs.SchemeLemmas.{fd_in-to, fd_in-from}

-- ---- a functional dependency is implied on a scheme exactly where it lies within it and is implied
pub fd_on-to : (n : ℕ) (ds : List Dependency) (scheme x y : Attributes) → ImpliedOn n ds scheme (fd x y) → Implies n ds (fd x y)
fd_on-to n ds scheme x y on r legal = fd_in-to scheme x y r on.within.0 on.within.1 (on.obeyed r legal)

pub fd_on-from : (n : ℕ) (ds : List Dependency) (scheme x y : Attributes) → IsSubset x scheme → IsSubset y scheme → Implies n ds (fd x y) → ImpliedOn n ds scheme (fd x y)
fd_on-from n ds scheme x y x_in y_in implied = record {
  within = (x_in, y_in);
  obeyed = λ r legal. fd_in-from scheme x y r x_in y_in (implied r legal);
}

-- ---- superkeys
pub superkey-from : (n : ℕ) (ds : List Dependency) (scheme k : Attributes) → IsSubset k scheme → Implies n ds (fd k scheme) → IsSuperkey n ds scheme k
superkey-from n ds scheme k inside implied = fd_on-from n ds scheme k scheme inside (λ (j : ℕ) m. m) implied

-- a scheme is a superkey of itself
pub scheme_superkey : (n : ℕ) (ds : List Dependency) (scheme : Attributes) → IsSuperkey n ds scheme scheme
scheme_superkey n ds scheme = superkey-from n ds scheme scheme (λ (j : ℕ) m. m) (λ r legal. reflexivity_obeyed scheme scheme r (λ (j : ℕ) m. m))

-- what holds a superkey is one
pub superkey_more : (n : ℕ) (ds : List Dependency) (scheme j k : Attributes) → IsSubset j k → IsSubset k scheme → IsSuperkey n ds scheme j → IsSuperkey n ds scheme k
superkey_more n ds scheme j k inside within superkey =
    superkey-from n ds scheme k within (λ r legal. fd_weaker_obeyed j scheme k scheme r inside (λ (i : ℕ) m. m) (fd_on-to n ds scheme j scheme superkey r legal))

-- ---- the greedy key
pub greedy_is_key : (n : ℕ) (ds : List Dependency) (scheme k : Attributes) → IsSubset scheme (below n) → IsGreedyKey n ds scheme k → IsKey n ds scheme k
greedy_is_key n ds scheme k low greedy = record {
  superkey = narrowed_passes Descending (IsSuperkey n ds scheme) scheme scheme k greedy n low (scheme_superkey n ds scheme);
  minimal = λ j inside superkey a member.
      narrowed_minimal Descending (IsSuperkey n ds scheme) scheme scheme k greedy (superkey_more n ds scheme) j inside superkey a member
      (greedy.within a member);
}

pub one_greedy : (bound n : ℕ) (ds : List Dependency) (scheme one other : Attributes) → IsSubset scheme (below bound)
    → IsGreedyKey n ds scheme one → IsGreedyKey n ds scheme other → one ≡ other
one_greedy bound n ds scheme one other low first second =
    one_narrowed Descending (IsSuperkey n ds scheme) scheme scheme one other first second bound low

-- ---- keys of a superkey, and the attributes of keys
-- what a superkey of a scheme has for a key is a key of the scheme
pub key_of_superkey : (n : ℕ) (ds : List Dependency) (scheme s k : Attributes) → IsSuperkey n ds scheme s → IsKey n ds s k → IsKey n ds scheme k
key_of_superkey n ds scheme s k superkey key = record {
  superkey = superkey-from n ds scheme k (λ (j : ℕ) m. superkey.within.0 j (key.superkey.within.0 j m))
      (λ r legal. transitivity_obeyed k s scheme r (fd_on-to n ds s k s key.superkey r legal) (fd_on-to n ds scheme s scheme superkey r legal));
  minimal = λ j inside least.
      key.minimal j inside
      (superkey-from n ds s j (λ (i : ℕ) m. key.superkey.within.0 i (inside i m))
      (λ r legal. fd_weaker_obeyed j scheme j s r (λ (i : ℕ) m. m) superkey.within.0 (fd_on-to n ds scheme j scheme least r legal)));
}

-- an attribute that turns a set into one with a key, where it was no superkey, is in that key
pub prime-from : (n : ℕ) (ds : List Dependency) (scheme x k : Attributes) (a : ℕ) → IsSubset x scheme → (IsSuperkey n ds scheme x → ⊥) → IsKey n ds scheme k → IsSubset k (union x (only a))
    → IsPrime n ds scheme a
prime-from n ds scheme x k a x_in none key inside = (k, key, true_from_ne_false (k a) (λ out. none (superkey_more n ds scheme k x (without_a out) x_in key.superkey)))
  where
    without_a : k a ≡ false → IsSubset k x
    without_a out j m = elim (cases_eq j a) [
      | inl same ↦ absurd (true≢false (sym m ∙ ap k same ∙ out))
      | inr other ↦ grind (arith, nat_tests, inside j m)
    ]

-- and each attribute of a key does so to the rest of it
pub prime-to : (n : ℕ) (ds : List Dependency) (scheme : Attributes) (a : ℕ) → IsPrime n ds scheme a
    → (x : Attributes) × (k : Attributes) × IsSubset x scheme × (IsSuperkey n ds scheme x → ⊥) × IsKey n ds scheme k × IsSubset k (union x (only a))
prime-to n ds scheme a prime =
    let k = prime.0 in (
      difference k (only a),
      k,
      (λ (j : ℕ) m. prime.1.superkey.within.0 j (grind (arith, m))),
      (λ superkey. true≢false (sym (prime.1.minimal (difference k (only a)) (λ (j : ℕ) m. grind (arith, m)) superkey a prime.2) ∙ grind (arith, nat_tests))),
      prime.1,
      (λ (j : ℕ) m. grind (arith, nat_tests, m)),
    )
