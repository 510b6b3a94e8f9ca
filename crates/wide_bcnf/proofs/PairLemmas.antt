-- Pairs: those of a part are pairs of the whole, and a scheme without one is in Boyce-Codd form.
use Rattle.std.proofs.Common.{◌≡◌, ℕ, ◌+◌, ◌<◌, ◌≤◌, zero, suc, true, false, List, sym, subst, ◌∙◌, ◌⊎◌, inl, inr, ⊎_elim, arith}
use Rattle.std.proofs.lemmas.Bool.{true≢false, cases_eq, cases_Bool, eqb-true, ltb-true}
use Rattle.std.proofs.lemmas.Bool.Decides.{nat_tests}
use Rattle.std.specs.Prelude.{All}
use Rattle.attr_sets.specs.declared.set.TheConstants.{MOST_ATTRIBUTES}
use Rattle.attr_sets.specs.Attributes.{Attributes, below, only, union, difference, IsSubset}
use Rattle.dep_model.specs.declared.dep.Dep.{Dep}
use Rattle.dep_model.specs.Dependencies.{Dependency, fd}
use Rattle.dep_model.specs.Deps.{dependencies_of, IsDepWithin}
use Rattle.dep_model.specs.Forms.{IsBcnf}
use Rattle.dep_model.specs.Implication.{Implies}
use Rattle.dep_model.proofs.KeyLemmas.{fd_on-to, superkey-from}
use Rattle.dep_model.proofs.RuleLemmas.{reflexivity_obeyed, fd_weaker_obeyed}
use Rattle.fd_closure.proofs.ClosureLemmas.{fd_each-from}
use Rattle.dep_basis.proofs.RestLemmas.{block_at}
use Rattle.wide_bcnf.specs.Pairs.{IsPair, HasPair, IsFirstPair, NoneBefore}
use Rattle.attr_sets.proofs.AttributesLemmas.{same_at}

-- what a set determines, a larger one does
pub wider_determines : (n : ℕ) (ds : List Dependency) (x v : Attributes) (a : ℕ) → IsSubset x v
    → Implies n ds (fd x (only a)) → Implies n ds (fd v (only a))
wider_determines n ds x v a inside implied r legal = fd_weaker_obeyed x (only a) v (only a) r inside (λ k m. m)
    (implied r legal)

-- a member of a set is determined
member_determined : (n : ℕ) (ds : List Dependency) (x : Attributes) (b : ℕ) → x b ≡ true → Implies n ds (fd x (only b))
member_determined n ds x b member r legal = reflexivity_obeyed x (only b) r
    (λ (k : ℕ) e. subst (λ (i : ℕ). x i ≡ true) (sym (eqb-true k b e)) member)

-- a pair of a part is a pair of the whole
pub pair_of_part : (n : ℕ) (ds : List Dependency) (scheme part : Attributes) (a b : ℕ) → IsSubset part scheme
    → IsPair n ds part a b → IsPair n ds scheme a b
pair_of_part n ds scheme part a b inside pair = record {
  first = inside a pair.first;
  second = inside b pair.second;
  differ = pair.differ;
  determined = wider_determines n ds (difference part (union (only a) (only b))) (difference scheme (union (only a) (only b))) a
      (λ (k : ℕ) m. grind (arith, m, inside k)) pair.determined;
}

-- ---- pairs, as they are tried
-- the others of the scheme determine the first attribute of a pair
pub pair_begins : (n : ℕ) (ds : List Dependency) (scheme others : Attributes) (a d : ℕ)
    → others ≡ difference scheme (only a) → IsPair n ds scheme a d → Implies n ds (fd others (only a))
pair_begins n ds scheme others a d is pair =
    wider_determines n ds (difference scheme (union (only a) (only d))) others a
    (λ (k : ℕ) m. let e = same_at is k in grind (arith, e, m)) pair.determined

pub pair_from : (n : ℕ) (ds : List Dependency) (scheme others rest : Attributes) (a b : ℕ)
    → others ≡ difference scheme (only a) → rest ≡ difference others (only b)
    → scheme a ≡ true → others b ≡ true → Implies n ds (fd rest (only a)) → IsPair n ds scheme a b
pair_from n ds scheme others rest a b is left a_in b_in implied =
    let there = same_at is b in
    record {
      first = a_in;
      second = grind (arith, nat_tests, there, b_in);
      differ = λ same. grind (arith, nat_tests, there, b_in, same);
      determined = wider_determines n ds rest (difference scheme (union (only a) (only b))) a
          (λ (k : ℕ) m. let e = same_at is k in let f = same_at left k in grind (arith, e, f, m)) implied;
    }

pub pair_second : (n : ℕ) (ds : List Dependency) (scheme others : Attributes) (a b : ℕ)
    → others ≡ difference scheme (only a) → IsPair n ds scheme a b → others b ≡ true
pair_second n ds scheme others a b is pair = let e = same_at is b in grind (arith, nat_tests, e, pair.second, pair.differ)

pub pair_rest : (n : ℕ) (ds : List Dependency) (scheme others rest : Attributes) (a b : ℕ)
    → others ≡ difference scheme (only a) → rest ≡ difference others (only b)
    → IsPair n ds scheme a b → Implies n ds (fd rest (only a))
pair_rest n ds scheme others rest a b is left pair =
    wider_determines n ds (difference scheme (union (only a) (only b))) rest a
    (λ (k : ℕ) m. let e = same_at is k in let f = same_at left k in grind (arith, e, f, m)) pair.determined

-- ---- the order of pairs
-- where none begins with a, the next may begin with the attribute after it
pub none_before_next : (n : ℕ) (ds : List Dependency) (scheme : Attributes) (a b : ℕ) → NoneBefore n ds scheme a b
    → ((d : ℕ) → IsPair n ds scheme a d → ⊥) → NoneBefore n ds scheme (a + 1) 0
none_before_next n ds scheme a b before none c d pair = ⊎_elim
    (λ (later : a < c). elim (cases_eq c (a + 1))
    [ inl same ↦ inr (same, omega arith) | inr other ↦ inl (omega arith) ])
    (λ same. absurd (none d (subst (λ (i : ℕ). IsPair n ds scheme i d) same.0 pair)))
    (before c d pair)

pub second_from : (n : ℕ) (ds : List Dependency) (scheme : Attributes) (a b : ℕ) → NoneBefore n ds scheme a b → (d : ℕ)
    → IsPair n ds scheme a d → b ≤ d
second_from n ds scheme a b before d pair = ⊎_elim (λ (later : a < a). absurd (omega arith)) (λ same. same.1)
    (before a d pair)

pub first_from : (n : ℕ) (ds : List Dependency) (scheme : Attributes) (a b c : ℕ) → NoneBefore n ds scheme a b
    → IsPair n ds scheme a c → ((d : ℕ) → IsPair n ds scheme a d → c ≤ d) → IsFirstPair n ds scheme a c
first_from n ds scheme a b c before pair least = record {
  pair = pair;
  least_first = λ e d other. ⊎_elim (λ (later : a < e). omega arith) (λ same. omega (arith, same.0)) (before e d other);
  least_second = least;
}

pub no_pair_past_width : (n : ℕ) (ds : List Dependency) (scheme : Attributes) (a b : ℕ) → IsSubset scheme (below n) → n ≤ a
    → NoneBefore n ds scheme a b → HasPair n ds scheme → ⊥
no_pair_past_width n ds scheme a b low past before has =
    let first = ltb-true has.0 n (low has.0 has.2.first) in
    ⊎_elim (λ (later : a < has.0). omega arith) (λ same. omega (arith, same.0)) (before has.0 has.1 has.2)

pub none_before_first : (n : ℕ) (ds : List Dependency) (scheme : Attributes) (a b : ℕ) → IsFirstPair n ds scheme a b
    → NoneBefore n ds scheme a b
none_before_first n ds scheme a b first c d pair = elim (cases_eq c a) [
  | inl same ↦ inr (same, first.least_second d (subst (λ (i : ℕ). IsPair n ds scheme i d) same pair))
  | inr other ↦ let least = first.least_first c d pair in inl (omega arith)
]

pub none_before_part : (n : ℕ) (ds : List Dependency) (scheme part : Attributes) (a b : ℕ) → IsSubset part scheme
    → NoneBefore n ds scheme a b → NoneBefore n ds part a b
none_before_part n ds scheme part a b inside none c d pair = none c d (pair_of_part n ds scheme part c d inside pair)

-- ---- a scheme without a pair
tell_closed : (n : ℕ) (ds : List Dep) (x : Attributes) (a : ℕ) → n ≤ MOST_ATTRIBUTES → All (IsDepWithin (below n)) ds
    → IsSubset x (below n) → a < n
    → Implies n (dependencies_of ds) (fd x (only a)) ⊎ (Implies n (dependencies_of ds) (fd x (only a)) → ⊥)
tell_closed n ds x a within_limit within x_in low = ⊎_elim
    (λ closed. inl closed.1)
    (λ block. inr (λ implied. block.1.outside a block.2 (low, implied)))
    (block_at n ds x a within_limit within x_in low)

-- each attribute of a part of the scheme is determined, or some is not
tell_all : (n : ℕ) (ds : List Dep) (x scheme : Attributes) → n ≤ MOST_ATTRIBUTES → All (IsDepWithin (below n)) ds
    → IsSubset x (below n) → (m : ℕ) → m ≤ n
    → ((a : ℕ) → a < m → scheme a ≡ true → Implies n (dependencies_of ds) (fd x (only a)))
    ⊎ ((a : ℕ) × (scheme a ≡ true) × (Implies n (dependencies_of ds) (fd x (only a)) → ⊥))
tell_all n ds x scheme within_limit within x_in zero low = inl (λ a lt m. absurd (omega arith))
tell_all n ds x scheme within_limit within x_in (suc m) low = ⊎_elim
    (λ all. ⊎_elim
    (λ (member : scheme m ≡ true). ⊎_elim
    (λ closed. inl (λ a lt h. elim (cases_eq a m) [
      | inl same ↦ subst (λ (i : ℕ). Implies n (dependencies_of ds) (fd x (only i))) (sym same) closed
      | inr other ↦ all a (omega arith) h
    ]))
    (λ not. inr (m, member, not))
    (tell_closed n ds x m within_limit within x_in (omega arith)))
    (λ (outside : scheme m ≡ false). inl (λ a lt h. elim (cases_eq a m) [
      | inl same ↦ absurd (true≢false (sym h ∙ subst (λ (i : ℕ). scheme i ≡ false) (sym same) outside))
      | inr other ↦ all a (omega arith) h
    ]))
    (cases_Bool (scheme m)))
    (λ found. inr found)
    (tell_all n ds x scheme within_limit within x_in m (omega arith))

pub without_pair_bcnf : (n : ℕ) (ds : List Dep) (scheme : Attributes) → n ≤ MOST_ATTRIBUTES → All (IsDepWithin (below n)) ds
    → IsSubset scheme (below n)
    → (HasPair n (dependencies_of ds) scheme → ⊥) → IsBcnf n (dependencies_of ds) scheme
without_pair_bcnf n ds scheme within_limit within scheme_in none x a on lacks =
    let theory = dependencies_of ds in
    let x_in : IsSubset x (below n) = λ (k : ℕ) m. scheme_in k (on.within.0 k m) in
    let determined : Implies n theory (fd x (only a)) = fd_on-to n theory scheme x (only a) on in
    ⊎_elim
    (λ all. superkey-from n theory scheme x on.within.0
    (fd_each-from n theory x scheme (λ (b : ℕ) m. all b (ltb-true b n (scheme_in b m)) m)))
    (λ found.
    let b = found.0 in
    let differ : a ≡ b → ⊥ = λ same. found.2 (subst (λ (i : ℕ). Implies n theory (fd x (only i))) same determined) in
    absurd (none (
      a,
      b,
      record {
        first = on.within.1 a (grind (arith, nat_tests));
        second = found.1;
        differ = differ;
        determined = wider_determines n theory x (difference scheme (union (only a) (only b))) a
            (beside x b (on.within.0) lacks found.2) determined;
      },
    )))
    (tell_all n ds x scheme within_limit within x_in n (omega arith))
  where
    beside : (x : Attributes) (b : ℕ) → IsSubset x scheme → x a ≡ false
        → (Implies n (dependencies_of ds) (fd x (only b)) → ⊥) → IsSubset x (difference scheme (union (only a) (only b)))
    beside x b inside lacks not k m =
        let not_a : k ≡ a → ⊥ = λ same. true≢false (sym m ∙ subst (λ (i : ℕ). x i ≡ false) (sym same) lacks) in
        let not_b : k ≡ b → ⊥ = λ same. not
        (member_determined n (dependencies_of ds) x b (subst (λ (i : ℕ). x i ≡ true) same m)) in
        grind (arith, nat_tests, inside k m, not_a, not_b)
