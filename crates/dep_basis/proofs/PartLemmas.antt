-- Whether a left side has two parts on a scheme: what a dependency parts, and what no dependency does.
use Rattle.std.proofs.Common.{◌≡◌, ℕ, true, false, List, sym, subst, ◌∙◌, inl, inr, ⊎_elim, arith}
use Rattle.std.proofs.lemmas.Bool.{true≢false, cases_eq}
use Rattle.std.proofs.lemmas.Bool.Decides.{nat_tests}
use Rattle.std.specs.Prelude.{All}
use Rattle.attr_sets.specs.Attributes.{Attributes, below, only, intersection, difference, IsSubset, IsEmpty, Disjoint, Intersects}
use Rattle.dep_model.specs.declared.dep.Dep.{Dep}
use Rattle.dep_model.specs.Tuples.{Relation}
use Rattle.dep_model.specs.Dependencies.{Dependency, fd, mvd, ObeysMvd}
use Rattle.dep_model.specs.Deps.{dependencies_of}
use Rattle.dep_model.specs.Implication.{Implies}
use Rattle.dep_model.specs.Keys.{IsPartOn}
use Rattle.dep_model.specs.TwoTuples.{two_tuples}
use Rattle.dep_model.proofs.RuleLemmas.{replication_obeyed}
use Rattle.dep_model.proofs.SchemeLemmas.{mvd_in-to, mvd_in-from}
use Rattle.attr_sets.proofs.AttributesLemmas.{tell_subset, tell_empty, same_at}
use Rattle.dep_basis.specs.Refining.{LeavesWhole}
use Rattle.dep_basis.specs.Pieces.{CanRefine}
use Rattle.dep_basis.specs.Parts.{HasTwoParts, IsParted}
use Rattle.dep_basis.proofs.RefiningLemmas.{split_inside, moves}
use Rattle.dep_basis.proofs.BlockLemmas.{outside_of, whole_legal}
use Rattle.dep_basis.proofs.BasisLemmas.{split_broken}

-- ---- what a dependency with a left side apart from a piece does to a set in the piece
module _ (n : ℕ) (ds : List Dep) (x w v t beyond : Attributes) (can : CanRefine n ds x w) (v_in : IsSubset v (below n)) (apart : Disjoint v w) (inside : IsSubset beyond w) where
  -- it determines some of it
  pub parted_fd : Implies n (dependencies_of ds) (fd v t) → Intersects t beyond → IsParted n (dependencies_of ds) x beyond
  parted_fd given common = inl (
    common.0,
    common.2,
    moves n (dependencies_of ds) x w v t can.lhs can.universe v_in common.0 apart (inside common.0 common.2) common.1 can.implied given,
  )

  -- it parts it
  pub parted_mvd : Implies n (dependencies_of ds) (mvd v t) → Intersects t beyond → (k : ℕ) → beyond k ≡ true → t k ≡ false → IsParted n (dependencies_of ds) x beyond
  parted_mvd given common k in_beyond out = inr (
    intersection w t,
    (λ j m. can.universe j (grind (arith, m))),
    split_inside n (dependencies_of ds) x w v t can.lhs can.universe v_in apart can.implied given,
    (common.0, common.2, grind (arith, inside common.0 common.2, common.1)),
    (k, in_beyond, grind (arith, in_beyond, out)),
  )

-- ---- on a scheme
pub mvd_on_scheme : (n : ℕ) (scheme x w : Attributes) (r : Relation) → IsSubset scheme (below n) → ObeysMvd (below n) x w r → ObeysMvd scheme x (intersection w scheme) r
mvd_on_scheme n scheme x w r scheme_in obeys t u t_in u_in agree =
    let v = obeys t u t_in u_in agree in
    (v.0, v.1, (λ (k : ℕ) m. v.2 k (grind (arith, m))), (λ (k : ℕ) m. v.3 k (grind (arith, m, scheme_in k))))

-- two attributes lie beyond x
pub record TwoBeyond (beyond : Attributes) : Type 0 where
  pub one : ℕ
  pub other : ℕ
  pub first : beyond one ≡ true
  pub second : beyond other ≡ true
  pub differ : one ≡ other → ⊥

pub two_beyond : (beyond rest : Attributes) (i k : ℕ) → beyond i ≡ true → rest ≡ difference beyond (only i) → rest k ≡ true → TwoBeyond beyond
two_beyond beyond rest i k first is second = record {
  one = i;
  other = k;
  first = first;
  second = grind (arith, same_at is k, second);
  differ = λ same. true≢false (sym second ∙ grind (arith, nat_tests, same_at is k, same));
}

module _ (n : ℕ) (ds : List Dep) (scheme x beyond : Attributes) (scheme_in : IsSubset scheme (below n)) (x_in : IsSubset x scheme) (is : beyond ≡ difference scheme x) where
  pub parted_two : TwoBeyond beyond → IsParted n (dependencies_of ds) x beyond → HasTwoParts n (dependencies_of ds) scheme x
  parted_two two parted =
      ⊎_elim
      (λ closed.
      let a = closed.0 in
      let a_in : IsSubset (only a) scheme = λ (k : ℕ) e. grind (arith, nat_tests, e, same_at is a, closed.1) in
      record {
        rhs = only a;
        implied = record { within = (x_in, a_in); obeyed = λ r legal. mvd_in-from scheme x (only a) r x_in a_in (replication_obeyed scheme x (only a) r (closed.2 r legal)) };
        not_empty = (a, grind (arith, same_at is a, closed.1), grind (arith, nat_tests));
        rest = elim (cases_eq two.one a) [
          | inl same ↦ (two.other, grind (arith, same_at is two.other, two.second), grind (arith, nat_tests, same_at is two.other, two.second, other_differs two a same))
          | inr differ ↦ (two.one, grind (arith, same_at is two.one, two.first), grind (arith, nat_tests, same_at is two.one, two.first, differ))
        ];
      })
      (λ split.
      let w = split.0 in
      let y_in : IsSubset (intersection w scheme) scheme = λ (k : ℕ) m. grind (arith, m) in
      let in_w = split.3 in
      let out = split.4 in
      record {
        rhs = intersection w scheme;
        implied = record { within = (x_in, y_in); obeyed = λ r legal. mvd_in-from scheme x (intersection w scheme) r x_in y_in (mvd_on_scheme n scheme x w r scheme_in (split.2 r legal)) };
        not_empty = (in_w.0, grind (arith, same_at is in_w.0, in_w.1), grind (arith, same_at is in_w.0, in_w.1, in_w.2));
        rest = (out.0, grind (arith, same_at is out.0, out.1), grind (arith, same_at is out.0, out.1, out.2));
      })
      parted
    where
      other_differs : (two : TwoBeyond beyond) (a : ℕ) → two.one ≡ a → two.other ≡ a → ⊥
      other_differs two a same again = two.differ (same ∙ sym again)

  -- no dependency cuts a piece that has all that lies beyond x
  pub whole_one : (w : Attributes) → CanRefine n ds x w → IsSubset beyond w → All (LeavesWhole w w) (dependencies_of ds) → HasTwoParts n (dependencies_of ds) scheme x → ⊥
  whole_one w can inside whole two =
      let y = two.rhs in
      let y_in = two.implied.within.1 in
      let legal = whole_legal n ds w can.deps whole in
      split_broken n scheme x y w scheme_in x_in y_in can.outside (
        (two.not_empty.0, grind (arith, two.not_empty.1, inside two.not_empty.0, same_at is two.not_empty.0), two.not_empty.2),
        (two.rest.0, grind (arith, two.rest.1, inside two.rest.0, same_at is two.rest.0), two.rest.2),
      )
      (mvd_in-to scheme x y (two_tuples n (outside_of n w)) x_in y_in (two.implied.obeyed (two_tuples n (outside_of n w)) legal))

  -- at most one attribute lies beyond x
  pub none_beyond : IsEmpty beyond → HasTwoParts n (dependencies_of ds) scheme x → ⊥
  none_beyond none two = true≢false (sym two.not_empty.1 ∙ sym (same_at is two.not_empty.0) ∙ none two.not_empty.0)

  pub one_beyond : (i : ℕ) (rest : Attributes) → rest ≡ difference beyond (only i) → IsEmpty rest → HasTwoParts n (dependencies_of ds) scheme x → ⊥
  one_beyond i rest rest_is none two =
      let alone : (k : ℕ) → difference scheme x k ≡ true → k ≡ i = λ (k : ℕ) m. grind (arith, nat_tests, m, same_at is k, same_at rest_is k, none k) in
      let k = two.not_empty.0 in
      let j = two.rest.0 in
      let same : k ≡ j = alone k two.not_empty.1 ∙ sym (alone j two.rest.1) in
      true≢false (sym (subst (λ (m : ℕ). two.rhs m ≡ true) same two.not_empty.2) ∙ grind (arith, two.rest.2))

-- ---- two parts that differ
pub parts_two : (n : ℕ) (ds : List Dependency) (scheme x p q : Attributes) → IsSubset scheme (below n) → IsPartOn n ds scheme x p → IsPartOn n ds scheme x q → (IsSubset q p → ⊥) → HasTwoParts n ds scheme x
parts_two n ds scheme x p q scheme_in first second differ =
    let q_in = second.implied.within.1 in
    let p_in = first.implied.within.1 in
    ⊎_elim
    (λ out. record {
      rhs = p;
      implied = first.implied;
      not_empty = some_of p p_in first.outside first.not_empty;
      rest = (out.0, grind (arith, q_in out.0 out.2, second.outside out.0 out.2), grind (arith, q_in out.0 out.2, out.3));
    })
    (λ inside. absurd (differ inside))
    (tell_subset n q p (λ (k : ℕ) m. scheme_in k (q_in k m)))
  where
    some_of : (p : Attributes) → IsSubset p scheme → Disjoint p x → (IsEmpty p → ⊥) → Intersects (difference scheme x) p
    some_of p p_in outside not_empty = ⊎_elim
        (λ one. (one.0, grind (arith, p_in one.0 one.2, outside one.0 one.2), one.2))
        (λ none. absurd (not_empty none))
        (tell_empty n p (λ (k : ℕ) m. scheme_in k (p_in k m)))
