-- What a cut leaves: each step keeps a candidate.
use Rattle.std.proofs.Common.{◌≡◌, ℕ, ◌<◌, true, false, List, get_or, sym, ap, ◌∙◌, inl, inr, ⊎_elim, arith}
use mathlib.Core.Path.{fun_ext}
use Rattle.std.proofs.lemmas.Bool.{true≢false, cases_Bool, false_from_ne_true}
use Rattle.std.proofs.lemmas.Bool.Decides.{nat_tests}
use Rattle.std.specs.Prelude.{All}
use Rattle.attr_sets.specs.Attributes.{Attributes, below, only, none, union, intersection, difference, IsSubset, IsEmpty, Disjoint, Intersects}
use Rattle.dep_model.specs.declared.dep.Dep.{Dep}
use Rattle.dep_model.specs.Deps.{dependency_of}
use Rattle.dep_model.specs.Tuples.{Relation, AgreeOn}
use Rattle.dep_model.specs.Dependencies.{Dependency, fd, mvd, ObeysMvd, left_of, right_of}
use Rattle.dep_model.specs.Implication.{Implies}
use Rattle.dep_model.proofs.RuleLemmas.{complementation_obeyed, mreflexivity_obeyed, replication_obeyed, coalescence_obeyed, fd_weaker_obeyed}
use Rattle.dep_basis.specs.Refining.{IsCandidate, LeavesWhole}
use Rattle.attr_sets.proofs.AttributesLemmas.{same_at}

-- ---- over one relation
-- x ->> w and v ->> t, with v apart from w, give x ->> what w and t share
pub split_inside_obeyed : (scheme x w v t : Attributes) (r : Relation) → IsSubset x scheme → IsSubset v scheme → Disjoint v w → ObeysMvd scheme x w r → ObeysMvd scheme v t r → ObeysMvd scheme x (intersection w t) r
split_inside_obeyed scheme x w v t r x_in v_in apart first second a b a_in b_in agree =
    let m = first a b a_in b_in agree in
    let on_v : AgreeOn v m.0 b = λ (k : ℕ) h. elim (cases_Bool (x k)) [
      | inl in_x ↦ m.2 k (grind (arith, in_x)) ∙ agree k in_x
      | inr out ↦ m.3 k (grind (arith, out, v_in k h, apart k h))
    ] in
    let s = second m.0 b m.1 b_in on_v in (
      s.0,
      s.1,
      (λ (k : ℕ) h. elim (cases_Bool (union v t k)) [
        | inl in_vt ↦ s.2 k in_vt ∙ m.2 k (grind (arith, h))
        | inr out ↦
            let in_x : x k ≡ true = grind (arith, h, out) in
            s.3 k (grind (arith, out, x_in k in_x)) ∙ sym (agree k in_x)
      ]),
      (λ (k : ℕ) h. elim (cases_Bool (union v t k)) [
        | inl in_vt ↦ s.2 k in_vt ∙ m.3 k (grind (arith, h, in_vt, apart k))
        | inr out ↦ s.3 k (grind (arith, h, out))
      ]),
    )

-- and x ->> what w has beyond t
pub split_outside_obeyed : (scheme x w v t : Attributes) (r : Relation) → IsSubset x scheme → IsSubset w scheme → IsSubset v scheme → Disjoint v w → ObeysMvd scheme x w r → ObeysMvd scheme v t r → ObeysMvd scheme x (difference w t) r
split_outside_obeyed scheme x w v t r x_in w_in v_in apart first second a b a_in b_in agree =
    let m = first a b a_in b_in agree in
    let on_v : AgreeOn v b m.0 = λ (k : ℕ) h. elim (cases_Bool (x k)) [
      | inl in_x ↦ sym (m.2 k (grind (arith, in_x)) ∙ agree k in_x)
      | inr out ↦ sym (m.3 k (grind (arith, out, v_in k h, apart k h)))
    ] in
    let s = second b m.0 b_in m.1 on_v in (
      s.0,
      s.1,
      (λ (k : ℕ) h. elim (cases_Bool (union v t k)) [
        | inl in_vt ↦
            let in_x : x k ≡ true = grind (arith, h, in_vt, apart k) in
            s.2 k in_vt ∙ sym (agree k in_x)
        | inr out ↦ s.3 k (grind (arith, h, out, x_in k, w_in k)) ∙ m.2 k (grind (arith, h))
      ]),
      (λ (k : ℕ) h. elim (cases_Bool (union v t k)) [
        | inl in_vt ↦ s.2 k in_vt
        | inr out ↦ s.3 k (grind (arith, h, out)) ∙ m.3 k (grind (arith, h, out))
      ]),
    )

-- ---- implication
pub replication_implied : (n : ℕ) (ds : List Dependency) (x y : Attributes) → Implies n ds (fd x y) → Implies n ds (mvd x y)
replication_implied n ds x y implied r legal = replication_obeyed (below n) x y r (implied r legal)

module _ (n : ℕ) (ds : List Dependency) (x w v t : Attributes) (x_in : IsSubset x (below n)) (w_in : IsSubset w (below n)) (v_in : IsSubset v (below n)) where
  pub split_inside : Disjoint v w → Implies n ds (mvd x w) → Implies n ds (mvd v t) → Implies n ds (mvd x (intersection w t))
  split_inside apart first second r legal = split_inside_obeyed (below n) x w v t r x_in v_in apart (first r legal) (second r legal)

  pub split_outside : Disjoint v w → Implies n ds (mvd x w) → Implies n ds (mvd v t) → Implies n ds (mvd x (difference w t))
  split_outside apart first second r legal = split_outside_obeyed (below n) x w v t r x_in w_in v_in apart (first r legal) (second r legal)

  -- an attribute of w that v determines
  pub moves : (a : ℕ) → Disjoint v w → w a ≡ true → t a ≡ true → Implies n ds (mvd x w) → Implies n ds (fd v t) → Implies n ds (fd x (only a))
  moves a apart in_w in_t first second r legal =
      coalescence_obeyed (below n) x w v (only a) r v_in (λ (k : ℕ) m. grind (arith, nat_tests, m, in_w)) apart (first r legal)
      (fd_weaker_obeyed v t v (only a) r (λ (k : ℕ) m. m) (λ (k : ℕ) m. grind (arith, nat_tests, m, in_t)) (second r legal))

-- ---- candidates
-- the attributes outside the left side
pub candidate_first : (n : ℕ) (ds : List Dependency) (x w : Attributes) (a : ℕ) → a < n → x a ≡ false → w ≡ difference (below n) x → IsCandidate n ds x a w
candidate_first n ds x w a low out is = record {
  universe = λ k m. grind (arith, same_at is k, m);
  outside = λ k m. grind (arith, same_at is k, m);
  implied = λ r legal. rw (fun_ext {f = w} {g = difference (below n) (union x none)} (λ (k : ℕ). grind (arith, same_at is k))) (complementation_obeyed (below n) x none r (mreflexivity_obeyed (below n) x none r (λ (k : ℕ) m. absurd (true≢false (sym m)))));
  nothing = λ gone. absurd (true≢false (sym (same_at is a ∙ grind (arith, nat_tests, out, low)) ∙ gone));
  closed = λ gone. absurd (true≢false (sym (same_at is a ∙ grind (arith, nat_tests, out, low)) ∙ gone));
}

-- what holds the attribute is left
pub candidate_inside : (n : ℕ) (ds : List Dependency) (x w v t rest : Attributes) (a : ℕ) → IsSubset x (below n) → IsSubset v (below n) → t a ≡ true → Disjoint v w → Implies n ds (mvd v t) → rest ≡ intersection w t → IsCandidate n ds x a w → IsCandidate n ds x a rest
candidate_inside n ds x w v t rest a x_in v_in in_t apart given is before = record {
  universe = λ k m. before.universe k (grind (arith, same_at is k, m));
  outside = λ k m. before.outside k (grind (arith, same_at is k, m));
  implied = λ r legal. rw is (split_inside n ds x w v t x_in before.universe v_in apart before.implied given r legal);
  nothing = λ gone k. grind (arith, same_at is k, before.nothing (grind (arith, same_at is a, gone, in_t)) k);
  closed = λ gone. before.closed (grind (arith, same_at is a, gone, in_t));
}

pub candidate_outside : (n : ℕ) (ds : List Dependency) (x w v t rest : Attributes) (a : ℕ) → IsSubset x (below n) → IsSubset v (below n) → t a ≡ false → Disjoint v w → Implies n ds (mvd v t) → rest ≡ difference w t → IsCandidate n ds x a w → IsCandidate n ds x a rest
candidate_outside n ds x w v t rest a x_in v_in out_t apart given is before = record {
  universe = λ k m. before.universe k (grind (arith, same_at is k, m));
  outside = λ k m. before.outside k (grind (arith, same_at is k, m));
  implied = λ r legal. rw is (split_outside n ds x w v t x_in before.universe v_in apart before.implied given r legal);
  nothing = λ gone k. grind (arith, same_at is k, before.nothing (grind (arith, same_at is a, gone, out_t)) k);
  closed = λ gone. before.closed (grind (arith, same_at is a, gone, out_t));
}

-- nothing is left where the attribute is determined
pub candidate_nothing : (n : ℕ) (ds : List Dependency) (x w v t rest : Attributes) (a : ℕ) → IsSubset v (below n) → t a ≡ true → Disjoint v w → IsSubset x (below n) → Implies n ds (fd v t) → IsEmpty rest → IsCandidate n ds x a w → IsCandidate n ds x a rest
candidate_nothing n ds x w v t rest a v_in in_t apart x_in given is before = record {
  universe = λ k m. absurd (true≢false (sym m ∙ is k));
  outside = λ k m. absurd (true≢false (sym m ∙ is k));
  implied = λ r legal. mreflexivity_obeyed (below n) x rest r (λ (k : ℕ) m. absurd (true≢false (sym m ∙ is k)));
  nothing = λ gone. is;
  closed = λ gone. elim (cases_Bool (w a)) [
    | inl in_w ↦ moves n ds x w v t x_in before.universe v_in a apart in_w in_t before.implied given
    | inr out ↦ before.closed out
  ];
}

-- ---- a dependency by its sides
-- a dependency of either kind is implied as a multivalued one
pub implied_as_mvd : (n : ℕ) (ds : List Dependency) (d : Dependency) → Implies n ds d → Implies n ds (mvd (left_of d) (right_of d))
implied_as_mvd n ds (fd v t) given = replication_implied n ds v t given
implied_as_mvd n ds (mvd v t) given = given

-- a left side that is disjoint from a set
pub left_disjoint : (v lhs part : Attributes) → lhs ≡ v → (Intersects lhs part → ⊥) → Disjoint v part
left_disjoint v lhs part same none k m = false_from_ne_true (part k) (λ in_part. none (k, ap (λ (x : Attributes). x k) same ∙ m, in_part))

-- ---- what cuts nothing off
-- a left side that is not apart
pub LeavesWhole-intersects : (p q : Attributes) (d : Dependency) → Intersects (left_of d) p → LeavesWhole p q d
LeavesWhole-intersects p q (fd v t) common = λ apart. absurd (true≢false (sym common.2 ∙ apart common.0 common.1))
LeavesWhole-intersects p q (mvd v t) common = λ apart. absurd (true≢false (sym common.2 ∙ apart common.0 common.1))

-- a larger set on the left, a smaller one on the right
pub LeavesWhole-kept : (p more q less : Attributes) (d : Dependency) → IsSubset p more → IsSubset less q → LeavesWhole p q d → LeavesWhole more less d
LeavesWhole-kept p more q less (fd v t) grows falls whole = λ apart k m. whole (λ (j : ℕ) h. grind (arith, apart j h, grows j)) k (falls k m)
LeavesWhole-kept p more q less (mvd v t) grows falls whole = λ apart.
    ⊎_elim (λ out. inl (λ (k : ℕ) m. out k (falls k m))) (λ inside. inr (λ (k : ℕ) m. inside k (falls k m)))
    (whole (λ (j : ℕ) h. grind (arith, apart j h, grows j)))

pub all_LeavesWhole-kept : (p more q less : Attributes) (ds : List Dep) → IsSubset p more → IsSubset less q → All (λ d. LeavesWhole p q (dependency_of d)) ds → All (λ d. LeavesWhole more less (dependency_of d)) ds
all_LeavesWhole-kept p more q less ds grows falls whole k d l = LeavesWhole-kept p more q less (dependency_of (get_or ds k d)) grows falls (whole k d l)
