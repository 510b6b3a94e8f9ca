-- Blocks: a candidate that no dependency cuts is one, the two tuples that agree outside a block are
-- legal, and blocks with a common member are the same.
use Rattle.std.proofs.Common.{◌≡◌, ℕ, true, List, get_or, sym, ◌∙◌, inl, inr, ⊎_elim, arith}
use Rattle.std.proofs.lemmas.Bool.{true≢false, cases_Bool, true_from_ne_false, ltb-true}
use Rattle.std.proofs.lemmas.Bool.Decides.{nat_tests}
use Rattle.std.specs.Prelude.{All}
use Rattle.attr_sets.specs.Attributes.{Attributes, below, only, intersection, difference, IsSubset, IsEmpty, Disjoint, Intersects}
use Rattle.attr_sets.specs.Sets.{attributes}
use Rattle.attr_sets.proofs.AttributesLemmas.{same_from_within, tell_empty}
use Rattle.dep_model.specs.declared.dep.Dep.{Dep}
use Rattle.dep_model.specs.declared.dep.Dep.TheVariants.{Fd, Mvd}
use Rattle.dep_model.specs.Dependencies.{Dependency, fd, mvd, Obeys, IsWithin}
use Rattle.dep_model.specs.Deps.{dependency_of, dependencies_of, IsDepWithin}
use Rattle.dep_model.specs.Implication.{IsLegal, Implies}
use Rattle.dep_model.specs.Keys.{IsBlock}
use Rattle.dep_model.specs.TwoTuples.{two_tuples}
use Rattle.dep_model.proofs.RuleLemmas.{reflexivity_obeyed, mvd_intersection_obeyed}
use Rattle.dep_model.proofs.DepLemmas.{legal-from, legal-to, dependencies_all-to}
use Rattle.dep_model.proofs.TwoTupleLemmas.{two_tuples-over, two_tuples_fd-to, two_tuples_fd-from, two_tuples_mvd-to, two_tuples_mvd-from}
use Rattle.dep_basis.specs.Refining.{IsCandidate, LeavesWhole}
use Rattle.dep_basis.proofs.RefiningLemmas.{split_inside, moves}

-- the attributes on which the two tuples of a set of attributes agree: all outside it
abbrev pub outside_of : ℕ → Attributes → Attributes
outside_of n w = difference (below n) w

-- ---- legality of two tuples
-- they obey what cuts nothing off the set
whole_obeyed : (n : ℕ) (w : Attributes) (d : Dep) → IsDepWithin (below n) d → LeavesWhole w w (dependency_of d) → Obeys n (dependency_of d) (two_tuples n (outside_of n w))
whole_obeyed n w (Fd lhs rhs) within whole =
    two_tuples_fd-from n (outside_of n w) (attributes lhs) (attributes rhs) within.0 within.1
    (λ low k m. grind (arith, m, within.1 k m, whole (λ (j : ℕ) h. grind (arith, low j h)) k))
whole_obeyed n w (Mvd lhs rhs) within whole =
    two_tuples_mvd-from n (outside_of n w) (attributes lhs) (attributes rhs) within.0 within.1
    (λ low. ⊎_elim
    (λ out. inl (λ (k : ℕ) m. grind (arith, m, within.1 k m, out k)))
    (λ inside. inr (λ (k : ℕ) m. grind (arith, m, inside k)))
    (whole (λ (j : ℕ) h. grind (arith, low j h))))

pub whole_legal : (n : ℕ) (ds : List Dep) (w : Attributes) → All (IsDepWithin (below n)) ds → All (LeavesWhole w w) (dependencies_of ds) → IsLegal n (dependencies_of ds) (two_tuples n (outside_of n w))
whole_legal n ds w within whole =
    let each = dependencies_all-to (LeavesWhole w w) ds whole in
    legal-from n ds (two_tuples n (outside_of n w)) (two_tuples-over n (outside_of n w)) (λ (k : ℕ) (d : Dep) l. whole_obeyed n w (get_or ds k d) (within k d l) (each k d l))

-- no dependency cuts a block
pub block_whole : (n : ℕ) (ds : List Dependency) (x p : Attributes) (d : Dependency) → IsSubset x (below n) → IsWithin (below n) d → Implies n ds d → IsBlock n ds x p → LeavesWhole p p d
block_whole n ds x p (fd v t) x_in within given block = λ apart a in_p. elim (cases_Bool (t a)) [
  | inr out ↦ out
  | inl in_t ↦ absurd (block.outside a in_p (ltb-true a n (block.universe a in_p), moves n ds x p v t x_in block.universe within.0 a apart in_p in_t block.implied given))
]
block_whole n ds x p (mvd v t) x_in within given block = λ apart.
    let inside = split_inside n ds x p v t x_in block.universe within.0 apart block.implied given in
    ⊎_elim
    (λ not_empty. inr (λ (k : ℕ) m. grind (arith, block.minimal (intersection p t) (λ (j : ℕ) h. grind (arith, h)) (λ none. absurd (true≢false (sym not_empty.2 ∙ none not_empty.0))) inside k m)))
    (λ none. inl (λ (k : ℕ) m. grind (arith, m, none k)))
    (tell_empty n (intersection p t) (λ (k : ℕ) m. block.universe k (grind (arith, m))))

-- the two tuples that agree outside a block are legal
pub block_legal : (n : ℕ) (ds : List Dep) (x p : Attributes) → All (IsDepWithin (below n)) ds → IsSubset x (below n) → IsBlock n (dependencies_of ds) x p → IsLegal n (dependencies_of ds) (two_tuples n (outside_of n p))
block_legal n ds x p within x_in block =
    legal-from n ds (two_tuples n (outside_of n p)) (two_tuples-over n (outside_of n p))
    (λ (k : ℕ) (d : Dep) l. whole_obeyed n p (get_or ds k d) (within k d l)
    (block_whole n (dependencies_of ds) x p (dependency_of (get_or ds k d)) x_in (within k d l) (λ r legal. legal-to n ds r legal k d l) block))

-- ---- what they break
-- an attribute of the set does not follow from outside
pub outside_fd : (n : ℕ) (ds : List Dependency) (x y w : Attributes) → IsLegal n ds (two_tuples n (outside_of n w)) → IsSubset x (below n) → IsSubset y (below n) → Disjoint w x → Intersects y w → Implies n ds (fd x y) → ⊥
outside_fd n ds x y w legal x_in y_in apart common implied =
    let low = two_tuples_fd-to n (outside_of n w) x y x_in y_in (implied (two_tuples n (outside_of n w)) legal) (λ k m. grind (arith, m, x_in k m, apart k)) in
    true≢false (sym common.2 ∙ grind (arith, low common.0 common.1))

-- nor does a set that cuts it
pub outside_mvd : (n : ℕ) (ds : List Dependency) (x y w : Attributes) → IsLegal n ds (two_tuples n (outside_of n w)) → IsSubset x (below n) → IsSubset y (below n) → IsSubset w (below n) → Disjoint w x → Intersects y w → Implies n ds (mvd x y) → IsSubset w y
outside_mvd n ds x y w legal x_in y_in w_in apart common implied k in_w =
    ⊎_elim
    (λ low. absurd (true≢false (sym common.2 ∙ grind (arith, low common.0 common.1))))
    (λ rest. true_from_ne_false (y k) (λ out. true≢false (sym in_w ∙ grind (arith, rest k (grind (arith, w_in k in_w, apart k in_w, out))))))
    (two_tuples_mvd-to n (outside_of n w) x y x_in y_in (implied (two_tuples n (outside_of n w)) legal) (λ k m. grind (arith, m, x_in k m, apart k)))

-- ---- a candidate that no dependency cuts
pub candidate_block : (n : ℕ) (ds : List Dependency) (x w : Attributes) (a : ℕ) → IsSubset x (below n) → IsLegal n ds (two_tuples n (outside_of n w)) → IsCandidate n ds x a w → w a ≡ true → IsBlock n ds x w
candidate_block n ds x w a x_in legal candidate member = record {
  universe = candidate.universe;
  outside = λ b in_w closed. outside_fd n ds x (only b) w legal x_in (λ (k : ℕ) m. grind (arith, nat_tests, m, closed.0)) candidate.outside (b, grind (arith, nat_tests), in_w) closed.1;
  not_empty = λ none. true≢false (sym member ∙ none a);
  implied = candidate.implied;
  minimal = λ q inside not_empty implied.
      ⊎_elim
      (λ found. outside_mvd n ds x q w legal x_in (λ (k : ℕ) m. candidate.universe k (inside k m)) candidate.universe candidate.outside (found.0, found.2, inside found.0 found.2) implied)
      (λ none. absurd (not_empty none))
      (tell_empty n q (λ (k : ℕ) m. candidate.universe k (inside k m)));
}

-- ---- blocks with a common member are the same
pub block_disjoint : (n : ℕ) (ds : List Dependency) (x p : Attributes) → IsBlock n ds x p → Disjoint p x
block_disjoint n ds x p block a in_p = elim (cases_Bool (x a)) [
  | inr out ↦ out
  | inl in_x ↦ absurd (block.outside a in_p (ltb-true a n (block.universe a in_p), λ r legal. reflexivity_obeyed x (only a) r (λ (k : ℕ) m. grind (arith, nat_tests, m, in_x))))
]

pub blocks_same : (n : ℕ) (ds : List Dependency) (x p q : Attributes) → IsBlock n ds x p → IsBlock n ds x q → Intersects p q → p ≡ q
blocks_same n ds x p q first second common =
    let shared : Implies n ds (mvd x (intersection p q)) = λ r legal. mvd_intersection_obeyed (below n) x p q r (first.implied r legal) (second.implied r legal) in
    let not_empty : IsEmpty (intersection p q) → ⊥ = λ none. true≢false (sym (grind (arith, common.1, common.2)) ∙ none common.0) in
    same_from_within p q
    (λ (k : ℕ) m. grind (arith, first.minimal (intersection p q) (λ (j : ℕ) h. grind (arith, h)) not_empty shared k m))
    (λ (k : ℕ) m. grind (arith, second.minimal (intersection p q) (λ (j : ℕ) h. grind (arith, h)) not_empty shared k m))
