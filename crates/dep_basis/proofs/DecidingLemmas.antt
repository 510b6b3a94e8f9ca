-- Which block shows that a dependency is not implied, and that its two tuples do.
use Rattle.std.proofs.Common.{◌≡◌, ℕ, ◌<◌, true, List, get_or, sym, ap, subst, ◌∙◌, inl, inr, ⊎_elim, arith}
use mathlib.Core.Path.{fun_ext}
use Rattle.std.proofs.lemmas.Bool.{true≢false, cases_lt, cases_eq, ltb-true}
use Rattle.std.proofs.lemmas.Bool.Decides.{nat_tests}
use Rattle.std.proofs.lemmas.List.{get_or_default}
use Rattle.std.proofs.lemmas.List.Elements.{All-contains}
use Rattle.std.specs.Prelude.{All}
use Rattle.attr_sets.specs.Attributes.{Attributes, below, only, intersection, difference, IsSubset, IsEmpty, Intersects, IsFirstFrom}
use Rattle.attr_sets.specs.declared.set.AttrSet.{AttrSet}
use Rattle.attr_sets.specs.Sets.{attributes}
use Rattle.dep_model.specs.declared.dep.Dep.{Dep}
use Rattle.dep_model.specs.Dependencies.{Dependency, fd, mvd, ObeysFd, ObeysMvd, IsWithin}
use Rattle.dep_model.specs.Implication.{Implies}
use Rattle.dep_model.specs.Deps.{dependencies_of, IsDepWithin}
use Rattle.dep_model.specs.Keys.{IsBlock}
use Rattle.dep_model.specs.TwoTuples.{two_tuples}
use Rattle.dep_model.proofs.TwoTupleLemmas.{two_tuples_fd-to}
use Rattle.fd_closure.proofs.ClosureLemmas.{fd_each-from, fd_each-to}
use Rattle.dep_basis.specs.declared.gathering.Blocks.{Blocks}
use Rattle.dep_basis.specs.Traces.{blocks_of}
use Rattle.dep_basis.specs.Bases.{IsSplitBy, IsBasis}
use Rattle.dep_basis.specs.Firsts.{IsFirstWith}
use Rattle.dep_basis.specs.Breaking.{IsBreakingBlock}
use Rattle.dep_basis.specs.Decisions.{IsBrokenBy}
use Rattle.dep_basis.proofs.BlockLemmas.{outside_of, block_legal, block_disjoint}
use Rattle.dep_basis.proofs.BasisLemmas.{split_broken}

-- ---- the two tuples of a block that shows it
breaks_fd : (n : ℕ) (ds : List Dependency) (x y p : Attributes) → IsWithin (below n) (fd x y) → IsBreakingBlock n ds (fd x y) p → ObeysFd x y (two_tuples n (outside_of n p)) → ⊥
breaks_fd n ds x y p within (block, (a, in_p, in_y, least)) obeys =
    let low = two_tuples_fd-to n (outside_of n p) x y within.0 within.1 obeys (λ (k : ℕ) m. grind (arith, m, within.0 k m, block_disjoint n ds x p block k)) in
    true≢false (sym (low a in_y) ∙ grind (arith, in_p))

breaks_mvd : (n : ℕ) (ds : List Dependency) (x y p : Attributes) → IsWithin (below n) (mvd x y) → IsBreakingBlock n ds (mvd x y) p → ObeysMvd (below n) x y (two_tuples n (outside_of n p)) → ⊥
breaks_mvd n ds x y p within (block, split, first) =
    let same : p ≡ intersection p (below n) = fun_ext (λ (k : ℕ). grind (arith, block.universe k)) in
    split_broken n (below n) x y p (λ (k : ℕ) m. m) within.0 within.1 (block_disjoint n ds x p block)
    (subst (λ (q : Attributes). IsSplitBy (below n) y q) same split)

pub breaking_broken : (n : ℕ) (ds : List Dep) (d : Dependency) (agreement p : Attributes) → All (IsDepWithin (below n)) ds → IsWithin (below n) d
    → IsBreakingBlock n (dependencies_of ds) d p → agreement ≡ difference (below n) p → IsBrokenBy n (dependencies_of ds) d agreement
breaking_broken n ds (fd x y) agreement p each within breaking outside = record {
  block = p;
  is_breaking = breaking;
  outside = outside;
  legal = rw outside (block_legal n ds x p each within.0 breaking.0);
  breaks = rw outside (breaks_fd n (dependencies_of ds) x y p within breaking);
}
breaking_broken n ds (mvd x y) agreement p each within breaking outside = record {
  block = p;
  is_breaking = breaking;
  outside = outside;
  legal = rw outside (block_legal n ds x p each within.0 breaking.0);
  breaks = rw outside (breaks_mvd n (dependencies_of ds) x y p within breaking);
}

-- ---- the block that a basis shows
pub least_same : (p : Attributes) (i j : ℕ) → IsFirstFrom p 0 i → IsFirstFrom p 0 j → i ≡ j
least_same p i j first second = elim (cases_lt i j) [
  | inl lt ↦ absurd (true≢false (sym first.member ∙ second.least i (omega arith) lt))
  | inr le ↦ elim (cases_eq i j) [
    | inl same ↦ same
    | inr differ ↦ absurd (true≢false (sym second.member ∙ first.least j (omega arith) (omega arith)))
  ]
]

module _ (n : ℕ) (ds : List Dependency) (x y : Attributes) (found : Blocks) (basis : IsBasis n ds x found) (y_in : IsSubset y (below n)) where
  -- all of y is closed
  pub beyond_none : IsEmpty (difference y (attributes found.closed)) → Implies n ds (fd x y)
  beyond_none none = fd_each-from n ds x y (λ (a : ℕ) m. ((basis.closed a).0 (grind (arith, none a, m))).1)

  -- its least attribute that is not lies in a listed block
  pub beyond_some : (a : ℕ) → IsFirstFrom (difference y (attributes found.closed)) 0 a → Implies n ds (fd x y) → ⊥
  beyond_some a least implied =
      let in_y : y a ≡ true = grind (arith, least.member) in
      let closed = (basis.closed a).1 (ltb-true a n (y_in a in_y), fd_each-to n ds x y implied a in_y) in
      true≢false (sym least.member ∙ grind (arith, closed))

  pub beyond_listed : (a : ℕ) → IsFirstFrom (difference y (attributes found.closed)) 0 a → All (λ p. Intersects (attributes p) (only a) × Intersects (attributes p) (only a) → ⊥) (blocks_of found) → ⊥
  beyond_listed a least none =
      ⊎_elim
      (λ closed. true≢false (sym least.member ∙ grind (arith, closed)))
      (λ one.
      let common : Intersects (attributes one.1) (only a) = (a, one.4, grind (arith, nat_tests)) in
      All-contains (λ (p : AttrSet). Intersects (attributes p) (only a) × Intersects (attributes p) (only a) → ⊥) (blocks_of found) one.1 none (one.0, one.2, one.3) (common, common))
      (basis.parts a (ltb-true a n (y_in a (grind (arith, least.member)))))

  pub beyond_block : (a : ℕ) (p : AttrSet) → IsFirstFrom (difference y (attributes found.closed)) 0 a
      → IsFirstWith (λ q. Intersects (attributes q) (only a) × Intersects (attributes q) (only a)) (blocks_of found) p → IsBreakingBlock n ds (fd x y) (attributes p)
  beyond_block a p least first = (
    All-contains (λ (q : AttrSet). IsBlock n ds x (attributes q)) (blocks_of found) p basis.each (first.position, first.short, first.is),
    (
      a,
      (let k = first.holds.0.0 in let same : k ≡ a = grind (arith, nat_tests, first.holds.0.2) in sym (ap (attributes p) same) ∙ first.holds.0.1),
      grind (arith, least.member),
      (λ b lt in_y. (basis.closed b).0 (grind (arith, in_y, least.least b (omega arith) lt))),
    ),
  )

  -- the first listed block that y splits is the first of all
  pub split_block : (p : AttrSet) → IsFirstWith (λ q. IsSplitBy (below n) y (attributes q)) (blocks_of found) p → IsBreakingBlock n ds (mvd x y) (attributes p)
  split_block p first = (
    All-contains (λ (q : AttrSet). IsBlock n ds x (attributes q)) (blocks_of found) p basis.each (first.position, first.short, first.is),
    first.holds,
    (λ q i j block split least_p least_q.
        let one = basis.all q block in
        let same : q ≡ attributes one.1 = sym one.4 in
        let listed : IsSplitBy (below n) y (attributes (get_or (blocks_of found) one.0 one.1)) = rw (one.3, ← same) split in
        elim (cases_lt one.0 first.position) [
          | inl before ↦ absurd (first.first one.0 one.1 before listed)
          | inr from ↦ elim (cases_eq first.position one.0) [
            | inl at ↦
                let is_p : p ≡ one.1 = sym first.is ∙ get_or_default (blocks_of found) first.position p one.1 first.short ∙ ap (λ (k : ℕ). get_or (blocks_of found) k one.1) at ∙ one.3 in
                let same_p : q ≡ attributes p = same ∙ ap attributes (sym is_p) in
                omega (arith, least_same (attributes p) i j least_p (subst (λ (w : Attributes). IsFirstFrom w 0 j) same_p least_q))
            | inr later ↦
                let is_q : attributes (get_or (blocks_of found) one.0 p) ≡ q = ap attributes (get_or_default (blocks_of found) one.0 p one.1 one.2 ∙ one.3) ∙ sym same in
                let order = basis.listed.in_order first.position one.0 p (omega arith) one.2 in
                let lt : i < j = order i j (rw first.is least_p) (rw is_q least_q) in
                omega arith
          ]
        ]),
  )
