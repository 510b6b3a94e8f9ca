-- Derivations for parts: a cut keeps them small beside what was cut off.
use Rattle.std.proofs.Common.{◌≡◌, ℕ, ◌+◌, ◌*◌, ◌<◌, ◌≤◌, true, false, Option, Some, List, length, get_or, refl, sym, subst, ◌∙◌, ⊎_elim, arith}
use Rattle.std.proofs.lemmas.Bool.{true≢false, cases_Bool, ltb-true}
use Rattle.std.proofs.lemmas.Option.{slice_get-get_or, slice_get_within}
use Rattle.std.proofs.lemmas.Bool.Decides.{nat_tests}
use Rattle.std.specs.Prelude.{All, slice_get}
use Rattle.attr_sets.specs.Attributes.{Attributes, below, intersection, difference, IsSubset, Disjoint, count_below}
use Rattle.attr_sets.specs.Sets.{attributes}
use Rattle.attr_sets.specs.declared.set.TheConstants.{MOST_ATTRIBUTES}
use Rattle.attr_sets.proofs.AttributesLemmas.{attributes_below, count_below-lt, count_below-le, same_at}
use Rattle.dep_model.specs.declared.dep.Dep.{Dep}
use Rattle.dep_model.specs.Theories.{Theory}
use Rattle.dep_model.specs.Dependencies.{Dependency, mvd, left_of, right_of, is_fd, Obeys, IsWithin}
use Rattle.dep_model.specs.Implication.{Implies}
use Rattle.dep_model.specs.Deps.{dependency_of, IsDepWithin}
use Rattle.dep_model.specs.Theories.{width_of, universe_of, deps_of, theory_of}
use Rattle.derivation.specs.Trees.{Tree, depth}
use Rattle.derivation.specs.Derivs.{tree_of}
use Rattle.derivation.specs.Conclusions.{Proves}
use Rattle.derivation.specs.Builders.{IsLittleMore}
use Rattle.derivation.proofs.ProvesLemmas.{mvd_restated}
use Rattle.dep_model.specs.Keys.{IsBlock}
use Rattle.dep_basis.specs.Refining.{LeavesWhole}
use Rattle.dep_model.proofs.DepLemmas.{legal-to}
use Rattle.basis_proofs.specs.declared.showing.PartProof.{PartProof}
use Rattle.basis_proofs.specs.CutProofs.{HasSize, IsPartProof, CanCut, IsNextPart}
use Rattle.dep_basis.specs.Cuts.{IsCutting}
use Rattle.dep_basis.proofs.RefiningLemmas.{implied_as_mvd, candidate_first, candidate_inside, candidate_outside}
use Rattle.dep_basis.proofs.BlockLemmas.{whole_legal, candidate_block}

-- a part has nothing of the left side of what cuts it
pub part_in_side : (w : Attributes) (d : Dependency) → IsCutting w d → Disjoint w (left_of d)
part_in_side w d cutting k in_w = ⊎_elim (λ in_v. absurd (true≢false (sym in_w ∙ cutting.apart k in_v))) (λ out. out) (cases_Bool (left_of d k))

-- the count falls by the attribute that is cut off
count_below-falls : (w rest : Attributes) (k : ℕ) → IsSubset w (below MOST_ATTRIBUTES) → IsSubset rest w → w k ≡ true → rest k ≡ false → count_below rest MOST_ATTRIBUTES < count_below w MOST_ATTRIBUTES
count_below-falls w rest k low inside member out = count_below-lt MOST_ATTRIBUTES rest w k inside (ltb-true k MOST_ATTRIBUTES (low k member)) out member

module _ (s : Theory) (x : Attributes) (a : ℕ) (w rest : Attributes) (d : Dependency) (t g u : Tree) (part : IsPartProof s x a w t) (cutting : IsCutting w d)
    (low : IsSubset w (below MOST_ATTRIBUTES)) (x_in : IsSubset x (universe_of s)) (within : IsWithin (universe_of s) d) (given : Implies (width_of s) (theory_of s) d)
    (size : HasSize g 2 2) (more : IsLittleMore t g u) where
  level_bound : count_below rest MOST_ATTRIBUTES < count_below w MOST_ATTRIBUTES → depth u + 5 * count_below rest MOST_ATTRIBUTES ≤ 5 * MOST_ATTRIBUTES + 2
  level_bound fewer = grind (arith, fewer, more.level_bound, size.level_bound, part.level_bound, count_below-le MOST_ATTRIBUTES w)

  pub next_outside : right_of d a ≡ false → rest ≡ difference w (right_of d) → Proves s u (mvd x (difference w (right_of d))) → IsPartProof s x a rest u × (count_below rest MOST_ATTRIBUTES < count_below w MOST_ATTRIBUTES)
  next_outside without is proves =
      let fewer = count_below-falls w rest cutting.shares.0 low (λ k m. grind (arith, same_at is k, m)) cutting.shares.1 (grind (arith, same_at is cutting.shares.0, cutting.shares.2)) in (
        record {
          candidate = candidate_outside (width_of s) (theory_of s) x w (left_of d) (right_of d) rest a x_in within.0 without cutting.apart (implied_as_mvd (width_of s) (theory_of s) d given) is part.candidate;
          member = grind (arith, same_at is a, part.member, without);
          proves = mvd_restated s u x (difference w (right_of d)) x rest refl (sym is) proves;
          node_bound = omega (arith, fewer, more.node_bound, size.node_bound, part.node_bound);
          level_bound = level_bound fewer;
        },
        fewer,
      )

  pub next_inside : right_of d a ≡ true → is_fd d ≡ false → rest ≡ intersection w (right_of d) → Proves s u (mvd x (intersection w (right_of d))) → IsPartProof s x a rest u × (count_below rest MOST_ATTRIBUTES < count_below w MOST_ATTRIBUTES)
  next_inside with multivalued is proves =
      let fewer = ⊎_elim
      (λ functional. absurd (true≢false (sym functional ∙ multivalued)))
      (λ beyond. count_below-falls w rest beyond.0 low (λ k m. grind (arith, same_at is k, m)) beyond.1 (grind (arith, same_at is beyond.0, beyond.2)))
      cutting.leaves in (
        record {
          candidate = candidate_inside (width_of s) (theory_of s) x w (left_of d) (right_of d) rest a x_in within.0 with cutting.apart (implied_as_mvd (width_of s) (theory_of s) d given) is part.candidate;
          member = grind (arith, same_at is a, part.member, with);
          proves = mvd_restated s u x (intersection w (right_of d)) x rest refl (sym is) proves;
          node_bound = omega (arith, fewer, more.node_bound, size.node_bound, part.node_bound);
          level_bound = level_bound fewer;
        },
        fewer,
      )

-- ---- a given dependency
Some-injective : {A : Type 0} (x y : A) → ◌≡◌ {A = Option A} (Some x) (Some y) → x ≡ y
Some-injective x y e = cc

slice_get-Some : (deps : List Dep) (k : ℕ) (dep : Dep) → slice_get deps k ≡ Some dep → (k < length deps) × (get_or deps k dep ≡ dep)
slice_get-Some deps k dep is =
    let lt = slice_get_within deps k dep is in
    (lt, Some-injective (get_or deps k dep) dep (sym (slice_get-get_or deps k dep lt) ∙ is))

pub given_within : (s : Theory) (k : ℕ) (dep : Dep) → slice_get (deps_of s) k ≡ Some dep → IsDepWithin (universe_of s) dep
given_within s k dep is =
    let at = slice_get-Some (deps_of s) k dep is in
    subst (λ (d : Dep). IsDepWithin (universe_of s) d) at.1 (s.valid.deps_within k dep at.0)

pub given_implied : (s : Theory) (k : ℕ) (dep : Dep) → slice_get (deps_of s) k ≡ Some dep → Implies (width_of s) (theory_of s) (dependency_of dep)
given_implied s k dep is r legal =
    let at = slice_get-Some (deps_of s) k dep is in
    subst (λ (d : Dep). Obeys (width_of s) (dependency_of d) r) at.1 (legal-to (width_of s) (deps_of s) r legal k dep at.0)

-- ---- the derivation that a cut gives
next_part : (s : Theory) (a : ℕ) (from w : PartProof) → w.lhs ≡ from.lhs
    → IsPartProof s (attributes from.lhs) a (attributes w.part) (tree_of w.deriv.value) × (count_below (attributes w.part) MOST_ATTRIBUTES < count_below (attributes from.part) MOST_ATTRIBUTES) → IsNextPart s a from w
next_part s a from w same h = record { same_lhs = same; proof = h.0; smaller = h.1 }

pub next_part_outside : (s : Theory) (a k : ℕ) (dep : Dep) (from w : PartProof) (g : Tree) → CanCut s a k dep from → w.lhs ≡ from.lhs → HasSize g 2 2
    → IsLittleMore (tree_of from.deriv.value) g (tree_of w.deriv.value) → right_of (dependency_of dep) a ≡ false
    → attributes w.part ≡ difference (attributes from.part) (right_of (dependency_of dep))
    → Proves s (tree_of w.deriv.value) (mvd (attributes from.lhs) (difference (attributes from.part) (right_of (dependency_of dep)))) → IsNextPart s a from w
next_part_outside s a k dep from w g cut same size more without is proves =
    next_part s a from w same
    (next_outside s (attributes from.lhs) a (attributes from.part) (attributes w.part) (dependency_of dep) (tree_of from.deriv.value) g (tree_of w.deriv.value)
    cut.proof cut.cutting (attributes_below from.part) cut.lhs (given_within s k dep cut.given) (given_implied s k dep cut.given) size more without is proves)

pub next_part_inside : (s : Theory) (a k : ℕ) (dep : Dep) (from w : PartProof) (g : Tree) → CanCut s a k dep from → w.lhs ≡ from.lhs → HasSize g 2 2
    → IsLittleMore (tree_of from.deriv.value) g (tree_of w.deriv.value) → right_of (dependency_of dep) a ≡ true → is_fd (dependency_of dep) ≡ false
    → attributes w.part ≡ intersection (attributes from.part) (right_of (dependency_of dep))
    → Proves s (tree_of w.deriv.value) (mvd (attributes from.lhs) (intersection (attributes from.part) (right_of (dependency_of dep)))) → IsNextPart s a from w
next_part_inside s a k dep from w g cut same size more with multivalued is proves =
    next_part s a from w same
    (next_inside s (attributes from.lhs) a (attributes from.part) (attributes w.part) (dependency_of dep) (tree_of from.deriv.value) g (tree_of w.deriv.value)
    cut.proof cut.cutting (attributes_below from.part) cut.lhs (given_within s k dep cut.given) (given_implied s k dep cut.given) size more with multivalued is proves)

-- ---- sizes
pub size_grows : (t : Tree) (n m p q : ℕ) → n ≤ p → m ≤ q → HasSize t n m → HasSize t p q
size_grows t n m p q more_nodes more_levels size = record { node_bound = omega (arith, size.node_bound); level_bound = omega (arith, size.level_bound) }

pub part_size : (s : Theory) (x : Attributes) (a : ℕ) (w : Attributes) (t : Tree) → IsPartProof s x a w t → HasSize t (8 * MOST_ATTRIBUTES + 2) (5 * MOST_ATTRIBUTES + 2)
part_size s x a w t part = record { node_bound = omega (arith, part.node_bound); level_bound = omega (arith, part.level_bound) }

-- ---- the first part, and the last
pub part_first : (s : Theory) (x : Attributes) (a : ℕ) (w : Attributes) (t : Tree) → a < width_of s → x a ≡ false → w ≡ difference (universe_of s) x → Proves s t (mvd x (difference (universe_of s) x)) → HasSize t 2 2 → IsPartProof s x a w t
part_first s x a w t low out is proves size = record {
  candidate = candidate_first (width_of s) (theory_of s) x w a low out is;
  member = same_at is a ∙ grind (arith, nat_tests, low, out);
  proves = mvd_restated s t x (difference (universe_of s) x) x w refl (sym is) proves;
  node_bound = omega (arith, size.node_bound, count_below-le MOST_ATTRIBUTES w);
  level_bound = omega (arith, size.level_bound, count_below-le MOST_ATTRIBUTES w);
}

pub part_last : (s : Theory) (x : Attributes) (a : ℕ) (w : Attributes) (t : Tree) → IsSubset x (universe_of s) → IsPartProof s x a w t → All (LeavesWhole w w) (theory_of s) → IsBlock (width_of s) (theory_of s) x w
part_last s x a w t x_in part whole =
    candidate_block (width_of s) (theory_of s) x w a x_in (whole_legal (width_of s) (deps_of s) w s.valid.deps_within whole) part.candidate part.member
