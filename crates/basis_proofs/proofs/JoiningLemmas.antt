-- Derivations that are joined: what is left of the right side, and how large they grow.
use Rattle.std.proofs.Common.{◌≡◌, ℕ, ◌+◌, ◌*◌, ◌<◌, true, sym, ◌∙◌, arith}
use mathlib.Core.Path.{fun_ext}
use Rattle.std.proofs.lemmas.Bool.{true≢false}
use Rattle.attr_sets.specs.Attributes.{Attributes, union, intersection, difference, IsSubset, count_below}
use Rattle.attr_sets.specs.Sets.{attributes}
use Rattle.attr_sets.specs.declared.set.TheConstants.{MOST_ATTRIBUTES}
use Rattle.attr_sets.proofs.AttributesLemmas.{count_below-lt, count_below-le, same_at}
use Rattle.dep_model.specs.Theories.{Theory}
use Rattle.dep_model.specs.Dependencies.{mvd}
use Rattle.dep_model.specs.Theories.{width_of, universe_of, theory_of, ImpliedBy}
use Rattle.dep_model.specs.Keys.{IsBlock}
use Rattle.dep_model.proofs.RuleLemmas.{mvd_intersection_obeyed}
use Rattle.derivation.specs.Trees.{Tree}
use Rattle.derivation.specs.Derivs.{tree_of}
use Rattle.derivation.specs.Builders.{IsLittleMore}
use Rattle.basis_proofs.specs.declared.showing.PartProof.{PartProof}
use Rattle.basis_proofs.specs.CutProofs.{HasSize, IsPartProof}
use Rattle.basis_proofs.specs.JoinedProofs.{IsSetProof, IsLeft}
use Rattle.basis_proofs.proofs.ShowingLemmas.{part_size, size_grows}

-- ---- what is left at first, and after each step
pub left_first : (x y left : Attributes) (t : Tree) → left ≡ difference y x → HasSize t 1 1 → IsLeft x y left t
left_first x y left t is size = record {
  within = λ k m. grind (arith, same_at is k, m);
  apart = λ k m. grind (arith, same_at is k, m);
  node_bound = omega (arith, size.node_bound, count_below-le MOST_ATTRIBUTES left);
  level_bound = omega (arith, size.level_bound, count_below-le MOST_ATTRIBUTES left);
}

pub right_first : (x y left m : Attributes) → left ≡ difference y x → m ≡ intersection x y → m ≡ difference y left
right_first x y left m left_is m_is = fun_ext (λ k. grind (arith, same_at left_is k, same_at m_is k))

pub right_next : (y left rest part : Attributes) → IsSubset left y → IsSubset part y → rest ≡ difference left part → union (difference y left) part ≡ difference y rest
right_next y left rest part within inside is = fun_ext (λ k. grind (arith, same_at is k, inside k, within k))

pub left_fewer : (left rest part : Attributes) (a : ℕ) → a < MOST_ATTRIBUTES → left a ≡ true → part a ≡ true → rest ≡ difference left part → count_below rest MOST_ATTRIBUTES < count_below left MOST_ATTRIBUTES
left_fewer left rest part a low in_left in_part is = count_below-lt MOST_ATTRIBUTES rest left a (λ k m. grind (arith, same_at is k, m)) low (grind (arith, same_at is a, in_part)) in_left

pub left_next : (x y left rest part : Attributes) (a : ℕ) (t g u : Tree) → IsLeft x y left t → a < MOST_ATTRIBUTES → left a ≡ true → part a ≡ true → rest ≡ difference left part
    → HasSize g (8 * MOST_ATTRIBUTES + 8) (5 * MOST_ATTRIBUTES + 8) → IsLittleMore t g u → IsLeft x y rest u
left_next x y left rest part a t g u before low in_left in_part is size more =
    let fewer = left_fewer left rest part a low in_left in_part is in
    record {
      within = λ k m. before.within k (grind (arith, same_at is k, m));
      apart = λ k m. before.apart k (grind (arith, same_at is k, m));
      node_bound = omega (arith, fewer, more.node_bound, size.node_bound, before.node_bound);
      level_bound = grind (arith, fewer, more.level_bound, size.level_bound, before.level_bound, count_below-le MOST_ATTRIBUTES left);
    }

-- ---- the block of an attribute lies within each implied right side that has it
pub block_within : (s : Theory) (x p y : Attributes) (a : ℕ) → IsBlock (width_of s) (theory_of s) x p → ImpliedBy s (mvd x y) → p a ≡ true → y a ≡ true → IsSubset p y
block_within s x p y a block implied in_p in_y k m =
    let shared = block.minimal (intersection p y) (λ j h. grind (arith, h)) (λ none. true≢false (sym (grind (arith, in_p, in_y)) ∙ none a))
    (λ r legal. mvd_intersection_obeyed (universe_of s) x p y r (block.implied r legal) (implied r legal)) k m in
    grind (arith, shared)

pub part_set : (s : Theory) (x : Attributes) (a : ℕ) (w : PartProof) → IsPartProof s x a (attributes w.part) (tree_of w.deriv.value) × IsBlock (width_of s) (theory_of s) x (attributes w.part) → IsSetProof s x a w
part_set s x a w h = record {
  member = h.0.member;
  proves = h.0.proves;
  size = size_grows (tree_of w.deriv.value) (8 * MOST_ATTRIBUTES + 2) (5 * MOST_ATTRIBUTES + 2) (8 * MOST_ATTRIBUTES + 8) (5 * MOST_ATTRIBUTES + 8) (omega arith) (omega arith) (part_size s x a (attributes w.part) (tree_of w.deriv.value) h.0);
  within = λ y implied in_y. block_within s x (attributes w.part) y a h.1 implied h.0.member in_y;
}
