-- What is left to prove of `traces`: its clause `traces`, that the invariant of its loop holds at
-- first and stays, that its loop ends, and that its positions are within bounds, by
-- `GatheringLemmas` and `PieceLemmas`.
use Rattle.std.proofs.Common.{◌≡◌, ℕ, ◌+◌, ◌<◌, length, take, drop, true, refl, sym, ◌∙◌, arith}
use mathlib.Core.Path.{fun_ext}
use Rattle.std.proofs.lemmas.Bool.{false≢true, ltb-true}
use Rattle.std.proofs.lemmas.Bool.Decides.{nat_tests}
use Rattle.std.proofs.lemmas.List.{take_more_set, drop-set-lt, drop-drop, length-set}
use Rattle.std.proofs.lemmas.List.Elements.{All-replicate, All-drop}
use Rattle.attr_sets.specs.Attributes.{Attributes, difference, IsEmpty, count_below}
use Rattle.attr_sets.specs.declared.set.AttrSet.{AttrSet}
use Rattle.attr_sets.specs.Sets.{attributes}
use Rattle.attr_sets.specs.declared.set.TheConstants.{MOST_ATTRIBUTES}
use Rattle.attr_sets.proofs.AttributesLemmas.{count_below-le, count_below-pos, count_below-within, count_below-lt, same_at}
use Rattle.dep_model.specs.Deps.{dependencies_of}
use Rattle.dep_model.specs.Keys.{InClosure}
use Rattle.dep_basis.proofs.GatheringLemmas.{found_first, found_closed, found_block, found_all}
use Rattle.dep_basis.proofs.PieceLemmas.{piece_is}
use Rattle.dep_basis.proofs.gathering.traces.Goals as goal

pub loop-first-init : goal.loop-first-init
loop-first-init c = record {
  found = found_first c.args.width (dependencies_of c.args.deps.now) (attributes c.args.scheme) (attributes c.args.lhs) (attributes c.empty-closed.result) (same_at c.empty-closed.ensures.members);
  room = omega (arith, count_below-le MOST_ATTRIBUTES (attributes c.args.scheme));
  size = refl;
  rest = All-replicate (λ (q : AttrSet). IsEmpty (attributes q)) 128 c.empty-blocks.result (same_at c.empty-blocks.ensures.members);
}

pub loop-first-smaller-then-eq : goal.loop-first-smaller-then-eq
loop-first-smaller-then-eq c =
    count_below-lt MOST_ATTRIBUTES (attributes c.without-left.result) (attributes c.loop-first.left) c.in-Some.first (λ k m. grind (arith, same_at c.without-left.ensures.members k, m))
    c.in-Some.ensures.attribute (grind (arith, nat_tests, same_at c.without-left.ensures.members c.in-Some.first)) c.in-Some.ensures.first.member

pub loop-first-preserved-then-eq : goal.loop-first-preserved-then-eq
loop-first-preserved-then-eq c =
    let before = c.loop-first.invariant in
    let none : IsEmpty (attributes c.piece_with-block.result) = λ k. same_at (c.if-eq.ensures.same.0 refl) k ∙ same_at c.empty.ensures.members k in
    let low = ltb-true c.in-Some.first c.args.width (c.requires.scheme c.in-Some.first (before.found.left_in c.in-Some.first c.in-Some.ensures.first.member)) in
    let piece = piece_is c.args.width (dependencies_of c.args.deps.now) (attributes c.args.lhs) c.all_pieces-found.result c.all_pieces-found.ensures.pieces c.in-Some.first c.piece_with-block.result low c.piece_with-block.ensures.none c.piece_with-block.ensures.piece c.piece_with-block.ensures.member in
    let is_closed : InClosure c.args.width (dependencies_of c.args.deps.now) (attributes c.args.lhs) c.in-Some.first = (low, piece.nothing none) in
    record {
      found = found_closed c.args.width (dependencies_of c.args.deps.now) (attributes c.args.scheme) (attributes c.args.lhs) (attributes c.loop-first.left) (attributes c.loop-first.closed) (take c.loop-first.count c.loop-first.blocks)
          before.found (attributes c.without-left.result) (attributes c.with-closed.result) c.in-Some.first c.in-Some.ensures.first.member is_closed c.without-left.ensures.members c.with-closed.ensures.members;
      room = omega (arith, before.room, count_below-within MOST_ATTRIBUTES (attributes c.without-left.result) (attributes c.loop-first.left) (λ k m. grind (arith, same_at c.without-left.ensures.members k, m)));
      size = before.size;
      rest = before.rest;
    }

-- fewer attributes are left than before
count_below-falls : (left rest block : Attributes) (i : ℕ) → i < MOST_ATTRIBUTES → left i ≡ true → block i ≡ true → rest ≡ difference left block → count_below rest MOST_ATTRIBUTES < count_below left MOST_ATTRIBUTES
count_below-falls left rest block i low in_left in_block is =
    count_below-lt MOST_ATTRIBUTES rest left i (λ (k : ℕ) m. grind (arith, same_at is k, m)) low (grind (arith, same_at is i, in_block)) in_left

-- a set that does not equal the empty one
not_empty : (block empty : Attributes) → IsEmpty empty → (block ≡ empty → ⊥) → IsEmpty block → ⊥
not_empty block empty nothing differ none = differ (fun_ext (λ (k : ℕ). none k ∙ sym (nothing k)))

pub bounds-blocks-count : goal.bounds-blocks-count
bounds-blocks-count c = omega (arith, c.loop-first.invariant.room, count_below-pos MOST_ATTRIBUTES (attributes c.loop-first.left) c.in-Some.first c.in-Some.ensures.attribute c.in-Some.ensures.first.member)

pub loop-first-smaller : goal.loop-first-smaller
loop-first-smaller c =
    let low = ltb-true c.in-Some.first c.args.width (c.requires.scheme c.in-Some.first (c.loop-first.invariant.found.left_in c.in-Some.first c.in-Some.ensures.first.member)) in
    let piece = piece_is c.args.width (dependencies_of c.args.deps.now) (attributes c.args.lhs) c.all_pieces-found.result c.all_pieces-found.ensures.pieces c.in-Some.first c.piece_with-block.result low c.piece_with-block.ensures.none c.piece_with-block.ensures.piece c.piece_with-block.ensures.member in
    count_below-falls (attributes c.loop-first.left) (attributes c.difference-left.result) (attributes c.piece_with-block.result) c.in-Some.first c.in-Some.ensures.attribute c.in-Some.ensures.first.member
    (piece.member (not_empty (attributes c.piece_with-block.result) (attributes c.empty.result) (same_at c.empty.ensures.members) (λ same. false≢true (c.if-eq.ensures.same.1 same)))) c.difference-left.ensures.members

pub loop-first-preserved : goal.loop-first-preserved
loop-first-preserved c =
    let before = c.loop-first.invariant in
    let found = before.found in
    let n = c.args.width in
    let ds = dependencies_of c.args.deps.now in
    let block = c.piece_with-block in
    let low = ltb-true c.in-Some.first n (c.requires.scheme c.in-Some.first (found.left_in c.in-Some.first c.in-Some.ensures.first.member)) in
    let piece = piece_is n ds (attributes c.args.lhs) c.all_pieces-found.result c.all_pieces-found.ensures.pieces c.in-Some.first block.result low block.ensures.none block.ensures.piece block.ensures.member in
    let not_none = not_empty (attributes block.result) (attributes c.empty.result) (same_at c.empty.ensures.members) (λ same. false≢true (c.if-eq.ensures.same.1 same)) in
    let count = c.loop-first.count in
    let blocks = c.loop-first.blocks in
    let fewer = count_below-falls (attributes c.loop-first.left) (attributes c.difference-left.result) (attributes block.result) c.in-Some.first c.in-Some.ensures.attribute c.in-Some.ensures.first.member (piece.member not_none) c.difference-left.ensures.members in
    let short : count < length blocks = omega (arith, before.size, before.room, fewer) in
    record {
      found = rw (take_more_set blocks count c.intersection.result short)
          (found_block n ds (attributes c.args.scheme) (attributes c.args.lhs) (attributes c.loop-first.left) (attributes c.loop-first.closed) (take count blocks) found
          (attributes block.result) (attributes c.difference-left.result) c.intersection.result c.in-Some.first c.in-Some.ensures.first (piece.block not_none) (piece.member not_none) c.intersection.ensures.members c.difference-left.ensures.members);
      room = omega (arith, before.room, fewer);
      size = length-set blocks count c.intersection.result ∙ before.size;
      rest = rw (drop-set-lt (count + 1) blocks count c.intersection.result (omega arith), ← drop-drop 1 count blocks)
          (All-drop (λ (q : AttrSet). IsEmpty (attributes q)) 1 (drop count blocks) before.rest);
    }

pub returns : goal.returns
returns c = record {
  traces =
      found_all c.args.width (dependencies_of c.args.deps.now) (attributes c.args.scheme) (attributes c.args.lhs) (attributes c.loop-first.left) (record { closed = c.loop-first.closed; blocks = c.loop-first.blocks; count = c.loop-first.count })
      c.loop-first.invariant.found (c.in_default.ensures.none.0 refl) (omega (arith, c.loop-first.invariant.room)) c.loop-first.invariant.rest;
}
