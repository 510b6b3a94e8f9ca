-- What is left to prove of `add_blocks`: its clause `found`, that the invariant of its loop holds at first and stays,
-- and that its loop ends, by `ListingLemmas`.
use Rattle.std.proofs.Common.{◌≡◌, ◌++◌, ◌∷◌, [], ℕ, List, Vec, Global, Option, true, false, refl, sym, ap, subst, ◌∙◌, arith}
use Rattle.std.specs.Prelude.{IsNone}
use Rattle.std.proofs.lemmas.Bool.{false≢true, true≢false}
use Rattle.std.proofs.lemmas.List.{map-append}
use Rattle.attr_sets.specs.Attributes.{Attributes, Disjoint, IsEmpty, IsSubset, below, difference}
use Rattle.attr_sets.specs.Sets.{attributes}
use Rattle.attr_sets.specs.declared.set.TheConstants.{MOST_ATTRIBUTES}
use Rattle.attr_sets.proofs.AttributesLemmas.{count_below-lt, same_at}
use Rattle.dep_model.specs.Dependencies.{Dependency, mvd, ObeysMvd}
use Rattle.dep_model.specs.Deps.{dependency_of, dependencies_of}
use Rattle.dep_model.specs.Tuples.{Relation}
use Rattle.dep_model.specs.declared.dep.Dep.{Dep}
use Rattle.mvd_laws.specs.Reduced.{IsBlockOfRows, IsPartOfRows}
use Rattle.mvd_laws.proofs.BlockLemmas.{mvd_difference}
use Rattle.mvd_discovery.specs.Counting.{AreCounts}
use Rattle.mvd_discovery.specs.Listing.{AreReducedBeside}
use Rattle.mvd_discovery.proofs.ListingLemmas.{beside_end, beside_passed, beside_pushed, beside_start, beyond_obeyed}
use Rattle.mvd_discovery.proofs.reduced.add_blocks.Goals as goal
use Rattle.mvd_discovery.proofs.reduced.add_blocks.Goals.{After-difference-blocks, After-first_block-right, then-is_reduced+in_ok-push, else-is_reduced}

-- at first all beyond the left side
all_blocks : (c : After-difference-blocks) → attributes c.difference-blocks.result ≡ difference (below c.args.counts.now.width) (attributes c.args.left)
all_blocks c = c.difference-blocks.ensures.members ∙ ap (λ (z : Attributes). difference z (attributes c.args.left)) c.full.ensures.members

pub loop-first-init : goal.loop-first-init
loop-first-init c =
    let n = c.args.counts.now.width in
    let all = all_blocks (goal.at.loop-first-init c).After-difference-blocks in
    record {
      within = λ k m. low n (attributes c.args.left) k (sym (same_at all k) ∙ m);
      apart = λ k m. out n (attributes c.args.left) k (sym (same_at all k) ∙ m);
      obeyed = λ r are. beyond_obeyed n (attributes c.args.left) _ r all;
      found = λ r are start. beside_start n r (attributes c.args.left) _ _ all start;
    }
  where
    low : (n : ℕ) (x : Attributes) (k : ℕ) → difference (below n) x k ≡ true → below n k ≡ true
    low n x k h = grind (arith, h)

    out : (n : ℕ) (x : Attributes) (k : ℕ) → difference (below n) x k ≡ true → x k ≡ false
    out n x k h = grind (arith, h)

-- the blocks that are left are a part, and what was found is a block
part_left : (c : After-first_block-right) → (r : Relation) → AreCounts r c.args.counts.now
    → IsPartOfRows c.args.counts.now.width r (attributes c.args.left) (attributes c.loop-first.blocks)
part_left c r are = record {
  within = c.loop-first.invariant.within;
  outside = c.loop-first.invariant.apart;
  not_empty = λ empty. true≢false (sym c.in-Some.ensures.first.member ∙ empty c.in-Some.first);
  obeyed = c.loop-first.invariant.obeyed r are;
}

block_found : (c : After-first_block-right) → (r : Relation) → AreCounts r c.args.counts.now
    → IsBlockOfRows c.args.counts.now.width r (attributes c.args.left) (attributes c.first_block-right.result)
block_found c r are = c.first_block-right.ensures.block r are (part_left c r are)

-- of the blocks without one each is one of them
still_left : (x y z : Attributes) → z ≡ difference x y → (k : ℕ) → z k ≡ true → x k ≡ true
still_left x y z is k m = from k (sym (same_at is k) ∙ m)
  where
    from : (k : ℕ) → difference x y k ≡ true → x k ≡ true
    from k h = grind (arith, h)

gone : (x y z : Attributes) → z ≡ difference x y → (k : ℕ) → y k ≡ true → z k ≡ false
gone x y z is k m = same_at is k ∙ from k m
  where
    from : (k : ℕ) → y k ≡ true → difference x y k ≡ false
    from k h = grind (arith, h)

pub loop-first-smaller : goal.loop-first-smaller
loop-first-smaller c =
    let new_is = c.difference-blocks-in-Some.ensures.members in
    count_below-lt MOST_ATTRIBUTES _ (attributes c.loop-first.blocks) c.in-Some.first
    (still_left (attributes c.loop-first.blocks) (attributes c.first_block-right.result) _ new_is) c.in-Some.ensures.attribute
    (gone (attributes c.loop-first.blocks) (attributes c.first_block-right.result) _ new_is c.in-Some.first c.first_block-right.ensures.member)
    c.in-Some.ensures.first.member

pub loop-first-preserved : goal.loop-first-preserved
loop-first-preserved c =
    let n = c.args.counts.now.width in
    let x = attributes c.args.left in
    let blocks = attributes c.loop-first.blocks in
    let right = attributes c.first_block-right.result in
    let new = attributes c.difference-blocks-in-Some.result in
    let new_is = c.difference-blocks-in-Some.ensures.members in
    let at = (goal.at.loop-first-preserved c).After-first_block-right in
    let old : List Dep = c.loop-first.found.items in
    let still = still_left blocks right new new_is in
    record {
      within = λ k m. c.loop-first.invariant.within k (still k m);
      apart = λ k m. c.loop-first.invariant.apart k (still k m);
      obeyed = λ r are. subst (λ (z : Attributes). ObeysMvd (below n) x z r) (sym new_is)
          (mvd_difference n x blocks right r c.loop-first.invariant.within c.loop-first.invariant.apart (c.loop-first.invariant.obeyed r are)
          (block_found at r are).part.obeyed);
      found = λ r are start.
          let before = c.loop-first.invariant.found r are start in
          let block = block_found at r are in
          elim c.if-is_reduced.branch [
            | then-is_reduced+in_ok-push w ↦
                let items : dependencies_of c.if-is_reduced.found.items ≡ dependencies_of old ++ mvd x right ∷ [] =
                ap (λ (v : Vec Dep Global). dependencies_of v.items) w.found-is ∙ ap dependencies_of w.in_ok-push.ensures.items
                ∙ map-append dependency_of old _ in
                subst (λ (ds : List Dependency). AreReducedBeside n r x new ds) (sym items)
                (beside_pushed n r x blocks c.in-Some.first right new (dependencies_of old) c.in-Some.ensures.first c.first_block-right.ensures.within
                c.first_block-right.ensures.member block new_is before ((c.is_reduced.ensures.reduced r are block).0 w.if-is_reduced.true))
            | else-is_reduced w ↦
                subst (λ (v : Vec Dep Global). AreReducedBeside n r x new (dependencies_of v.items)) (sym w.found-is)
                (beside_passed n r x blocks c.in-Some.first right new (dependencies_of old) c.in-Some.ensures.first c.first_block-right.ensures.within
                c.first_block-right.ensures.member block new_is before
                (λ is. false≢true (sym w.if-is_reduced.false ∙ (c.is_reduced.ensures.reduced r are block).1 is)))
          ];
    }

pub returns : goal.returns
returns c = record {
  found = λ r are start.
      let empty : IsEmpty (attributes c.loop-first.blocks) =
      c.first.ensures.none.0 (subst (λ (o : Option ℕ). IsNone o) (sym c.in_default.is) refl) in
      beside_end c.args.counts.now.width r (attributes c.args.left) (attributes c.loop-first.blocks) (dependencies_of c.loop-first.found.items) empty
      (c.loop-first.invariant.found r are start);
}
