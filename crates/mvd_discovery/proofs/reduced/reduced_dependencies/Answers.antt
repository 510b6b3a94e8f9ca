-- What is left to prove of `reduced_dependencies`: its clause `reduced`, and that a round of its loop keeps the
-- invariant, by `ListingLemmas`.
use Rattle.std.proofs.Common.{◌≡◌, List, Option, refl, sym, subst, ◌∙◌}
use Rattle.std.specs.Prelude.{IfSome, IsNone}
use Rattle.attr_sets.specs.Attributes.{Attributes, IsNextSubset, IsSubset, below}
use Rattle.attr_sets.specs.Sets.{attributes}
use Rattle.attr_sets.specs.declared.set.AttrSet.{AttrSet}
use Rattle.dep_model.specs.Deps.{dependencies_of}
use Rattle.mvd_discovery.proofs.ListingLemmas.{AreReducedSoFar, so_far_next, within_next}
use Rattle.mvd_discovery.proofs.reduced.reduced_dependencies.Goals as goal

pub loop-next-preserved : goal.loop-next-preserved
loop-next-preserved c =
    let n = c.args.counts.now.width in
    let left : AttrSet = c.in-Some.left in
    let whole = c.full-whole.ensures.members in
    let inside = subst (λ (o : Option AttrSet). IfSome o (λ s. IsSubset (attributes s) (below n))) c.in-Some.is c.loop-next.invariant.within in
    let is = subst (λ (z : Attributes). IfSome c.next_subset-next.result (λ s. IsNextSubset z (attributes left) (attributes s))) whole c.next_subset-next.ensures.next in
    record {
      within = within_next n (attributes left) c.next_subset-next.result is;
      found = λ r are.
          so_far_next n r left c.next_subset-next.result (dependencies_of c.add_blocks.new.found.items) inside
          (λ none. c.next_subset-next.ensures.none.0 (subst (λ (o : Option AttrSet). IsNone o) (sym none) refl) ∙ whole) is
          (c.in_ok-add_blocks.ensures.found r are
          (subst (λ (o : Option AttrSet). AreReducedSoFar n r o (dependencies_of c.loop-next.found.items)) c.in-Some.is (c.loop-next.invariant.found r are)));
    }

pub returns : goal.returns
returns c = record {
  reduced = λ r are.
      subst (λ (o : Option AttrSet). AreReducedSoFar c.args.counts.now.width r o (dependencies_of c.loop-next.found.items)) c.in_default.is
      (c.loop-next.invariant.found r are);
}
