-- What is left to prove of `closed_by_parts`: what `closed_at` requires, that a round of its loop keeps
-- the invariant, and its clause `parts`, by `PartLemmas`.
use Rattle.std.proofs.Common.{◌+◌, true, sym, ap, subst, ◌∙◌, arith}
use Rattle.std.proofs.lemmas.Bool.{ltb-true}
use Rattle.attr_sets.specs.Sets.{attributes}
use Rattle.attr_sets.specs.declared.set.AttrSet.{AttrSet}
use Rattle.attr_sets.proofs.AttributesLemmas.{same_at}
use Rattle.dep_model.specs.Theories.{width_of, theory_of}
use Rattle.fd_projection.proofs.PartLemmas.{IsClosureOfPartsBelow, parts_none, parts_skip, parts_more, parts_all}
use Rattle.fd_projection.proofs.closures.closed_by_parts.Goals as goal
use Rattle.fd_projection.proofs.closures.closed_by_parts.Goals.{then-contains, else-contains}

pub closed_at-requires-clause-set : goal.closed_at-requires-clause-set
closed_at-requires-clause-set c k m = c.requires.set k (grind (arith, same_at c.without-part.ensures.members k, m))

pub loop-attribute-init : goal.loop-attribute-init
loop-attribute-init c =
    let s = c.args.theory.now in
    parts_none (width_of s) (theory_of s) (attributes c.args.set) (attributes c.empty-found.result) c.empty-found.ensures.members

pub loop-attribute-preserved : goal.loop-attribute-preserved
loop-attribute-preserved c =
    let s = c.args.theory.now in
    let n = width_of s in
    let ds = theory_of s in
    let x = attributes c.args.set in
    let m = c.loop-attribute.attribute in
    elim c.if-contains.branch [
      | then-contains w ↦
          subst (λ (found : AttrSet). IsClosureOfPartsBelow n ds x (m + 1) (attributes found)) (sym w.found-is)
          (parts_more n ds x (attributes w.without-part.result) (attributes w.closed_at.result) (attributes c.loop-attribute.found) (attributes w.union-found.result) m
          (sym c.contains.ensures.member ∙ w.if-contains.true) w.without-part.ensures.members w.closed_at.ensures.closure w.union-found.ensures.members c.loop-attribute.invariant)
      | else-contains w ↦
          subst (λ (found : AttrSet). IsClosureOfPartsBelow n ds x (m + 1) (attributes found)) (sym w.found-is)
          (parts_skip n ds x (attributes c.loop-attribute.found) m (sym c.contains.ensures.member ∙ w.if-contains.false) c.loop-attribute.invariant)
    ]

pub returns : goal.returns
returns c =
    let s = c.args.theory.now in
    record {
      parts = parts_all (width_of s) (theory_of s) (attributes c.args.set) (attributes c.loop-attribute.found) c.loop-attribute.attribute
          (λ b member. omega (arith, ltb-true b (width_of s) (c.requires.set b member), c.loop-attribute-test.false, c.width-attribute-end.ensures.count)) c.loop-attribute.invariant;
    }
