-- What is left to prove of `references`: that a round of its loop keeps the invariant, by
-- `references_more` and `references_passed`.
use Rattle.std.proofs.Common.{sym, subst, ◌∙◌}
use Rattle.std.proofs.lemmas.Bool.{true≢false}
use Rattle.attr_sets.specs.Sets.{attributes}
use Rattle.ddl_text.specs.declared.table.TableDesign.{TableDesign}
use Rattle.ddl_text.specs.Designs.{RefersTo}
use Rattle.ddl_text.proofs.DesignLemmas.{references_more, references_passed}
use Rattle.ddl_text.proofs.designing.references.Goals as goal
use Rattle.ddl_text.proofs.designing.references.Goals.{then-refers_to+in_ok-push, else-refers_to}

pub loop-j-preserved : goal.loop-j-preserved
loop-j-preserved c =
    let tables = c.args.earlier.now in
    let i = c.loop-j.j in
    let scheme = attributes c.args.scheme in
    let table = c.index-earlier-j.result in
    elim c.if-refers_to.branch [
      | then-refers_to+in_ok-push w ↦
          rw (w.refs-is, w.in_ok-push.ensures.items)
          (references_more tables i table scheme c.loop-j.refs.items c.loop-j-test.true c.loop-j.invariant
          (subst (λ (t : TableDesign). RefersTo scheme t) c.index-earlier-j.is
          (c.refers_to.ensures.refers.0 w.if-refers_to.true)))
      | else-refers_to w ↦
          rw w.refs-is
          (references_passed tables i table scheme c.loop-j.refs.items c.loop-j-test.true c.loop-j.invariant
          (λ refers.
          let here = subst (λ (t : TableDesign). RefersTo scheme t) (sym c.index-earlier-j.is) refers in
          true≢false (sym (c.refers_to.ensures.refers.1 here) ∙ w.if-refers_to.false)))
    ]
