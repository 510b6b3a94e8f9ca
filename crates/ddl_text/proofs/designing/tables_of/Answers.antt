-- What is left to prove of `tables_of`: that a round of its loop keeps the invariant, by
-- `design_more`.
use Rattle.std.proofs.Common.{List, get_or, subst}
use Rattle.attr_sets.specs.declared.set.AttrSet.{AttrSet}
use Rattle.ddl_text.specs.declared.table.TableDesign.{TableDesign}
use Rattle.ddl_text.specs.Designs.{IsTableOf}
use Rattle.ddl_text.proofs.DesignLemmas.{design_more}
use Rattle.ddl_text.proofs.designing.tables_of.Goals as goal

pub loop-scheme-preserved : goal.loop-scheme-preserved
loop-scheme-preserved c =
    let s = c.args.schema.now in
    let schemes = c.args.schemes.now in
    let i = c.loop-scheme.scheme-index in
    let d : AttrSet = record { 0 = 0 } in
    let table = c.in_ok-table.table in
    rw c.in_ok-push.ensures.items
    (design_more s c.args.names.now schemes i d c.loop-scheme.tables.items table c.loop-scheme-test.true c.loop-scheme.invariant
    (subst (λ (earlier : List TableDesign). IsTableOf s c.args.names.now earlier (get_or schemes i d) table) c.deref.ensures.value
    c.in_ok-table.ensures.table))
