-- What is left to prove of `first_sharing`: what it answers, and that its invariant stays, by `OrderLemmas`.
use Rattle.std.proofs.Common.{◌≡◌, ◌<◌, ◌∙◌, true, false, length, get_or, sym, ap, arith, not}
use Rattle.std.proofs.lemmas.List.{get_or_default}
use Rattle.attr_sets.specs.Sets.{attributes, is_disjoint}
use Rattle.sql_migrate.specs.declared.joining.JoinedTable.{JoinedTable}
use Rattle.sql_scripts.proofs.OrderLemmas.{found_first, passed_over}
use Rattle.sql_scripts.proofs.ordering.first_sharing.Goals as goal

pub returns-then-intersects-clause-first : goal.returns-then-intersects-clause-first
returns-then-intersects-clause-first c table =
    let tables = c.args.tables.now in
    let i = c.loop-i.i in
    let here = c.index-tables-i.result in
    let low : i < length tables = omega (arith, c.loop-i-test.true) in
    let at : get_or tables i table ≡ get_or tables i here = get_or_default tables i table here low in
    let passes : not (is_disjoint (attributes c.args.seen) (attributes (get_or tables i table).scheme)) ≡ true =
    ap (λ (t : JoinedTable). not (is_disjoint (attributes c.args.seen) (attributes t.scheme))) at ∙ sym c.intersects.ensures.test ∙ c.if-intersects.true in
    found_first (λ t. not (is_disjoint (attributes c.args.seen) (attributes t.scheme))) tables i table low passes ∙ c.loop-i.invariant

pub loop-i-preserved : goal.loop-i-preserved
loop-i-preserved c =
    let tables = c.args.tables.now in
    let i = c.loop-i.i in
    let here = c.index-tables-i.result in
    let low : i < length tables = omega (arith, c.loop-i-test.true) in
    let fails : not (is_disjoint (attributes c.args.seen) (attributes (get_or tables i here).scheme)) ≡ false =
    sym c.intersects.ensures.test ∙ c.if-intersects.false in
    passed_over (λ t. not (is_disjoint (attributes c.args.seen) (attributes t.scheme))) tables i here low fails ∙ c.loop-i.invariant
