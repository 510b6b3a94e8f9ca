-- What is left to prove of `Header::new`: its clauses `err` and `ok`, that the invariant of its
-- loop holds at first and stays, and that its sums fit, by `HeaderLemmas`.
use Rattle.std.proofs.Common.{arith, ◌≡◌, length}
use Rattle.attr_sets.specs.Sets.{attributes}
use Rattle.attr_sets.proofs.AttributesLemmas.{count_below-le}
use Rattle.csv_rows.proofs.HeaderLemmas.{no_columns, one_column, refused_column, all_read}
use Rattle.csv_rows.proofs.header.Header.new.Goals as goal

pub loop-i-init : goal.loop-i-init
loop-i-init c = no_columns _ _ _ _ c.new-columns.ensures.items c.empty-scheme.ensures.members

pub overflow_cast-column : goal.overflow_cast-column
overflow_cast-column c =
    let n : c.len.result ≡ length c.loop-i.columns.items = omega (arith, c.loop-i.columns.ok.0, c.len.ensures) in
    let k = c.loop-i.invariant.count in
    let within_limit = count_below-le 128 (attributes c.loop-i.scheme) in
    omega arith

pub overflow_add-column : goal.overflow_add-column
overflow_add-column c =
    let n : c.len.result ≡ length c.loop-i.columns.items = omega (arith, c.loop-i.columns.ok.0, c.len.ensures) in
    let k = c.loop-i.invariant.count in
    let within_limit = count_below-le 128 (attributes c.loop-i.scheme) in
    omega arith

pub returns-in-Err-clause-err : goal.returns-in-Err-clause-err
returns-in-Err-clause-err c =
    let end = c.len-i-end.ensures in
    let here = c.loop-i-test.true in
    refused_column _ _ c.loop-i.i c.len.result c.loop-i.columns.items c.field.result.now (attributes c.loop-i.scheme) _ c.loop-i.invariant (omega arith) (omega (arith, c.loop-i.columns.ok.0, c.len.ensures)) c.field.ensures.value c.in-Err.ensures.attribute

pub loop-i-preserved : goal.loop-i-preserved
loop-i-preserved c =
    let end = c.len-i-end.ensures in
    let here = c.loop-i-test.true in
    let within = c.in-Ok.ensures.within in
    let within_limit = c.args.schema.now.valid.names_within_limit in
    rw c.in_ok-push.ensures.items
    (one_column _ _ c.loop-i.i c.len.result c.loop-i.columns.items c.field.result.now (attributes c.loop-i.scheme) _ c.in-Ok.attribute c.loop-i.invariant (omega arith) (omega arith) (omega (arith, c.loop-i.columns.ok.0, c.len.ensures)) c.field.ensures.value c.in-Ok.ensures.attribute c.with-scheme.ensures.members)

pub returns-clause-ok : goal.returns-clause-ok
returns-clause-ok c =
    let end = c.len-i-end.ensures in
    let over = c.loop-i-test.false in
    let within = c.loop-i.auto.i-end in (
      c.loop-i.columns.items,
      all_read _ _ c.loop-i.i _ _ c.loop-i.invariant (omega arith),
      record {
        count = omega (arith, c.loop-i.columns.ok.0, c.len-2.ensures);
        scheme = c.loop-i.invariant.same;
        order = rw (← c.width.ensures.count, ← c.deref.ensures.value) c.in_ok-columns_in_order.ensures.order;
      },
    )
