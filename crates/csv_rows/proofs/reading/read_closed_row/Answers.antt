-- What is left to prove of `read_closed_row`: its clauses `err` and `ok`, what `column` and `contains` require,
-- and that the invariant of its loop holds at first and stays, by `ReadingLemmas`.
use Rattle.std.proofs.Common.{arith, ◌≡◌, ◌≤◌, true≢false, length, sym, ap, ◌∙◌}
use Rattle.attr_sets.proofs.AttributesLemmas.{same_at}
use Rattle.csv.specs.Records.{fields_of}
use Rattle.csv_rows.proofs.ReadingLemmas.{entry_in, small_attribute, takes_none, takes_one, takes_all, not_of_type}
use Rattle.csv_rows.proofs.reading.read_closed_row.Goals as goal

pub column-column-requires : goal.column-column-requires
column-column-requires c =
    (entry_in _ c.requires.0 _ c.deref-entry-items.result.now c.loop-entry.entry-index _ c.requires.1 c.deref-entry-items.ensures.value c.loop-entry-test.true).small

pub contains-nullable-requires : goal.contains-nullable-requires
contains-nullable-requires c =
    small_attribute c.args.schema.now _ _ _
    (entry_in _ c.requires.0 _ c.deref-entry-items.result.now c.loop-entry.entry-index _ c.requires.1 c.deref-entry-items.ensures.value c.loop-entry-test.true)

pub loop-entry-init : goal.loop-entry-init
loop-entry-init c = record { takes = λ columns kept. takes_none _ columns _ _ c.clear.ensures.empty }

pub returns-then-not-fits_column-clause-err : goal.returns-then-not-fits_column-clause-err
returns-then-not-fits_column-clause-err c = λ columns kept.
    let at = entry_in _ columns _ c.deref-entry-items.result.now c.loop-entry.entry-index _ kept c.deref-entry-items.ensures.value c.loop-entry-test.true in
    let even : length (fields_of c.args.fields.now) ≡ c.args.header.now.columns = omega (arith, c.len.ensures, c.if-len-header.false) in
    let within_limit : c.args.row ≤ 10000000 = omega (arith, c.if-row-gt-MOST_ROWS.false) in
    not_of_type _ columns _ _ _ _ _ _ c.field-value.result.now c.column-column.result c.contains-nullable.result kept (c.loop-entry.invariant.takes columns kept) at c.field-value.ensures.value c.column-column.ensures.column
    (c.contains-nullable.ensures.member ∙ same_at c.nullable.ensures.nullable _)
    (λ fits. true≢false (sym (c.fits_column.ensures.fits.1 fits) ∙ c.if-not-fits_column.true)) even within_limit

pub loop-entry-preserved : goal.loop-entry-preserved
loop-entry-preserved c = record {
  takes = λ columns kept.
      let at = entry_in _ columns _ c.deref-entry-items.result.now c.loop-entry.entry-index _ kept c.deref-entry-items.ensures.value c.loop-entry-test.true in
      rw c.in_ok-push.ensures.values
      (takes_one _ columns _ _ _ _ _ c.column-column.result c.contains-nullable.result (c.loop-entry.invariant.takes columns kept) at c.field-value.ensures.value c.column-column.ensures.column
      (c.contains-nullable.ensures.member ∙ same_at c.nullable.ensures.nullable _)
      (c.fits_column.ensures.fits.0 c.if-not-fits_column.false));
}

pub returns-clause-ok : goal.returns-clause-ok
returns-clause-ok c = λ columns kept.
    let even : length (fields_of c.args.fields.now) ≡ c.args.header.now.columns = omega (arith, c.len.ensures, c.if-len-header.false) in
    let within_limit : c.args.row ≤ 10000000 = omega (arith, c.if-row-gt-MOST_ROWS.false) in
    let end : c.loop-entry.entry-index ≡ length c.args.header.now.order.items = omega (arith, c.loop-entry-test.false, c.loop-entry.auto.entry-index-end, ap length c.deref-entry-items.ensures.value) in
    takes_all _ columns _ _ _ _ _ kept (c.loop-entry.invariant.takes columns kept) end even within_limit
