-- What is left to prove of `are_first_among`: what it answers at a row whose values are not among these, by
-- `SourceLemmas`.
use Rattle.std.proofs.Common.{true≢false, List, ℕ, Bor, ap, sym, subst, ◌∙◌, arith}
use Rattle.std.specs.List.{list_all}
use Rattle.std.specs.Prelude.{Contains}
use Rattle.row_store.specs.Rows.{row_at}
use Rattle.table_join.specs.Lent.{lent_values, tuples_of}
use Rattle.file_references.specs.Columns.{is_there}
use Rattle.file_references.proofs.SourceLemmas.{one_is_not}
use Rattle.file_references.proofs.ValueLemmas.{whole_as_read}
use Rattle.file_references.proofs.sources.are_first_among.Goals as goal

pub returns-then-not-has_values : goal.returns-then-not-has_values
returns-then-not-has_values c =
    let rows = c.args.rows.now in
    let columns = c.args.columns.now in
    let keys = tuples_of c.args.values.now.keys in
    let row = c.loop-row.row in
    let read = lent_values c.take_on.new.values.items in
    let whole = whole_as_read columns (row_at rows row) read _ c.in_ok-take_on.ensures.values
    (sym c.if-are_there.true ∙ c.are_there.ensures.there ∙ ap (λ (l : List (Bor (List ℕ))). list_all is_there (lent_values l)) c.deref.ensures.value) in
    record {
      first = λ all. absurd (one_is_not rows columns keys row (omega (arith, c.loop-row-test.true, c.len-row-end.ensures.count)) whole
          (λ has. true≢false (sym (c.has_values.ensures.has.1 (subst (Contains keys) (sym c.in_ok-take_on.ensures.values) has)) ∙ c.if-not-has_values.true)) all);
    }
