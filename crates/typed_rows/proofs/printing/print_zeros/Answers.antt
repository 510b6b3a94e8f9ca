-- What is left to prove of `print_zeros`: what `typed_rows` and `take_values` require, and its clause `text`.
use Rattle.std.proofs.Common.{◌≡◌, ◌<◌, length, subst, sym, ap, ◌∙◌, arith}
use Rattle.std.specs.Prelude.{IfOk}
use Rattle.attr_sets.specs.Sets.{attributes}
use Rattle.csv_text.specs.Rows.{csv_row}
use Rattle.dep_model.proofs.TwoTupleLemmas.{two_tuples-is, two_tuples-over}
use Rattle.schema_model.specs.Schemas.{types_of, width_of}
use Rattle.dep_model.specs.Tuples.{Relation, Tuple}
use Rattle.row_store.specs.Rows.{row_at}
use Rattle.typed_rows.proofs.NumeralLemmas.{two_tuples_hold}
use Rattle.typed_rows.specs.Typed.{typed_relation}
use Rattle.typed_rows.proofs.printing.print_zeros.Goals as goal

pub typed_rows-requires-clause-over : goal.typed_rows-requires-clause-over
typed_rows-requires-clause-over c =
    rw (rw (c.theory.ensures.theory) at c.in_ok-pair.ensures.rows) (two_tuples-over (width_of c.args.schema.now) (attributes c.full.result))

pub typed_rows-requires-clause-numerals : goal.typed_rows-requires-clause-numerals
typed_rows-requires-clause-numerals c =
    rw (rw (c.theory.ensures.theory) at c.in_ok-pair.ensures.rows) (two_tuples_hold (width_of c.args.schema.now) (attributes c.full.result))

pub take_values-requires : goal.take_values-requires
take_values-requires c =
    let s = c.args.schema.now in
    let rows = c.in_ok-rows.ensures.rows ∙ c.deref.ensures.value ∙ c.in_ok-typed_rows.ensures.rows
    ∙ ap (λ (r : Relation). typed_relation (types_of s) r)
    ((rw (c.theory.ensures.theory) at c.in_ok-pair.ensures.rows) ∙ two_tuples-is (width_of s) (attributes c.full.result)) in
    record { row = subst (λ (r : Relation). 0 < length r) (sym rows) (omega arith) }

pub returns : goal.returns
returns c =
    let s = c.args.schema.now in
    let rows = c.in_ok-rows.ensures.rows ∙ c.deref.ensures.value ∙ c.in_ok-typed_rows.ensures.rows
    ∙ ap (λ (r : Relation). typed_relation (types_of s) r)
    ((rw (c.theory.ensures.theory) at c.in_ok-pair.ensures.rows) ∙ two_tuples-is (width_of s) (attributes c.full.result)) in
    let values = c.in_ok-take_values.ensures.values ∙ ap (λ (r : Relation). row_at r 0) rows in
    record {
      text = subst (λ (t : Tuple). IfOk c.fields_line.result (λ text. text.items ≡ csv_row t)) values
          c.fields_line.ensures.text;
    }
