-- What is left to prove of `print_two_rows`: what `print_made_up` requires, and its clause `text`.
use Rattle.std.proofs.Common.{◌≡◌, subst}
use Rattle.std.specs.Prelude.{IfOk}
use Rattle.attr_sets.specs.Sets.{attributes}
use Rattle.csv_text.specs.Rows.{rows_text}
use Rattle.dep_model.proofs.TwoTupleLemmas.{two_tuples-over}
use Rattle.schema_model.specs.Schemas.{names_of, width_of}
use Rattle.dep_model.specs.Tuples.{Relation}
use Rattle.typed_rows.proofs.NumeralLemmas.{two_tuples_hold}
use Rattle.typed_rows.specs.Shown.{shown_relation}
use Rattle.typed_rows.proofs.printing.print_two_rows.Goals as goal

pub print_made_up-requires-clause-over : goal.print_made_up-requires-clause-over
print_made_up-requires-clause-over c =
    rw (rw (c.theory.ensures.theory) at c.in_ok-witness.ensures.rows) (two_tuples-over (width_of c.args.schema.now) (attributes c.args.agreement))

pub print_made_up-requires-clause-numerals : goal.print_made_up-requires-clause-numerals
print_made_up-requires-clause-numerals c =
    rw (rw (c.theory.ensures.theory) at c.in_ok-witness.ensures.rows) (two_tuples_hold (width_of c.args.schema.now) (attributes c.args.agreement))

pub returns : goal.returns
returns c =
    let s = c.args.schema.now in
    record {
      text = subst (λ (r : Relation). IfOk c.print_made_up.result (λ text. text.items ≡ rows_text (names_of s) (shown_relation s r)))
          (rw (c.theory.ensures.theory) at c.in_ok-witness.ensures.rows) c.print_made_up.ensures.text;
    }
