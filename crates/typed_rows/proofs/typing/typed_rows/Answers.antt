-- What is left to prove of `typed_rows`: that its rows fit the columns, by `fits_schema`.
use Rattle.std.proofs.Common.{sym, ap, subst, ◌∙◌, take_all}
use Rattle.schema_model.specs.Schemas.{types_of}
use Rattle.dep_model.specs.Tuples.{Relation}
use Rattle.column_values.specs.Values.{FitsColumns}
use Rattle.typed_rows.specs.Typed.{typed_relation}
use Rattle.typed_rows.proofs.RelationLemmas.{fits_schema}
use Rattle.typed_rows.proofs.typing.typed_rows.Goals as goal

pub returns-clause-fits : goal.returns-clause-fits
returns-clause-fits c =
    let whole = c.loop-row.invariant ∙ ap (typed_relation (types_of c.args.schema.now)) (take_all c.loop-row.row-index c.args.rows.now c.loop-row-test.false) in
    subst (λ (r : Relation). FitsColumns c.args.schema.now r) (sym whole)
    (fits_schema c.args.schema.now c.args.rows.now c.requires.over c.requires.numerals)
