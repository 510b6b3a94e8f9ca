-- What is left to prove of `has_integers`: what it answers in one case and that a round of its loop
-- keeps the invariant.
use Rattle.std.proofs.Common.{sym, ◌∙◌, ap}
use Rattle.std.proofs.lemmas.List.Folds.{list_any_at, list_any_more}
use Rattle.std.proofs.lemmas.Option.{get_or_from_slice_get, slice_get_within}
use Rattle.schema_model.specs.Schemas.{types_of}
use Rattle.schema_printer.specs.Printing.{is_integer}
use Rattle.schema_printer.proofs.printing.has_integers.Goals as goal

pub returns-then-is_integer : goal.returns-then-is_integer
returns-then-is_integer c =
    let columns = types_of c.args.schema.now in
    let k = c.loop-attribute.attribute in
    let column = c.column.result in
    let here = c.column.ensures.column in
    record {
      any_integer = sym
          (list_any_at is_integer columns k column (slice_get_within columns k column here)
          (ap is_integer (get_or_from_slice_get columns k column column here) ∙ sym c.if-is_integer.ensures.exact));
    }

pub loop-attribute-preserved : goal.loop-attribute-preserved
loop-attribute-preserved c =
    let columns = types_of c.args.schema.now in
    let k = c.loop-attribute.attribute in
    let column = c.column.result in
    let here = c.column.ensures.column in
    list_any_more is_integer columns k column (slice_get_within columns k column here)
    ∙ (rw (c.loop-attribute.invariant, get_or_from_slice_get columns k column column here)
    (sym c.if-is_integer.ensures.exact))
