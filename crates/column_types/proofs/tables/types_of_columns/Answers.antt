-- What is left to prove of `types_of_columns`: that a round of its loop keeps the invariant, by
-- `types_more`.
use Rattle.std.proofs.Common.{◌∷◌, [], length, sym, ap, subst, arith}
use Rattle.std.proofs.lemmas.List.{length-append}
use Rattle.std.proofs.lemmas.List.Elements.{All-push}
use Rattle.std.specs.Prelude.{All, IsTrue}
use Rattle.column_types.specs.FirstTypes.{AreTypesOf}
use Rattle.schema_model.specs.Columns.{is_column_type}
use Rattle.column_types.proofs.FirstLemmas.{types_more}
use Rattle.column_types.proofs.tables.types_of_columns.Goals as goal

pub loop-position-preserved : goal.loop-position-preserved
loop-position-preserved c =
    let columns = c.loop-position.columns.items in
    let items = c.in_ok-push.ensures.items in
    record {
      count = omega (arith, ap length items, length-append columns (c.type_of_column.result ∷ []), c.loop-position.invariant.count);
      types = subst (AreTypesOf c.args.rows.now) (sym items)
          (types_more c.args.rows.now columns c.loop-position.position c.type_of_column.result c.loop-position.invariant.count
          c.loop-position.invariant.types c.type_of_column.ensures.column);
      valid = subst (All (λ column. IsTrue (is_column_type column))) (sym items)
          (All-push (λ column. IsTrue (is_column_type column)) columns c.type_of_column.result c.loop-position.invariant.valid
          c.type_of_column.ensures.valid);
    }
