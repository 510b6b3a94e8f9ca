-- What is left to prove of `filled_tables`: that a round of its loop keeps the invariant, by `filled_more` and
-- `filled_passed`, and what it answers, by `filled_are`.
use Rattle.std.proofs.Common.{◌≡◌, ◌∙◌, not, List, take_all, ap, sym, arith}
use Rattle.std.specs.Prelude.{filter}
use Rattle.attr_sets.specs.Attributes.{Attributes}
use Rattle.optional_tables.specs.Homes.{is_optional}
use Rattle.schema_model.specs.Schemas.{nullable_of}
use Rattle.ddl_text.specs.Designs.{keyed}
use Rattle.ddl_text.specs.declared.table.TableDesign.{TableDesign}
use Rattle.sql_migrate.specs.Script.{joined_tables}
use Rattle.sql_scripts.proofs.FilledLemmas.{filled_are, is_filled, filled_more, filled_passed}
use Rattle.sql_scripts.proofs.ordering.filled_tables.Goals as goal
use Rattle.sql_scripts.proofs.ordering.filled_tables.Goals.{then-not-optional+in_ok-push, else-not-optional}

pub loop-design-preserved : goal.loop-design-preserved
loop-design-preserved c =
    let s = c.args.schema.now in
    let designs = c.args.designs.now in
    let i = c.loop-design.design-index in
    let table = c.design-item.result in
    let answered : c.is_optional-optional.result ≡ is_optional (nullable_of s) (keyed table) =
    c.is_optional-optional.ensures.optional
    ∙ ap (λ (x : Attributes). is_optional x c.keyed.result) c.nullable.ensures.nullable
    ∙ ap (is_optional (nullable_of s)) c.keyed.ensures.keyed in
    elim c.if-not-optional.branch [
      | then-not-optional+in_ok-push w ↦ rw w.tables-is
          (filled_more s designs i table c.loop-design.tables.items _ c.loop-design-test.true c.design-item.is
          (ap not (sym answered ∙ w.if-not-optional.true)) c.loop-design.invariant w.in_ok-push.ensures.items)
      | else-not-optional w ↦ rw w.tables-is
          (filled_passed s designs i table c.loop-design.tables.items c.loop-design-test.true c.design-item.is
          (ap not (sym answered ∙ w.if-not-optional.false)) c.loop-design.invariant)
    ]

pub returns : goal.returns
returns c =
    let s = c.args.schema.now in
    let designs = c.args.designs.now in
    record {
      tables = c.loop-design.invariant
          ∙ ap (λ (ts : List TableDesign). joined_tables (filter (is_filled s) ts))
          (take_all c.loop-design.design-index designs (omega (arith, c.loop-design-test.false)))
          ∙ ap joined_tables (sym (filled_are s designs));
    }
