-- What is left to prove of `complete_rows`: its clause `text`, by the attributes of the key of which a value may be
-- missing.
use Rattle.std.proofs.Common.{◌≡◌, ◌∙◌, ap, subst}
use Rattle.std.specs.Prelude.{IfOk}
use Rattle.attr_sets.specs.Attributes.{Attributes, intersection}
use Rattle.attr_sets.specs.Sets.{attributes}
use Rattle.dep_model.specs.Projections.{members_below}
use Rattle.schema_model.specs.Schemas.{width_of}
use Rattle.sql_syntax.specs.Printing.{clause_text}
use Rattle.sql_migrate.specs.Script.{rows_with}
use Rattle.sql_scripts.proofs.filling.complete_rows.Goals as goal

pub returns : goal.returns
returns c =
    let s = c.args.schema.now in
    let key = attributes c.args.key in
    record {
      text = subst (λ (x : Attributes). IfOk c.rows_with.result
          (λ text. text.items ≡ clause_text (rows_with s (members_below (width_of s) x))))
          (c.intersection.ensures.members ∙ ap (intersection key) c.nullable.ensures.nullable)
          c.rows_with.ensures.text;
    }
