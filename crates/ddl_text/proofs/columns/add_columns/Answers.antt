-- What is left to prove of `add_columns`: that a value may be missing where it may be and is not of the key.
use Rattle.std.proofs.Common.{◌≡◌, ◌++◌, ◌∙◌, false, ap, subst}
use Rattle.std.specs.Prelude.{IfOk, OnOk}
use Rattle.attr_sets.specs.Attributes.{Attributes, difference}
use Rattle.attr_sets.specs.Sets.{attributes}
use Rattle.schema_model.specs.Schemas.{nullable_of}
use Rattle.ddl_text.specs.Ddl.{columns_of_set}
use Rattle.sql_syntax.specs.Names.{is_not_empty}
use Rattle.sql_syntax.specs.Statements.{element_lines}
use Rattle.ddl_text.proofs.columns.add_columns.Goals as goal

pub returns : goal.returns
returns c =
    let s = c.args.schema.now in
    let scheme = attributes c.args.table.now.scheme in
    let same : attributes c.difference-nullable.result ≡ difference (nullable_of s) (attributes c.args.table.now.key) =
    c.difference-nullable.ensures.members ∙ ap (λ (x : Attributes). difference x (attributes c.args.table.now.key)) c.nullable.ensures.nullable in
    record {
      added = subst (λ (x : Attributes). OnOk c.add_columns_of_set.result
          (c.add_columns_of_set.new.text.items ≡ c.args.text.now.items ++ element_lines false (columns_of_set s x scheme)))
          same c.add_columns_of_set.ensures.added;
      any_written = subst (λ (x : Attributes). IfOk c.add_columns_of_set.result
          (λ any_before. any_before ≡ is_not_empty (columns_of_set s x scheme)))
          same c.add_columns_of_set.ensures.any_written;
    }
