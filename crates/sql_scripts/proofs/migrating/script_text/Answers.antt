-- What is left to prove of `script_text`: its clause `text`, by `migration_printed`.
use Rattle.std.proofs.Common.{◌≡◌, ◌++◌, ℕ, List, subst, ap, ◌∙◌}
use Rattle.std.specs.Prelude.{IfOk}
use Rattle.std.specs.List.{flat_map}
use Rattle.ddl_text.specs.declared.table.TableDesign.{TableDesign}
use Rattle.sql_syntax.specs.Statements.{create_view, statement_text}
use Rattle.sql_migrate.specs.Script.{view_name, view_query}
use Rattle.sql_scripts.specs.Migrating.{opening_text, fill_text, testing_text}
use Rattle.sql_scripts.proofs.MigrationLemmas.{migration_printed}
use Rattle.sql_scripts.proofs.migrating.script_text.Goals as goal

pub returns : goal.returns
returns c =
    let s = c.args.schema.now in
    record {
      text = subst (λ (t : List ℕ). IfOk c.migration_text.result (λ text. text.items ≡ t))
          (ap (λ (designs : List TableDesign). opening_text s c.args.table.now ++ c.deref.result.now ++ flat_map (fill_text s) designs
          ++ statement_text (create_view view_name (view_query s designs)) ++ testing_text s c.args.table.now) c.tables.ensures.tables
          ∙ migration_printed s c.args.table.now c.args.design.now c.deref.result.now (c.deref.ensures.value ∙ c.in_ok-ddl.ensures.text))
          c.migration_text.ensures.text;
    }
