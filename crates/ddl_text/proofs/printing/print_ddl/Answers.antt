-- What is left to prove of `print_ddl`: its clause `text`, by `scripts_flat`.
use Rattle.std.proofs.Common.{◌++◌, ◌∙◌, ℕ, List, ap, sym}
use Rattle.std.specs.List.{flat_map}
use Rattle.ddl_text.specs.Ddl.{table_made}
use Rattle.ddl_text.specs.declared.table.TableDesign.{TableDesign}
use Rattle.ddl_text.proofs.TextLemmas.{scripts_flat}
use Rattle.sql_syntax.specs.Statements.{script_text}
use Rattle.ddl_text.proofs.printing.print_ddl.Goals as goal

pub returns : goal.returns
returns c =
    let s = c.args.schema.now in
    let tables = c.args.design.now in
    record {
      text = c.in_ok-add_tables.ensures.added
          ∙ ap (λ (t : List ℕ). t ++ flat_map (λ table. script_text (table_made s c.tables.result.now table)) c.tables.result.now)
          c.new-text.ensures.items
          ∙ ap (λ (ts : List TableDesign). flat_map (λ table. script_text (table_made s ts table)) ts) c.tables.ensures.tables
          ∙ sym (scripts_flat (table_made s tables) tables);
    }
