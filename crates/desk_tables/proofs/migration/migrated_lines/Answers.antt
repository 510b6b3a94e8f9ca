-- What is left to prove of `migrated_lines`: its clause `text`, by `lines_of`.
use Rattle.std.proofs.Common.{◌≡◌, ℕ, List, ◌++◌, ap, subst, ◌∙◌}
use Rattle.std.specs.Prelude.{codes}
use Rattle.std.specs.Fmt.{decimal}
use Rattle.std.specs.List.{flat_map}
use Rattle.named_tables.specs.Tables.{table_values}
use Rattle.desk_texts.specs.Texts.{line}
use Rattle.desk_tables.specs.Migrations.{table_line}
use Rattle.desk_tables.proofs.MigrationLemmas.{lines_of}
use Rattle.desk_tables.proofs.migration.migrated_lines.Goals as goal

pub returns : goal.returns
returns c = record {
  text = c.in_ok-put_tables.ensures.added ∙ ap (λ (l : List ℕ). c.in_ok-text.text.items ++ l) (lines_of c.args.naming c.args.tables.now.rows c.args.tables.now.tables.items) ∙ ap (λ (l : List ℕ). l ++ flat_map (table_line c.args.naming) (table_values c.args.tables.now))
      (subst (λ (n : ℕ). c.in_ok-text.text.items ≡ line (codes "read " ++ decimal n ++ codes " rows")) c.len.ensures.count c.in_ok-text.ensures.line);
}
