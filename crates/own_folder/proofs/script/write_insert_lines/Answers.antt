-- What is left to prove of `write_insert_lines`: that a round of its loop keeps the invariant, by `adds_next`, what the
-- lines of all tables are, by `adds_whole`, and where it stops, by `adds_until`.
use Rattle.std.specs.Prelude.{Ok}
use Rattle.destinations.specs.Formats.{table_text}
use Rattle.destinations.specs.declared.format.TableFormat.TheVariants.{Sql}
use Rattle.named_tables.specs.Tables.{chosen_value}
use Rattle.named_tables.specs.declared.table.ChosenTable.{ChosenTable}
use Rattle.destinations.proofs.AddingLemmas.{adds_next, adds_nothing, adds_until, adds_whole}
use Rattle.own_folder.proofs.script.write_insert_lines.Goals as goal

pub loop-table-init : goal.loop-table-init
loop-table-init g c = adds_nothing (g.F.Folder.state c.args.folder.now) c.requires.is_open

pub loop-table-preserved : goal.loop-table-preserved
loop-table-preserved g c =
    adds_next (λ (table : ChosenTable). table_text Sql (chosen_value c.args.rows.now table)) c.args.tables.now c.loop-table.table-index _ _ _ _ _ tt tt
    c.loop-table-test.true c.table-item.is c.loop-table.invariant c.in-Ok.ensures.adds

pub returns-in-Err : goal.returns-in-Err
returns-in-Err g c = record { adds = adds_until _ _ _ _ _ _ tt _ c.loop-table.invariant c.in-Err.ensures.adds }

pub returns : goal.returns
returns g c = record {
  adds = adds_whole (table_text Sql) (chosen_value c.args.rows.now) c.args.tables.now c.loop-table.table-index _ _ (Ok tt) c.loop-table-test.false
      c.loop-table.invariant;
}
