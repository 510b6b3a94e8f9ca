-- What is left to prove of `any_bytes`: that all tables were looked at, by `any_whole`.
use Rattle.named_tables.specs.Tables.{chosen_value}
use Rattle.own_folder.specs.OwnFiles.{has_bytes}
use Rattle.own_folder.proofs.ByteLemmas.{any_whole}
use Rattle.own_folder.proofs.bytes.any_bytes.Goals as goal

pub returns : goal.returns
returns c = record {
  any = any_whole has_bytes (chosen_value c.args.rows.now) c.args.tables.now c.loop-table.table-index _
      c.loop-table-test.false c.loop-table.invariant;
}
