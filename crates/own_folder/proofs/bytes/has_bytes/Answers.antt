-- What is left to prove of `has_bytes`: that all rows of the table were looked at, by `any_whole`.
use Rattle.std.proofs.Common.{◌≡◌, ℕ, List, ap, arith, length}
use Rattle.std.specs.List.{list_any}
use Rattle.named_tables.specs.Choices.{chosen_row}
use Rattle.own_folder.specs.OwnFiles.{is_bytes}
use Rattle.own_folder.proofs.ByteLemmas.{any_whole}
use Rattle.own_folder.proofs.bytes.has_bytes.Goals as goal

pub returns : goal.returns
returns c =
    let chosen = c.args.table.now.chosen.items in
    let same : length c.deref-row-items.result.now ≡ length chosen = ap (λ (list : List ℕ). length list) c.deref-row-items.ensures.value in
    record {
      any = any_whole (list_any is_bytes) (chosen_row c.args.rows.now c.args.table.now) chosen c.loop-row.row-index _
          (omega (arith, same, c.loop-row-test.false)) c.loop-row.invariant;
    }
