-- What is left to prove of `write_rows`: that a round of its loop keeps the invariant, by `adds_next`, what the
-- lines of all rows are, by `adds_whole`, and where it stops, by `adds_until`.
use Rattle.std.proofs.Common.{◌≡◌, ℕ, List, ap, arith, length, refl}
use Rattle.std.specs.Prelude.{Ok}
use Rattle.destinations.specs.Formats.{row_line}
use Rattle.named_tables.specs.Choices.{chosen_row}
use Rattle.destinations.proofs.AddingLemmas.{adds_next, adds_nothing, adds_until, adds_whole, is_lent, within_lent}
use Rattle.destinations.proofs.table_text.write_rows.Goals as goal

pub loop-row-init : goal.loop-row-init
loop-row-init g c = adds_nothing (g.F.Folder.state c.args.folder.now) c.requires.is_open

pub loop-row-preserved : goal.loop-row-preserved
loop-row-preserved g c =
    let chosen = c.args.table.now.chosen.items in
    adds_next (λ (i : ℕ). row_line c.args.format c.args.front.now c.args.table.now.nullable.items (chosen_row c.args.rows.now c.args.table.now i)) chosen
    c.loop-row.row-index _ _ _ _ _ tt tt
    (within_lent _ chosen _ c.deref-row-items.ensures.value c.loop-row-test.true)
    (is_lent _ chosen _ _ _ c.deref-row-items.ensures.value refl)
    c.loop-row.invariant c.in-Ok.ensures.adds

pub returns-in-Err : goal.returns-in-Err
returns-in-Err g c = record { adds = adds_until _ _ _ _ _ _ tt _ c.loop-row.invariant c.in-Err.ensures.adds }

pub returns : goal.returns
returns g c =
    let chosen = c.args.table.now.chosen.items in
    let same : length c.deref-row-items.result.now ≡ length chosen = ap (λ (list : List ℕ). length list) c.deref-row-items.ensures.value in
    record {
      adds = adds_whole (row_line c.args.format c.args.front.now c.args.table.now.nullable.items) (chosen_row c.args.rows.now c.args.table.now) chosen
          c.loop-row.row-index _ _ (Ok tt) (omega (arith, same, c.loop-row-test.false)) c.loop-row.invariant;
    }
