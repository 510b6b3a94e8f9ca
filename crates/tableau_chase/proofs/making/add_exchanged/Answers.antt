-- What is left to prove of `add_exchanged`: its clause `too_many` and that the invariant of its
-- loop holds at first and stays, by `MakingLemmas` and `PoolLemmas`.
use Rattle.std.proofs.Common.{◌≡◌, ◌+◌, [], take, get_or, refl}
use Rattle.attr_sets.specs.Sets.{attributes}
use Rattle.chase_laws.specs.Steps.{exchange_rows}
use Rattle.tableau_chase.specs.Groups.{symbol_row_at}
use Rattle.tableau_chase.specs.Making.{IsExchangedWith}
use Rattle.tableau_chase.proofs.PoolLemmas.{adds_none, adds_more, overflow_here}
use Rattle.tableau_chase.proofs.MakingLemmas.{exchanged_rows, exchanged_with_none, exchanged_with_old, exchanged_with_new, exchanged_with_cases, exchanged_with_take, exchanged_with_here}
use Rattle.tableau_chase.proofs.making.add_exchanged.Goals as goal
use Rattle.tableau_chase.proofs.making.add_exchanged.Goals.{In_ok-row}

pub loop-k-init : goal.loop-k-init
loop-k-init c = record {
  pool = c.requires.pool;
  adds = adds_none (IsExchangedWith c.args.width (attributes c.args.on) c.args.pool.now.rows.items c.args.first []) c.args.pool.now.rows.items (exchanged_with_none c.args.width (attributes c.args.on) c.args.pool.now.rows.items c.args.first);
}

-- the row that is made with the next second row
made : (c : In_ok-row) → c.in_ok-row.row ≡ exchange_rows c.args.width (attributes c.args.on) (symbol_row_at c.args.pool.now.rows.items c.args.first)
    (symbol_row_at c.args.pool.now.rows.items (get_or c.args.seconds.now c.loop-k.k 0))
made c =
    exchanged_rows c.args.width (attributes c.args.on) c.args.pool.now.rows.items c.loop-k.pool.rows.items c.args.first (get_or c.args.seconds.now c.loop-k.k 0)
    c.index.result.now c.index-in-loop-k.result.now c.in_ok-row.row c.loop-k.invariant.adds.extends c.requires.first (c.requires.seconds c.loop-k.k 0 c.loop-k-test.true)
    c.index.ensures c.index-in-loop-k.ensures c.in_ok-row.ensures.row

pub loop-k-preserved : goal.loop-k-preserved
loop-k-preserved c =
    let n = c.args.width in
    let z = attributes c.args.on in
    let t = c.args.pool.now.rows.items in
    let k = c.loop-k.k in
    let seconds = c.args.seconds.now in
    let row = c.in_ok-row.row in
    let row_is = made (goal.at.loop-k-preserved c).In_ok-row in
    record {
      pool = c.in-Ok.ensures.pool;
      adds = adds_more (IsExchangedWith n z t c.args.first (take k seconds)) (IsExchangedWith n z t c.args.first (take (k + 1) seconds)) t c.loop-k.pool.rows.items row c.add.new.self.rows.items
          (exchanged_with_old n z t c.args.first k (k + 1) seconds refl c.loop-k-test.true) (exchanged_with_new n z t c.args.first k (k + 1) seconds refl c.loop-k-test.true row row_is)
          (λ p h. exchanged_with_cases n z t c.args.first k (k + 1) seconds refl c.loop-k-test.true p row row_is h) c.loop-k.invariant.adds c.in-Ok.ensures.rows;
    }

pub returns-in-Err-clause-too_many : goal.returns-in-Err-clause-too_many
returns-in-Err-clause-too_many c e =
    let n = c.args.width in
    let z = attributes c.args.on in
    let t = c.args.pool.now.rows.items in
    let seconds = c.args.seconds.now in
    overflow_here (IsExchangedWith n z t c.args.first (take c.loop-k.k seconds)) (IsExchangedWith n z t c.args.first seconds) c.args.limit t c.loop-k.pool.rows.items c.in_ok-row.row
    (exchanged_with_take n z t c.args.first c.loop-k.k seconds)
    (exchanged_with_here n z t c.args.first c.loop-k.k seconds c.in_ok-row.row c.loop-k-test.true (made (goal.at.returns-in-Err-clause-too_many c).In_ok-row))
    c.loop-k.invariant.adds c.loop-k.invariant.pool.differ (c.in-Err.ensures.absent e) (c.in-Err.ensures.full e)
