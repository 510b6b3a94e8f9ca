-- What the loop of `add_exchanged` keeps: `pool` and `adds`.
use Rattle.std.proofs.Common.{take}
use Rattle.attr_sets.specs.Sets.{attributes}
use Rattle.tableau_chase.specs.Pools.{IsPool}
use Rattle.tableau_chase.specs.Making.{IsExchangedWith, AddsAll}
use Rattle.tableau_chase.proofs.making.add_exchanged.Given as goal

abbrev pub invariant-loop-k : goal.invariant-loop-k
invariant-loop-k l = record {
  pool : IsPool l.limit l.pool;
  adds : AddsAll (IsExchangedWith l.width (attributes l.on) l.initial.pool.rows.items l.first (take l.k l.seconds)) l.initial.pool.rows.items l.pool.rows.items;
}
