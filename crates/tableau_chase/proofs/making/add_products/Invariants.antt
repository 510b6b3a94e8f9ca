-- What the loop of `add_products` keeps: `parts`, `pool` and `adds`.
use Rattle.std.proofs.Common.{take}
use Rattle.attr_sets.specs.Sets.{attributes}
use Rattle.tableau_chase.specs.Pools.{IsPool}
use Rattle.tableau_chase.specs.Making.{AddsAll}
use Rattle.tableau_chase.proofs.MakingLemmas.{IsProductOf, AreParts}
use Rattle.tableau_chase.proofs.making.add_products.Given as goal

abbrev pub invariant-loop-i : goal.invariant-loop-i
invariant-loop-i l = record {
  parts : AreParts l.width (attributes l.fn.lhs) (attributes l.fn.rhs) (attributes l.both) l.initial.pool.rows.items l.count l.agreeing.items l.firsts.items l.groups.items;
  pool : IsPool l.limit l.pool;
  adds : AddsAll (IsProductOf l.width (attributes l.both) (take l.count l.initial.pool.rows.items) l.agreeing.items l.firsts.items l.groups.items l.i) l.initial.pool.rows.items l.pool.rows.items;
}
