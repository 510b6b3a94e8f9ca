-- What the loop of `add_next` keeps: `pool` and `adds`.
use Rattle.dep_model.specs.Deps.{dependencies_of}
use Rattle.tableau_chase.specs.Pools.{IsPool}
use Rattle.tableau_chase.specs.Making.{AddsAll}
use Rattle.tableau_chase.proofs.MakingLemmas.{IsMadeUpTo}
use Rattle.tableau_chase.proofs.making.add_next.Given as goal

abbrev pub invariant-loop-dep : goal.invariant-loop-dep
invariant-loop-dep l = record {
  pool : IsPool l.limit l.pool;
  adds : AddsAll (IsMadeUpTo l.width (dependencies_of l.deps) l.initial.pool.rows.items l.dep-index) l.initial.pool.rows.items l.pool.rows.items;
}
