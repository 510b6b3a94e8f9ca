-- What the loop of `plan_pool` keeps: `pool` and `same`.
use Rattle.std.proofs.Common.{take}
use Rattle.chase_laws.specs.Tableaux.{SameTableau, plan_tableau}
use Rattle.tableau_chase.specs.Pools.{IsPool}
use Rattle.dep_model.specs.Plans.{schemes_of}
use Rattle.tableau_chase.proofs.adding.plan_pool.Given as goal

abbrev pub invariant-loop-i : goal.invariant-loop-i
invariant-loop-i l = record {
  pool : IsPool l.limit l.pool;
  same : SameTableau (plan_tableau l.width (take l.i (schemes_of l.schemes))) l.pool.rows.items;
}
