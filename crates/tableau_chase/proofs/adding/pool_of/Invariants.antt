-- What the loop of `pool_of` keeps: `pool`, `same` and `count`.
use Rattle.std.proofs.Common.{◌≤◌, length, take}
use Rattle.chase_laws.specs.Tableaux.{SameTableau}
use Rattle.tableau_chase.specs.Pools.{IsPool}
use Rattle.tableau_chase.proofs.adding.pool_of.Given as goal

abbrev pub invariant-loop-i : goal.invariant-loop-i
invariant-loop-i l = record {
  pool : IsPool l.limit l.pool;
  same : SameTableau (take l.i l.rows) l.pool.rows.items;
  count : length l.pool.rows.items ≤ l.i;
}
