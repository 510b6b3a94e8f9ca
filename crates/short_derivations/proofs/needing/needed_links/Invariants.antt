-- What the loop of `needed_links` keeps: what is kept and what is left implies the goal, and all that is kept
-- is needed for it.
use Rattle.std.proofs.Common.{◌≤◌, ◌++◌, length, drop}
use Rattle.std.specs.Prelude.{All}
use Rattle.dep_model.specs.Deps.{dependency_of}
use Rattle.dep_model.specs.Implication.{Implies}
use Rattle.dep_model.specs.Theories.{width_of}
use Rattle.short_derivations.specs.Links.{IsLinkOf, IsNeeded, said_by}
use Rattle.short_derivations.proofs.needing.needed_links.Given as goal

abbrev pub invariant-loop-k : goal.invariant-loop-k
invariant-loop-k l = record {
  implied : Implies (width_of l.theory) (said_by (l.kept.items ++ drop l.k l.links)) (dependency_of l.goal);
  needed : All (IsNeeded (width_of l.theory) (dependency_of l.goal) (said_by (l.kept.items ++ drop l.k l.links))) (said_by l.kept.items);
  are : All (IsLinkOf l.theory) l.kept.items;
  shorter : length l.kept.items ≤ l.k;
}
