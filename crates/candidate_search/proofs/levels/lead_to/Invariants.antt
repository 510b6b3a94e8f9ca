-- What the loop of `lead_to` keeps: `levels`.
use Rattle.std.specs.Prelude.{All}
use Rattle.dep_model.specs.Tuples.{Relation}
use Rattle.candidate_search.specs.Levels.{AreTabled, IsLevel}
use Rattle.candidate_search.proofs.levels.lead_to.Given as goal

-- all are levels
abbrev pub invariant-loop-step : goal.invariant-loop-step
invariant-loop-step l = record {
  levels : (r : Relation) → AreTabled l.width r l.table → All (IsLevel r) l.fn.levels.items
      → All (IsLevel r) l.levels.items;
}
