-- Levels: rows by their leaders on a set. For `refuting_evidence` and the functions below it. `Desk` does not cite it.
use Rattle.std.specs.Prelude.{ℕ}
use Rattle.attr_sets.specs.Sets.{attributes}
use Rattle.dep_model.specs.Tuples.{Relation, IsOver}
use Rattle.fd_discovery.specs.Leaders.{AreLeadersOn, IsTableOfRows}
use Rattle.fd_discovery.specs.declared.table.CodeColumns.{CodeColumns}
use Rattle.candidate_search.specs.declared.levels.Level.{Level}

-- rows of n values each, and the table of their numbers
pub record AreTabled (n : ℕ) (r : Relation) (t : CodeColumns) : Type 0 where
  pub over : IsOver n r
  pub table : IsTableOfRows n r t

-- the leaders of the rows on the set of a level
abbrev pub IsLevel : Relation → Level → Type 0
IsLevel r level = AreLeadersOn r (attributes level.set) level.leaders.items
