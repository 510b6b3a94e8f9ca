-- What the loop of `least_functional_pair` keeps: `least`.
use Rattle.attr_sets.specs.Sets.{attributes}
use Rattle.dep_model.specs.Tuples.{Relation}
use Rattle.row_groups.specs.Interning.{IsInterned, groups_of, firsts_of}
use Rattle.legality.proofs.PairLemmas.{Leads, leader}
use Rattle.legality.proofs.functional.least_functional_pair.Given as goal

-- the least pair among the rows so far, each with the first row of its group
abbrev pub invariant-loop-second : goal.invariant-loop-second
invariant-loop-second l = record {
  least : (rows : Relation) → IsInterned l.width rows l.codes
      → Leads rows (attributes l.rhs) (leader (groups_of l.groups) (firsts_of l.groups)) l.second l.least;
}
