-- What the loop of `add_grown` keeps: `added`.
use Rattle.attr_sets.specs.Sets.{attributes}
use Rattle.candidate_sets.specs.Growing.{AddsFresh}
use Rattle.candidate_sets.proofs.growing.add_grown.Given as goal

-- the set with each one of the columns so far is added where it holds no kept set
abbrev pub invariant-loop-column : goal.invariant-loop-column
invariant-loop-column l = record {
  added : AddsFresh l.kept (attributes l.columns) l.set l.column l.fn.new.items l.new.items;
}
