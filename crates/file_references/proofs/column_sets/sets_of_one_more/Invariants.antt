-- What the loop of `sets_of_one_more` keeps: `larger`.
use Rattle.std.proofs.Common.{take}
use Rattle.attr_sets.specs.Sets.{attributes}
use Rattle.file_references.proofs.SetLemmas.{AreLarger}
use Rattle.file_references.proofs.column_sets.sets_of_one_more.Given as goal

-- what the sets so far were made
abbrev pub invariant-loop-set : goal.invariant-loop-set
invariant-loop-set l = record { larger : AreLarger (attributes l.whole) (take l.set-index l.sets) l.larger.items }
