-- What the loop of `without_all` keeps: `within`.
use Rattle.attr_sets.specs.Attributes.{IsSubset}
use Rattle.attr_sets.specs.Sets.{attributes}
use Rattle.file_references.proofs.promising.without_all.Given as goal

-- members of the set are left
abbrev pub invariant-loop-other : goal.invariant-loop-other
invariant-loop-other l = record { within : IsSubset (attributes l.left) (attributes l.fn.set) }
