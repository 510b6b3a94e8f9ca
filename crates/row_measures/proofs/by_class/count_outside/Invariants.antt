-- What the loop of `count_outside` keeps: the count of the rows so far.
use Rattle.std.proofs.Common.{◌≡◌, not}
use Rattle.attr_sets.specs.Attributes.{count_below}
use Rattle.removal_laws.specs.Classes.{in_chosen}
use Rattle.row_measures.proofs.by_class.count_outside.Given as goal

abbrev pub invariant-loop-row : goal.invariant-loop-row
invariant-loop-row l = record { count : l.count ≡ count_below (λ i. not (in_chosen l.groups l.classes l.chosen i)) l.row }
