-- What the loop of `chain` keeps, and by what it ends.
use Rattle.std.proofs.Common.{◌-◌}
use Rattle.attr_sets.specs.Attributes.{IsSubset, count_below}
use Rattle.attr_sets.specs.Sets.{attributes}
use Rattle.attr_sets.specs.declared.set.TheConstants.{MOST_ATTRIBUTES}
use Rattle.dep_model.specs.Theories.{universe_of}
use Rattle.short_derivations.specs.Links.{IsBegun}
use Rattle.short_derivations.specs.Views.{lines_of}
use Rattle.short_derivations.proofs.chaining.chain.Given as goal

abbrev pub invariant-loop-lhs : goal.invariant-loop-lhs
invariant-loop-lhs l = record {
  begun : IsBegun l.theory l.links (attributes l.lhs) (attributes l.rhs) (attributes l.closed) (lines_of l.lines.items);
  within : IsSubset (attributes l.closed) (universe_of l.theory);
}

abbrev pub decreases-loop-lhs : goal.decreases-loop-lhs
decreases-loop-lhs l = MOST_ATTRIBUTES - count_below (attributes l.closed) MOST_ATTRIBUTES
