-- What the loop of `wide_split_schemes` keeps: `within`, `before` and `goes_on`; and by what it ends.
use Rattle.std.proofs.Common.{List, ◌++◌}
use Rattle.attr_sets.specs.declared.set.TheConstants.{MOST_ATTRIBUTES}
use Rattle.attr_sets.specs.Attributes.{Attributes, IsSubset, count_below}
use Rattle.attr_sets.specs.Sets.{attributes}
use Rattle.dep_model.specs.Plans.{schemes_of}
use Rattle.dep_model.specs.Theories.{width_of, universe_of, theory_of}
use Rattle.wide_bcnf.specs.Pairs.{NoneBefore}
use Rattle.wide_bcnf.specs.WideSplits.{IsWideSplitOf}
use Rattle.wide_bcnf.proofs.splitting.wide_split_schemes.Given as goal

abbrev pub invariant-loop-pair : goal.invariant-loop-pair
invariant-loop-pair l = record {
  within : IsSubset (attributes l.rest) (universe_of l.theory);
  before : NoneBefore (width_of l.theory) (theory_of l.theory) (attributes l.rest) l.from.first l.from.second;
  goes_on : (later : List Attributes) → IsWideSplitOf (width_of l.theory) (theory_of l.theory) (attributes l.rest) later
      → IsWideSplitOf (width_of l.theory) (theory_of l.theory) (universe_of l.theory)
      (schemes_of l.schemes.items ++ later);
}

abbrev pub decreases-loop-pair : goal.decreases-loop-pair
decreases-loop-pair l = count_below (attributes l.rest) MOST_ATTRIBUTES
