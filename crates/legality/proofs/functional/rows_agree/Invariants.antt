-- What the loop of `rows_agree` keeps: `within` and `same`; and by what it ends.
use Rattle.std.proofs.Common.{◌≡◌, ℕ, true, false}
use Rattle.attr_sets.specs.Attributes.{IsSubset, count_below}
use Rattle.attr_sets.specs.Sets.{attributes}
use Rattle.attr_sets.specs.declared.set.TheConstants.{MOST_ATTRIBUTES}
use Rattle.row_groups.specs.Interning.{codes_at}
use Rattle.row_groups.specs.Numberings.{number_at}
use Rattle.legality.proofs.functional.rows_agree.Given as goal

-- the two rows have the same numbers at the members of the set that are not left
abbrev pub invariant-loop-attribute : goal.invariant-loop-attribute
invariant-loop-attribute l = record {
  within : IsSubset (attributes l.left) (attributes l.fn.set);
  same : (k : ℕ) → attributes l.fn.set k ≡ true → attributes l.left k ≡ false
      → number_at (codes_at l.codes k) l.first ≡ number_at (codes_at l.codes k) l.second;
}

abbrev pub decreases-loop-attribute : goal.decreases-loop-attribute
decreases-loop-attribute l = count_below (attributes l.left) MOST_ATTRIBUTES
