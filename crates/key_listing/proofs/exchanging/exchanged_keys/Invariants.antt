-- What the loop of `exchanged_keys` keeps: `listed`, `one`, `tried_in` and `tried`; and by what it
-- ends.
use Rattle.std.proofs.Common.{ℕ, ◌+◌, ◌-◌, ◌<◌, ◌≤◌, length}
use Rattle.std.specs.Prelude.{slice_index_or}
use Rattle.attr_sets.specs.declared.set.AttrSet.{AttrSet}
use Rattle.attr_sets.specs.Sets.{attributes}
use Rattle.dep_model.specs.Theories.{width_of, universe_of, theory_of}
use Rattle.key_listing.specs.declared.refusal.TheConstants.{MOST_KEYS}
use Rattle.key_listing.specs.Listing.{AreSomeKeys, IsExchangedUnlessMany}
use Rattle.key_listing.proofs.exchanging.exchanged_keys.Given as goal

abbrev pub invariant-loop-tried : goal.invariant-loop-tried
invariant-loop-tried l = record {
  listed : AreSomeKeys (width_of l.theory) (theory_of l.theory) (universe_of l.theory) l.found.items;
  one : 0 < length l.found.items;
  tried_in : l.tried ≤ length l.found.items;
  tried : (i : ℕ) (d : AttrSet) → i < l.tried → IsExchangedUnlessMany (theory_of l.theory) l.found.items (attributes (slice_index_or l.found.items i d));
}

abbrev pub decreases-loop-tried : goal.decreases-loop-tried
decreases-loop-tried l = MOST_KEYS + 2 - l.tried
