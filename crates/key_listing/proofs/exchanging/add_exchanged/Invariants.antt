-- What the loop of `add_exchanged` keeps: `listed`, `kept` and `exchanged`.
use Rattle.std.proofs.Common.{◌≡◌, take, length}
use Rattle.attr_sets.specs.Sets.{attributes}
use Rattle.dep_model.specs.Deps.{dependencies_of}
use Rattle.dep_model.specs.Theories.{width_of, universe_of, theory_of, deps_of}
use Rattle.key_listing.specs.Listing.{AreSomeKeys, IsExchangedUnlessMany}
use Rattle.key_listing.proofs.exchanging.add_exchanged.Given as goal

abbrev pub invariant-loop-dep : goal.invariant-loop-dep
invariant-loop-dep l = record {
  listed : AreSomeKeys (width_of l.theory) (theory_of l.theory) (universe_of l.theory) l.found.items;
  kept : take (length l.initial.found.items) l.found.items ≡ l.initial.found.items;
  exchanged : IsExchangedUnlessMany (dependencies_of (take l.dep-index (deps_of l.theory))) l.found.items (attributes l.key);
}
