-- What the loop of `add_multivalued` keeps: `added`, `front` and `within`.
use Rattle.std.proofs.Common.{◌≡◌, ℕ, ◌++◌, length, take}
use Rattle.std.specs.Prelude.{All}
use Rattle.attr_sets.specs.Attributes.{below}
use Rattle.dep_model.specs.Deps.{dependencies_of, IsDepWithin}
use Rattle.min_cover.specs.Covers.{multivalued_part}
use Rattle.min_cover.proofs.thinning.add_multivalued.Given as goal

abbrev pub invariant-loop-dep : goal.invariant-loop-dep
invariant-loop-dep l = record {
  added : dependencies_of l.others.items ≡ dependencies_of l.initial.others.items ++ multivalued_part (dependencies_of (take l.dep-index l.deps));
  front : take (length l.initial.others.items) l.others.items ≡ l.initial.others.items;
  within : (n : ℕ) → All (IsDepWithin (below n)) l.initial.others.items → All (IsDepWithin (below n)) l.deps → All (IsDepWithin (below n)) l.others.items;
}
