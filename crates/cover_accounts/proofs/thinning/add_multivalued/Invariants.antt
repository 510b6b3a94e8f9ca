-- What the loop of `add_multivalued` keeps, in terms of `is_multivalued`.
use Rattle.std.proofs.Common.{◌≡◌, ℕ, ◌++◌, length, take}
use Rattle.std.specs.Prelude.{All, filter}
use Rattle.attr_sets.specs.Attributes.{below}
use Rattle.cover_accounts.specs.Steps.{places_of, is_multivalued}
use Rattle.cover_accounts.specs.Gathering.{IsPlacedWithin}
use Rattle.cover_accounts.proofs.thinning.add_multivalued.Given as goal

abbrev pub invariant-loop-one : goal.invariant-loop-one
invariant-loop-one l = record {
  added : places_of l.others.items ≡ places_of l.initial.others.items ++ filter is_multivalued (places_of (take l.one-index l.list));
  front : take (length l.initial.others.items) l.others.items ≡ l.initial.others.items;
  within : (n : ℕ) → All (IsPlacedWithin (below n)) l.initial.others.items → All (IsPlacedWithin (below n)) l.list → All (IsPlacedWithin (below n)) l.others.items;
}
