-- What the loop of `ask` keeps: `all`, `kept`, `within`.
use Rattle.std.proofs.Common.{◌≡◌, ◌++◌, ℕ, List, take}
use Rattle.std.specs.Prelude.{All, Contains}
use Rattle.attr_sets.specs.Attributes.{count_below}
use Rattle.attr_sets.specs.Sets.{attributes}
use Rattle.attr_sets.specs.declared.set.TheConstants.{MOST_ATTRIBUTES}
use Rattle.candidate_search.specs.Asking.{IsAskedWithin}
use Rattle.candidate_search.specs.Sides.{HasCandidates}
use Rattle.candidate_search.specs.declared.asking.Asked.{Asked}
use Rattle.candidate_search.proofs.asking.ask.Given as goal

-- the left sides so far are asked about
abbrev pub invariant-loop-left : goal.invariant-loop-left
invariant-loop-left l = record {
  all : All (λ s. count_below (attributes s) MOST_ATTRIBUTES ≡ l.size
      → Contains l.asked.items (record { left = s; right = l.side.right })) (take l.left-index l.side.lefts.items);
  kept : (more : List Asked) × (l.asked.items ≡ l.fn.asked.items ++ more);
  within : (n most : ℕ) → HasCandidates n most l.side → All (IsAskedWithin n) l.fn.asked.items
      → All (IsAskedWithin n) l.asked.items;
}
