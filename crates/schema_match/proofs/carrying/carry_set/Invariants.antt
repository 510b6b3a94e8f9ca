-- What the loop of `carry_set` keeps, in terms of `IsNamesakeTo`.
use Rattle.std.proofs.Common.{◌≡◌, ℕ, ◌↔◌, true}
use Rattle.attr_sets.specs.Sets.{attributes}
use Rattle.schema_match.proofs.CarryLemmas.{IsNamesakeTo}
use Rattle.schema_match.proofs.carrying.carry_set.Given as goal

abbrev pub invariant-loop-a : goal.invariant-loop-a
invariant-loop-a l = (b : ℕ) → (attributes l.carried b ≡ true) ↔ IsNamesakeTo l.a l.namesakes (attributes l.set) b
