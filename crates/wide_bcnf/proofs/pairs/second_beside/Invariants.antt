-- What the loop of `second_beside` keeps, in terms of `width_of`, `theory_of` and `IsPair`.
use Rattle.std.proofs.Common.{ℕ, ◌≤◌}
use Rattle.attr_sets.specs.Sets.{attributes}
use Rattle.dep_model.specs.Theories.{width_of, theory_of}
use Rattle.wide_bcnf.specs.Pairs.{IsPair}
use Rattle.wide_bcnf.proofs.pairs.second_beside.Given as goal

abbrev pub invariant-loop-second : goal.invariant-loop-second
invariant-loop-second l =
    (d : ℕ) → IsPair (width_of l.fn.theory) (theory_of l.fn.theory) (attributes l.fn.scheme) l.fn.first d → l.second ≤ d
