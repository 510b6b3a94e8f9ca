-- What the loop of `others_given` keeps: `All`.
use Rattle.std.specs.Prelude.{All}
use Rattle.dep_model.specs.Deps.{IsDepWithin}
use Rattle.dep_model.specs.Theories.{universe_of}
use Rattle.short_derivations.proofs.sparing.others_given.Given as goal

abbrev pub invariant-loop-k : goal.invariant-loop-k
invariant-loop-k l = All (IsDepWithin (universe_of l.theory)) l.others.items
