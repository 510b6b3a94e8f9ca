-- What the loop of `line_stating` keeps: `All`.
use Rattle.std.proofs.Common.{◌≡◌, take}
use Rattle.std.specs.Prelude.{All}
use Rattle.dep_model.specs.Deps.{dependency_of}
use Rattle.short_derivations.specs.Inferences.{Line}
use Rattle.short_derivations.specs.Views.{lines_of}
use Rattle.short_derivations.proofs.emitting.line_stating.Given as goal

abbrev pub invariant-loop-k : goal.invariant-loop-k
invariant-loop-k l = All (λ (m : Line). m.stated ≡ dependency_of l.dep → ⊥) (lines_of (take l.k l.lines))
