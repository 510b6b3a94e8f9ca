-- What the loop of `states` keeps: `All`.
use Rattle.std.proofs.Common.{◌≡◌, take}
use Rattle.std.specs.Prelude.{All}
use Rattle.dep_model.specs.Deps.{dependency_of}
use Rattle.short_derivations.specs.Inferences.{Line}
use Rattle.short_derivations.specs.Views.{lines_of}
use Rattle.short_derivations.proofs.checking.states.Given as goal

abbrev pub invariant-loop-line : goal.invariant-loop-line
invariant-loop-line l = All (λ (m : Line). m.stated ≡ dependency_of l.dep → ⊥) (lines_of (take l.line-index l.lines))
