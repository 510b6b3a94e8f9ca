-- What the loop of `number_given` keeps: `All`.
use Rattle.std.proofs.Common.{◌≡◌, take}
use Rattle.std.specs.Prelude.{All}
use Rattle.dep_model.specs.declared.dep.Dep.{Dep}
use Rattle.dep_model.specs.Deps.{dependency_of}
use Rattle.dep_model.specs.Theories.{deps_of}
use Rattle.short_derivations.proofs.given.number_given.Given as goal

abbrev pub invariant-loop-k : goal.invariant-loop-k
invariant-loop-k l = All (λ (d : Dep). dependency_of d ≡ dependency_of l.goal → ⊥) (take l.k (deps_of l.theory))
