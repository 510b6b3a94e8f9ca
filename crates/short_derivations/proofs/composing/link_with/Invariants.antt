-- What the loop of `link_with` keeps: `All`.
use Rattle.std.proofs.Common.{take}
use Rattle.std.specs.Prelude.{All}
use Rattle.dep_model.specs.declared.dep.Dep.{Dep}
use Rattle.dep_model.specs.Deps.{dependency_of}
use Rattle.attr_sets.specs.Sets.{attributes}
use Rattle.dep_model.specs.Theories.{deps_of}
use Rattle.short_derivations.specs.Links.{IsCutOf}
use Rattle.short_derivations.proofs.composing.link_with.Given as goal

abbrev pub invariant-loop-k : goal.invariant-loop-k
invariant-loop-k l = All (λ (d : Dep). IsCutOf (attributes l.lhs) (attributes l.rhs) (dependency_of d) → ⊥) (take l.k (deps_of l.theory))
