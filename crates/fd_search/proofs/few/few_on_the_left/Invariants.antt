-- What the loop of `few_on_the_left` keeps.
use Rattle.std.proofs.Common.{◌≡◌, filter, take}
use Rattle.dep_model.specs.Deps.{dependency_of}
use Rattle.dep_model.specs.declared.dep.Dep.{Dep}
use Rattle.fd_search.specs.Small.{has_few}
use Rattle.fd_search.proofs.few.few_on_the_left.Given as goal

-- those so far
abbrev pub invariant-loop-dep : goal.invariant-loop-dep
invariant-loop-dep l = l.few.items ≡ filter (λ (d : Dep). has_few l.most (dependency_of d)) (take l.dep-index l.deps)
