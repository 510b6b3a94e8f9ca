-- The lists for which `Counters` of the code may be used: for the closure by counting, here and in
-- preservation. `Desk` does not cite it.
use Rattle.std.specs.Prelude.{◌≡◌, List, length}
use Rattle.dep_model.specs.declared.dep.Dep.{Dep}
use Rattle.fd_closure.specs.declared.counting.Counters.{Counters}

-- there is one count for each dependency of a list
abbrev pub FitsList : Counters → List Dep → Type 0
FitsList counters deps = length counters.counts.items ≡ length deps
