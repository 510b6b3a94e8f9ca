-- Sets that no dependency of a list leads out of: for the closure, and for the laws of fd_closure.
-- `Desk` does not cite it.
use Rattle.std.specs.Prelude.{List, All}
use Rattle.attr_sets.specs.Attributes.{Attributes, IsSubset}
use Rattle.dep_model.specs.Dependencies.{Dependency, left_of, right_of}

-- no dependency leads out of a set: the right side lies within where the left side does
abbrev pub IsFunctionallyClosed : List Dependency → Attributes → Type 0
IsFunctionallyClosed ds c = All (λ d. IsSubset (left_of d) c → IsSubset (right_of d) c) ds
