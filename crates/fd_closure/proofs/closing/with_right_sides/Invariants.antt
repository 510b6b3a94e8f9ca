-- What the loop of `with_right_sides` keeps: `grows`, `within`, `implied` and `closed_so_far`.
use Rattle.std.proofs.Common.{ℕ, take}
use Rattle.std.specs.Prelude.{All}
use Rattle.attr_sets.specs.Attributes.{Attributes, IsSubset}
use Rattle.attr_sets.specs.Sets.{attributes}
use Rattle.dep_model.specs.Dependencies.{fd, functional_part}
use Rattle.dep_model.specs.Deps.{IfFd, dependencies_of, IsDepWithin}
use Rattle.dep_model.specs.Implication.{Implies}
use Rattle.fd_closure.proofs.closing.with_right_sides.Given as goal

abbrev pub invariant-loop-dep : goal.invariant-loop-dep
invariant-loop-dep l = record {
  grows : IsSubset (attributes l.initial.more) (attributes l.more);
  within : (universe : Attributes) → All (IsDepWithin universe) l.deps → IsSubset (attributes l.initial.more) universe → IsSubset (attributes l.more) universe;
  implied : (n : ℕ) → Implies n (functional_part (dependencies_of l.deps)) (fd (attributes l.initial.more) (attributes l.more));
  closed_so_far : All (IfFd (λ x y. IsSubset x (attributes l.initial.more) → IsSubset y (attributes l.more))) (take l.dep-index l.deps);
}
