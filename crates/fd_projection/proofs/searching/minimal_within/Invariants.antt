-- What the loop of `minimal_within` keeps: what is kept with a set is its closure, and the left sides
-- before the one that comes were tried; and by what it ends.
use Rattle.std.specs.Prelude.{All}
use Rattle.attr_sets.specs.Sets.{attributes}
use Rattle.dep_model.specs.Deps.{dependencies_of}
use Rattle.dep_model.specs.Theories.{width_of, theory_of}
use Rattle.normal_forms.proofs.SearchLemmas.{subsets_left}
use Rattle.fd_closure.specs.Closures.{IsKnownClosure}
use Rattle.fd_projection.proofs.FoundLemmas.{IsWalked}
use Rattle.fd_projection.proofs.searching.minimal_within.Given as goal

abbrev pub invariant-loop-next : goal.invariant-loop-next
invariant-loop-next l = record {
  known : All (IsKnownClosure (width_of l.theory) (theory_of l.theory)) l.table.items;
  walked : IsWalked (width_of l.theory) (theory_of l.theory) (attributes l.set) (attributes l.whole) l.next (dependencies_of l.found.items);
}

abbrev pub decreases-loop-next : goal.decreases-loop-next
decreases-loop-next l = subsets_left l.next
