-- What the loop of `closures` keeps: what is kept with a set is its closure; and by what it ends.
use Rattle.std.specs.Prelude.{All, IfSome}
use Rattle.attr_sets.specs.Attributes.{IsSubset}
use Rattle.attr_sets.specs.Sets.{attributes}
use Rattle.dep_model.specs.Theories.{width_of, theory_of}
use Rattle.fd_closure.specs.Closures.{IsKnownClosure}
use Rattle.armstrong_rel.proofs.FoundLemmas.{parts_left}
use Rattle.armstrong_rel.proofs.closures.closures.Given as goal

abbrev pub invariant-loop-next : goal.invariant-loop-next
invariant-loop-next l = record {
  within : IfSome l.next (λ set. IsSubset (attributes set) (attributes l.whole));
  known : All (IsKnownClosure (width_of l.theory) (theory_of l.theory)) l.table.items;
}

abbrev pub decreases-loop-next : goal.decreases-loop-next
decreases-loop-next l = parts_left l.next
