-- What is left to prove of `next_part`: a set is known to determine its closure.
use Rattle.std.proofs.Common.{arith}
use Rattle.attr_sets.proofs.AttributesLemmas.{same_at}
use Rattle.normal_forms.proofs.BeginLemmas.{known_closure}
use Rattle.normal_forms.proofs.beginning.next_part.Goals as goal

pub closed_set-closed-requires : goal.closed_set-closed-requires
closed_set-closed-requires c = record { lhs = λ k m. c.requires.set k (grind (arith, same_at c.difference-fixed.ensures.members k, m)) }

pub returns : goal.returns
returns c = record {
  known = known_closure c.args.functional c.args.theory.now (record { set = c.difference-fixed.result; closed = c.closed_set-closed.result }) c.closed_set-closed.ensures.closure;
}
