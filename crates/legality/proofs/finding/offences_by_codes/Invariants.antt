-- What the loop of `offences_by_codes` keeps: `offences`.
use Rattle.std.proofs.Common.{take}
use Rattle.dep_model.specs.Theories.{theory_of, width_of}
use Rattle.dep_model.specs.Tuples.{Relation}
use Rattle.row_groups.specs.Interning.{IsInterned}
use Rattle.legality.specs.Offences.{OffencesOf}
use Rattle.legality.proofs.finding.offences_by_codes.Given as goal

-- the offences of the dependencies so far
abbrev pub invariant-loop-k : goal.invariant-loop-k
invariant-loop-k l = record {
  offences : (rows : Relation) → IsInterned (width_of l.theory) rows l.codes
      → OffencesOf (width_of l.theory) (take l.k (theory_of l.theory)) rows l.offences.items;
}
