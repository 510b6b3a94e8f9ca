-- What the loop of `first_shared` keeps: no table so far shares an attribute with an earlier one, and of these they are
-- homes.
use Rattle.attr_sets.specs.Sets.{attributes}
use Rattle.optional_tables.specs.Hindrances.{AreHomesBefore}
use Rattle.optional_tables.proofs.SharedLemmas.{NoneBefore}
use Rattle.optional_tables.proofs.sharing.first_shared.Given as goal

abbrev pub invariant-loop-k : goal.invariant-loop-k
invariant-loop-k l = record {
  none : NoneBefore (attributes l.nullable) l.tables l.k;
  before : AreHomesBefore l.tables l.k (attributes l.before);
}
