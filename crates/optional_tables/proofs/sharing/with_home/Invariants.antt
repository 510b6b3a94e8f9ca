-- What the loop of `with_home` keeps: of these attributes the tables so far are homes.
use Rattle.attr_sets.specs.Sets.{attributes}
use Rattle.optional_tables.specs.Hindrances.{AreHomesBefore}
use Rattle.optional_tables.proofs.sharing.with_home.Given as goal

abbrev pub invariant-loop-k : goal.invariant-loop-k
invariant-loop-k l = AreHomesBefore l.tables l.k (attributes l.before)
