-- What is left to prove of `optional_positions`: that a round of its loop keeps the invariant.
use Rattle.std.proofs.Common.{arith}
use Rattle.attr_sets.specs.Sets.{attributes}
use Rattle.optional_tables.specs.Homes.{is_optional}
use Rattle.optional_tables.proofs.HomeLemmas.{no_table}
use Rattle.optional_tables.proofs.PositionLemmas.{positions_next}
use Rattle.optional_tables.proofs.ordering.optional_positions.Goals as goal

pub loop-k-preserved : goal.loop-k-preserved
loop-k-preserved c =
    positions_next (is_optional (attributes c.args.nullable)) c.args.tables.now c.loop-k.k no_table
    c.is_optional.result c.loop-k.found.items c.push_if.new.found.items
    (omega (arith, c.loop-k-test.true)) c.is_optional.ensures.optional c.loop-k.invariant
    c.in_ok-push_if.ensures.added
