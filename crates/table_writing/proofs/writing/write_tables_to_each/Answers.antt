-- What is left to prove of `write_tables_to_each`: its clause `written` and that a round of its
-- loop keeps the invariant, by `holds_next` and `holds_all`.
use Rattle.std.proofs.Common.{rules, arith}
use Rattle.named_tables.specs.Tables.{table_values}
use Rattle.table_writing.specs.Writing.{WrittenDestination}
use Rattle.table_writing.proofs.PositionLemmas.{holds_next, holds_all}
use Rattle.table_writing.proofs.writing.write_tables_to_each.Goals as goal

pub loop-destination-preserved : goal.loop-destination-preserved
loop-destination-preserved g c = record {
  written = holds_next (WrittenDestination g.G.Folder.state (table_values c.args.tables.now)) _ _ _ _ _ c.destination-item.result
      c.write_tables_to_one-end.new.destination c.write_tables_to_one-end.result c.push_reserved.ensures.items
      (omega (arith, c.loop-destination-test.true, c.loop-destination.invariant.written.count)) c.loop-destination.invariant.written c.write_tables_to_one-end.ensures.written;
  room = search rules;
}

pub returns-clause-written : goal.returns-clause-written
returns-clause-written g c =
    holds_all (WrittenDestination g.G.Folder.state (table_values c.args.tables.now)) _ _ _ _ (omega arith) c.loop-destination.invariant.written
