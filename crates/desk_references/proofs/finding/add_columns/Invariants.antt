-- What the loop of `add_columns` keeps: `added`.
use Rattle.std.proofs.Common.{◌≡◌, ◌++◌, map, take}
use Rattle.desk_discovery.specs.Discoveries.{column_text}
use Rattle.schema_printer.specs.Printing.{words_text}
use Rattle.desk_references.proofs.finding.add_columns.Given as goal

-- the columns so far
abbrev pub invariant-loop-column : goal.invariant-loop-column
invariant-loop-column l = record {
  added : l.text.items ≡ l.fn.text.items ++ words_text (map (column_text l.names) (take l.column-index l.columns));
}
