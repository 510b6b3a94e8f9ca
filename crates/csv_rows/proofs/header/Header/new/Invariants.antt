-- What the loop of `Header::new` keeps: `ReadsColumns`.
use Rattle.attr_sets.specs.Sets.{attributes}
use Rattle.csv.specs.Records.{fields_of}
use Rattle.schema_model.specs.Schemas.{names_of}
use Rattle.csv_rows.proofs.HeaderLemmas.{ReadsColumns}
use Rattle.csv_rows.proofs.header.Header.new.Given as goal

-- the fields so far have these columns, and those that are left are read after them
abbrev pub invariant-loop-i : goal.invariant-loop-i
invariant-loop-i l = ReadsColumns (names_of l.schema) (fields_of l.fields) l.i l.columns.items (attributes l.scheme)
