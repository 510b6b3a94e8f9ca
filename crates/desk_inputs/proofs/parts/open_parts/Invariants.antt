-- What the loop of `open_parts` keeps: `opened`, `tables` and `one_each`.
use Rattle.std.proofs.Common.{◌≡◌, length}
use Rattle.std.specs.Prelude.{All}
use Rattle.schema_model.specs.Schemas.{width_of}
use Rattle.table_join.specs.Tables.{IsTable, tables_of}
use Rattle.desk_inputs.specs.Parts.{part_file}
use Rattle.desk_inputs.proofs.FilesLemmas.{OpenedSome}
use Rattle.desk_inputs.proofs.parts.open_parts.Given as goal

-- the files so far were read
abbrev pub invariant-loop-file : goal.invariant-loop-file
invariant-loop-file g l = record {
  opened : OpenedSome g.F.FileSource (part_file l.schema) l.files l.fn.source l.source l.file-index l.parts.items;
  tables : All (IsTable (width_of l.schema)) (tables_of l.parts.items);
  one_each : length l.parts.items ≡ l.file-index;
}
