-- What the loop of `open_headed_files` keeps: `opened`, `header`, `same_width` and `one_each`.
use Rattle.std.proofs.Common.{◌≡◌, length, map}
use Rattle.std.specs.Prelude.{All}
use Rattle.dep_model.specs.Tuples.{IsOver}
use Rattle.headed_rows.specs.Headers.{IsColumnHeader}
use Rattle.headed_rows.specs.Headings.{headed_of}
use Rattle.headed_rows.specs.declared.headed_rows.Headed.{Headed}
use Rattle.desk_inputs.specs.Headed.{headed_file}
use Rattle.desk_inputs.proofs.FilesLemmas.{OpenedSome}
use Rattle.desk_inputs.proofs.headed_files.open_headed_files.Given as goal

-- the files so far were read
abbrev pub invariant-loop-file : goal.invariant-loop-file
invariant-loop-file g l = record {
  opened : OpenedSome g.F.FileSource headed_file l.files l.fn.source l.source l.file-index (map headed_of l.read.items);
  header : All (λ (h : Headed). IsColumnHeader h.names.items) l.read.items;
  same_width : All (λ (h : Headed). IsOver (length h.names.items) h.rows) l.read.items;
  one_each : length l.read.items ≡ l.file-index;
}
