-- What the loop of `all_references` keeps: `adds`.
use Rattle.std.proofs.Common.{[], map}
use Rattle.file_references.specs.Finds.{Adds, IsToFirst, reference_of}
use Rattle.headed_rows.specs.Headings.{headed_of}
use Rattle.file_references.proofs.finding.all_references.Given as goal

-- the references to the files so far
abbrev pub invariant-loop-target : goal.invariant-loop-target
invariant-loop-target l = record {
  adds : Adds (map headed_of l.files) (IsToFirst l.target) [] (map reference_of l.found.items);
}
