-- What the loop of `find_references` keeps: `lines`.
use Rattle.std.proofs.Common.{◌≡◌, flat_map, map, take}
use Rattle.desk_references.specs.Findings.{reference_text}
use Rattle.file_references.specs.Finds.{reference_of}
use Rattle.headed_rows.specs.Headings.{headed_of}
use Rattle.desk_references.proofs.finding.find_references.Given as goal

-- the lines so far
abbrev pub invariant-loop-reference : goal.invariant-loop-reference
invariant-loop-reference l = record {
  lines : l.text.items ≡ flat_map (reference_text l.names (map headed_of l.files)) (map reference_of (take l.reference-index l.reference-items));
}
