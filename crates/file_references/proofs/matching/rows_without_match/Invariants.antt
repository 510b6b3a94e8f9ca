-- What the loop of `rows_without_match` keeps: `found`.
use Rattle.std.proofs.Common.{◌≡◌}
use Rattle.file_references.specs.Matches.{unmatched_below}
use Rattle.file_references.proofs.matching.rows_without_match.Given as goal

-- the rows so far
abbrev pub invariant-loop-row : goal.invariant-loop-row
invariant-loop-row l = record { found : l.found.items ≡ unmatched_below l.rows l.columns l.others l.key l.row }
