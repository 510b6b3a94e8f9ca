-- What the loop of `diagnostic_lines` keeps, in terms of `diagnostics_text`.
use Rattle.std.proofs.Common.{◌≡◌, take}
use Rattle.desk_covers.specs.CoverChecks.{diagnostics_text}
use Rattle.desk_covers.proofs.cover_checks.diagnostic_lines.Given as goal

abbrev pub invariant-loop-diagnostic : goal.invariant-loop-diagnostic
invariant-loop-diagnostic l = l.text.items ≡ diagnostics_text l.schema (take l.diagnostic-index l.found)
