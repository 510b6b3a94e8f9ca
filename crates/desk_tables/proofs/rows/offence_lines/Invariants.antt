-- What the loop of `offence_lines` keeps, in terms of `offences_text`.
use Rattle.std.proofs.Common.{◌≡◌, take}
use Rattle.desk_tables.specs.Legality.{offences_text}
use Rattle.desk_tables.proofs.rows.offence_lines.Given as goal

abbrev pub invariant-loop-offence : goal.invariant-loop-offence
invariant-loop-offence l = l.text.items ≡ offences_text l.schema (take l.offence-index l.offences)
