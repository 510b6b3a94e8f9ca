-- What the loop of `untidy_lines` keeps, in terms of `untidy_texts`.
use Rattle.std.proofs.Common.{◌≡◌, take}
use Rattle.desk_tables.specs.Tidiness.{untidy_texts}
use Rattle.desk_tables.proofs.tidiness.untidy_lines.Given as goal

abbrev pub invariant-loop-each : goal.invariant-loop-each
invariant-loop-each l = l.text.items ≡ untidy_texts l.schema (take l.each-index l.found)
