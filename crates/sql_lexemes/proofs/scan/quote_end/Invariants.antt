-- What the loop of `quote_end` keeps: the end is that of what is left; and by what it ends.
use Rattle.std.proofs.Common.{◌≡◌, ◌+◌, length}
use Rattle.sql_lexemes.specs.declared.scan.Within.TheVariants.{Inside}
use Rattle.sql_lexemes.specs.Ends.{quote_end}
use Rattle.sql_lexemes.proofs.scan.quote_end.Given as goal

abbrev pub invariant-loop-rest : goal.invariant-loop-rest
invariant-loop-rest l = (quote_end l.quote l.escapes Inside 0 l.text ≡ quote_end l.quote l.escapes l.state l.passed l.rest) × (l.passed + length l.rest ≡ length l.text)

abbrev pub decreases-loop-rest : goal.decreases-loop-rest
decreases-loop-rest l = length l.rest
