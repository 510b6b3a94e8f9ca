-- What the loop of `data_end` keeps: the end is that of what is left; and by what it ends.
use Rattle.std.proofs.Common.{◌≡◌, ◌+◌, length}
use Rattle.sql_lexemes.specs.declared.data.Line.TheVariants.{Another}
use Rattle.sql_lexemes.specs.Statements.{data_end}
use Rattle.sql_lexemes.proofs.data.data_end.Given as goal

abbrev pub invariant-loop-rest : goal.invariant-loop-rest
invariant-loop-rest l = (data_end Another 0 l.text ≡ data_end l.line l.passed l.rest) × (l.passed + length l.rest ≡ length l.text)

abbrev pub decreases-loop-rest : goal.decreases-loop-rest
decreases-loop-rest l = length l.rest
