-- What the loop of `number_of` keeps: `SoFar`.
use Rattle.lexer.proofs.Digits.{SoFar}
use Rattle.lexer.proofs.bytes.number_of.Given as goal

abbrev pub invariant-loop-digit : goal.invariant-loop-digit
invariant-loop-digit l = SoFar l.run l.digit-index l.value
