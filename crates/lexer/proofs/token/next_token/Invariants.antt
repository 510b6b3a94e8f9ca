-- What the loop of `next_token` keeps: `IsReached`; and by what it ends.
use Rattle.std.proofs.Common.{length}
use Rattle.lexer.proofs.Steps.{IsReached}
use Rattle.lexer.proofs.token.next_token.Given as goal

abbrev pub invariant-pieces : goal.invariant-pieces
invariant-pieces l = IsReached l.mode l.fn.column l.fn.text l.column l.rest

abbrev pub decreases-pieces : goal.decreases-pieces
decreases-pieces l = length l.rest
