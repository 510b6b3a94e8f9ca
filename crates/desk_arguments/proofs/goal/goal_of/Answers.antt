-- What is left to prove of `goal_of`: its clause `exit`.
use Rattle.std.proofs.Common.{inl}
use Rattle.desk_arguments.proofs.goal.goal_of.Goals as goal

pub returns-then-text-gt-MOST_GOAL_BYTES-clause-exit : goal.returns-then-text-gt-MOST_GOAL_BYTES-clause-exit
returns-then-text-gt-MOST_GOAL_BYTES-clause-exit c = λ response is. inl (rw c.bytes-text.ensures.bytes at c.if-text-gt-MOST_GOAL_BYTES.true, c.with_text.ensures.says _ c.line_of.ensures.line response is)
