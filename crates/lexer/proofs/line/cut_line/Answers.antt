-- What is left to prove of `cut_line`: what it answers, case by case, by `cuts_at` and `last_line`.
use Rattle.lexer.proofs.Cuts.{cuts_at, last_line}
use Rattle.lexer.proofs.line.cut_line.Goals as goal

pub returns-then-end-text : goal.returns-then-end-text
returns-then-end-text c = record { cut = cuts_at _ _ _ _ _ _ c.line_length-end.ensures.length c.if-end-text.true c.split_at.ensures.front c.split_at.ensures.back c.split_at-then-end-text.ensures.back c.without_return.ensures.line }

pub returns-else-end-text : goal.returns-else-end-text
returns-else-end-text c = record { cut = last_line _ _ c.line_length-end.ensures.length c.if-end-text.false }
