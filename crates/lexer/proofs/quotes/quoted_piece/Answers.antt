use Rattle.std.proofs.Common.{arith, sym, ◌∙◌}
use Rattle.lexer.proofs.Quoting.{closing_below}
use Rattle.lexer.proofs.quotes.quoted_piece.Goals as goal

pub split_at-requires-in-Some : goal.split_at-requires-in-Some
split_at-requires-in-Some c = let below = closing_below _ _ (sym c.closing_quote.ensures.end ∙ c.in-Some.is) in omega (arith, below)
