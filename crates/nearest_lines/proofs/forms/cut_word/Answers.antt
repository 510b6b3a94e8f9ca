-- What is left to prove of `cut_word`: its clause `cut`, by `WordLemmas`.
use Rattle.std.proofs.Common.{arith}
use Rattle.nearest_lines.proofs.WordLemmas.{one_word, word_cut}
use Rattle.nearest_lines.proofs.forms.cut_word.Goals as goal

pub returns-then-end-text-clause-cut : goal.returns-then-end-text-clause-cut
returns-then-end-text-clause-cut c =
    word_cut _ _ _ _ _ c.word_length-end.ensures.length c.if-end-text.true c.split_at.ensures.front c.split_at.ensures.back
    c.split_at-then-end-text.ensures.back

pub returns-else-end-text-clause-cut : goal.returns-else-end-text-clause-cut
returns-else-end-text-clause-cut c = one_word _ (omega (arith, c.word_length-end.ensures.length, c.if-end-text.false))
