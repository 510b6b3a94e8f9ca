-- What the loop of `mistaken_lines` keeps: the lines so far are judged.
use Rattle.derivation_mistakes.proofs.JudgingLemmas.{HasJudged}
use Rattle.derivation_mistakes.proofs.judging.mistaken_lines.Given as goal

abbrev pub invariant-loop-line : goal.invariant-loop-line
invariant-loop-line l = HasJudged l.schema l.lines l.line-index l.before.items l.found.items
