-- What is left to prove of `last_stated`: its clause `last`.
use Rattle.derivation_mistakes.proofs.JudgingLemmas.{last_line}
use Rattle.desk_implication.proofs.checking.last_stated.Goals as goal

pub returns : goal.returns
returns c = record { last = last_line c.args.lines.now _ c.requires.some }
