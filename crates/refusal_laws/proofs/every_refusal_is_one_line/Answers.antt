-- The law `every_refusal_is_one_line`, by `words_refuse`.
use Rattle.refusal_laws.proofs.WordRefusals.{words_refuse}
use Rattle.refusal_laws.proofs.every_refusal_is_one_line.Goals as goal

pub returns : goal.returns
returns c = record { law = words_refuse }
