-- The law `words_have_one_answer`, by `one_answer`.
use Rattle.desk_laws.proofs.OneWords.{one_answer}
use Rattle.desk_laws.proofs.one_answer.words_have_one_answer.Goals as goal

pub returns : goal.returns
returns c = record { law = one_answer }
