-- What is left to prove of `plan_texts_have_one_answer`: its clauses `one_meaning`, `one_refusal`
-- and `never_both`, by `ExactLaws`.
use Rattle.plan_grammar.proofs.ExactLaws.{plan_one_meaning, plan_one_refusal, plan_never_both}
use Rattle.plan_grammar.proofs.laws.plan_texts_have_one_answer.Goals as goal

pub returns : goal.returns
returns c = record { one_meaning = plan_one_meaning; one_refusal = plan_one_refusal; never_both = plan_never_both }
