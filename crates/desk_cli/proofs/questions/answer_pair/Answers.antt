-- What is left to prove of `answer_pair`: its clause, whatever is asked of two schemas.
use Rattle.std.proofs.Common.{subst, sym}
use Rattle.desk_words.specs.declared.questions.PairQuestion.{PairQuestion}
use Rattle.desk_words.specs.Commands.{pair_question}
use Rattle.desk_responses.specs.Responses.{RespondsAs}
use Rattle.desk_cli.specs.Performs.{AnswersPair}
use Rattle.desk_cli.proofs.questions.answer_pair.Goals as goal

pub returns-in-CheckSame : goal.returns-in-CheckSame
unfolding AnswersPair
returns-in-CheckSame c = record {
  response = subst (λ (question : PairQuestion). RespondsAs (AnswersPair c.args.schema.now c.args.other.now c.args.file.now c.args.other_file.now (pair_question question)) c.check_same.result) (sym c.in-CheckSame.is)
      c.check_same.ensures.response;
}

pub returns-in-CheckCover : goal.returns-in-CheckCover
unfolding AnswersPair
returns-in-CheckCover c = record {
  response = subst (λ (question : PairQuestion). RespondsAs (AnswersPair c.args.schema.now c.args.other.now c.args.file.now c.args.other_file.now (pair_question question)) c.check_cover.result) (sym c.in-CheckCover.is)
      c.check_cover.ensures.response;
}

pub returns-in-CheckCoverCanonical : goal.returns-in-CheckCoverCanonical
unfolding AnswersPair
returns-in-CheckCoverCanonical c = record {
  response = subst (λ (question : PairQuestion). RespondsAs (AnswersPair c.args.schema.now c.args.other.now c.args.file.now c.args.other_file.now (pair_question question)) c.check_canonical_cover.result) (sym c.in-CheckCoverCanonical.is)
      c.check_canonical_cover.ensures.response;
}
