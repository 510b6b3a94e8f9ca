-- The laws `lines_are_read_or_refused`, clause by clause.
use Rattle.proof_grammar.proofs.LineLaws.{line_there, line_back}
use Rattle.proof_grammar.proofs.LineRefusals.{refusal_law}
use Rattle.proof_grammar.proofs.laws.lines_are_read_or_refused.Goals as goal

pub returns : goal.returns
returns c = record {
  meaning = λ naming names number text l.
      (line_there naming names number text l, line_back naming names number text l);
  refusal = refusal_law;
}
