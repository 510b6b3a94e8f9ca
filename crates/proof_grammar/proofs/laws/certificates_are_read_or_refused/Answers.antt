-- The laws `certificates_are_read_or_refused`, clause by clause.
use Rattle.proof_grammar.proofs.CertificateLaws.{spelled_there, spelled_back}
use Rattle.proof_grammar.proofs.CountLaws.{lines_count}
use Rattle.proof_grammar.proofs.OneTree.{one_tree}
use Rattle.proof_grammar.proofs.TextRefusals.{refused_there, refused_back}
use Rattle.proof_grammar.proofs.laws.certificates_are_read_or_refused.Goals as goal

pub returns : goal.returns
returns c = record {
  spelled = λ s text t. (spelled_there s text t, spelled_back s text t);
  one_tree = one_tree;
  as_many_lines = λ s text t w. lines_count s w.lines t w.nodes;
  refusal = λ s text e. (refused_there s text e, refused_back s text e);
}
