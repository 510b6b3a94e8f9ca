-- The laws `lines_are_read`, clause by clause.
use Rattle.plan_grammar.proofs.LineLemmas.{read_means, refused_refuses}
use Rattle.plan_grammar.proofs.laws.lines_are_read.Goals as goal

pub returns : goal.returns
returns c = record {
  read = read_means;
  refused = refused_refuses;
}
