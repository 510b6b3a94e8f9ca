-- The law `names_are_apart`, by `PlanLaws` and `lines_beside`.
use Rattle.std.proofs.Common.{[]}
use Rattle.lexer.specs.Lines.{line_texts, without_mark}
use Rattle.plan_grammar.proofs.LineLemmas.{lines_beside}
use Rattle.plan_grammar.proofs.PlanLaws.{plan_names_apart}
use Rattle.plan_grammar.proofs.laws.names_are_apart.Goals as goal

pub returns : goal.returns
returns c = record {
  differ = plan_names_apart;
  beside = λ naming names text plan means. lines_beside naming names [] (line_texts (without_mark text)) plan means.lines;
}
