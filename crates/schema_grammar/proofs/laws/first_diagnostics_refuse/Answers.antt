-- The laws `first_diagnostics_refuse`, clause by clause.
use Rattle.schema_grammar.proofs.LinesLaws.{line-law, lines-law}
use Rattle.schema_grammar.proofs.TextLaws.{text-law}
use Rattle.schema_grammar.proofs.RiseLemmas.{positions-law}
use Rattle.schema_grammar.proofs.laws.first_diagnostics_refuse.Goals as goal

pub returns : goal.returns
returns c = record {
  line = line-law;
  lines = lines-law;
  schema = text-law;
  positions = positions-law;
}
