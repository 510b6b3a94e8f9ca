-- The laws `derived_lines_are_implied`, clause by clause.
use Rattle.derivation_grammar.proofs.Certificates.{each_line_is_implied, derived_is_implied, certificate_derives}
use Rattle.derivation_grammar.proofs.DerivedLines.{derives_by_lines}
use Rattle.derivation_grammar.proofs.laws.derived_lines_are_implied.Goals as goal

pub returns : goal.returns
returns c = record {
  by_lines = derives_by_lines;
  each_line = each_line_is_implied;
  derived = derived_is_implied;
  certificate = certificate_derives;
}
