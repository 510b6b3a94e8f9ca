-- The laws `derivations_are_read_or_refused`, clause by clause.
use Rattle.derivation_grammar.proofs.TextLaws.{reading_law, refusal_law, read_or_refused, one_outcome}
use Rattle.derivation_grammar.proofs.laws.derivations_are_read_or_refused.Goals as goal

pub returns : goal.returns
returns c = record {
  reading = reading_law;
  refusal = refusal_law;
  some_outcome = read_or_refused;
  one_outcome = one_outcome;
}
