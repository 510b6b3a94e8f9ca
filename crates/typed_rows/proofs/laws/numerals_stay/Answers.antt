-- The laws `numerals_stay`, clause by clause.
use Rattle.typed_rows.proofs.RelationLemmas.{shown_relation}
use Rattle.typed_rows.proofs.NumeralLemmas.{two_tuples_hold}
use Rattle.typed_rows.proofs.laws.numerals_stay.Goals as goal

pub returns : goal.returns
returns c = record {
  stay = λ columns r shows over numerals. shown_relation columns r shows (record { over = over; numerals = numerals });
  two_tuples = λ n x. two_tuples_hold n x;
}
