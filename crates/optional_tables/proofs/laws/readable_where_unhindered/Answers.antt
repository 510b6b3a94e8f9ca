-- The law `readable_where_unhindered`, by `readable_from` and what readable tables have.
use Rattle.optional_tables.proofs.ReadableLemmas.{readable_from, unhindered_from, covered_from}
use Rattle.optional_tables.proofs.laws.readable_where_unhindered.Goals as goal

pub returns : goal.returns
returns c = record {
  law = λ nullable tables. (
    (λ readable. (unhindered_from nullable tables readable, covered_from nullable tables readable)),
    (λ both. readable_from nullable tables both.0 both.1),
  );
}
