-- The laws `one_primary_key`, clause by clause.
use Rattle.primary_keys.proofs.PrimaryLemmas.{primary_is_key, one_primary, primary_missing, primary_greedy}
use Rattle.primary_keys.proofs.laws.one_primary_key.Goals as goal

pub returns : goal.returns
returns c = record {
  key = primary_is_key;
  unique = one_primary;
  missing = primary_missing;
  greedy = λ n ds nullable scheme k low never primary. primary_greedy n ds nullable scheme k low primary never;
}
