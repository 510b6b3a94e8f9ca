-- The laws `superkeys_grow`, clause by clause.
use Rattle.dep_model.proofs.KeyLemmas.{scheme_superkey, superkey_more, greedy_is_key}
use Rattle.dep_model.proofs.laws.superkeys_grow.Goals as goal

pub returns : goal.returns
returns c = record {
  scheme = λ n ds scheme. scheme_superkey n ds scheme;
  grows = λ n ds scheme j k inside within h. superkey_more n ds scheme j k inside within h;
  greedy = λ n ds scheme k low h. greedy_is_key n ds scheme k low h;
}
