-- The laws `keys_of_superkeys_are_keys`, clause by clause.
use Rattle.dep_model.proofs.KeyLemmas.{key_of_superkey, prime-to, prime-from}
use Rattle.dep_model.proofs.laws_of_keys.keys_of_superkeys_are_keys.Goals as goal

pub returns : goal.returns
returns c = record {
  key = key_of_superkey;
  prime = λ n ds scheme a. (prime-to n ds scheme a, λ h. prime-from n ds scheme h.0 h.1 a h.2 h.3 h.4 h.5);
}
