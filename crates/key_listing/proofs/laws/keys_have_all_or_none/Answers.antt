-- The laws `keys_have_all_or_none`, clause by clause.
use Rattle.key_listing.proofs.NarrowingLemmas.{in_every_key_in_superkey, in_no_key_in_no_key, rest_superkey, key_of_rest}
use Rattle.dep_model.specs.Deps.{dependencies_of}
use Rattle.dep_model.proofs.KeyLemmas.{key_of_superkey}
use Rattle.key_listing.proofs.laws.keys_have_all_or_none.Goals as goal

pub returns : goal.returns
returns c = record {
  in_every = λ n ds scheme k a in_every_key key. in_every_key_in_superkey n ds scheme k a in_every_key key.superkey;
  in_none = λ n ds scheme k a within_limit within low in_no_key key. in_no_key_in_no_key n ds within_limit within scheme low a k in_no_key key;
  superkey = λ n ds scheme rest within_limit within low is. rest_superkey n ds within_limit within scheme low rest is;
  same_keys = λ n ds scheme rest k within_limit within low is. (
    (λ key. key_of_rest n ds within_limit within scheme low rest is k key),
    (λ key. key_of_superkey n (dependencies_of ds) scheme rest k (rest_superkey n ds within_limit within scheme low rest is) key),
  );
}
