-- What is left to prove of `searched_keys`: its clause `keys` and what `keys_with` requires, by
-- `in_every_key_in_superkey` and `found_of_rest`.
use Rattle.std.proofs.lemmas.Result.{IfOk-weaker}
use Rattle.attr_sets.specs.Sets.{attributes}
use Rattle.dep_model.specs.Theories.{width_of, theory_of, deps_of}
use Rattle.key_listing.specs.Listing.{AreFoundKeys}
use Rattle.key_listing.proofs.NarrowingLemmas.{in_every_key_in_superkey, found_of_rest}
use Rattle.key_listing.proofs.searching.searched_keys.Goals as goal

pub keys_with-requires-clause-in_every_key : goal.keys_with-requires-clause-in_every_key
keys_with-requires-clause-in_every_key c x superkey a member =
    let s = c.args.theory.now in
    in_every_key_in_superkey (width_of s) (theory_of s) (attributes c.without_attributes_in_no_key-rest.result) x a ((c.attributes_in_every_key.ensures.in_every_key a).0 member) superkey

pub returns : goal.returns
returns c =
    let s = c.args.theory.now in
    let n = width_of s in
    let ds = theory_of s in
    let scheme = attributes c.args.scheme in
    let rest = attributes c.without_attributes_in_no_key-rest.result in
    record {
      keys = IfOk-weaker c.keys_with.result (λ found. AreFoundKeys n ds rest found.items) (λ found. AreFoundKeys n ds scheme found.items)
          (λ found. found_of_rest n (deps_of s) s.valid.within_limit s.valid.deps_within scheme c.requires.scheme rest c.without_attributes_in_no_key-rest.ensures.rest found.items) c.keys_with.ensures.keys;
    }
