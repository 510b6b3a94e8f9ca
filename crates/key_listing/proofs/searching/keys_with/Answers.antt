-- What is left to prove of `keys_with`: its clause `keys`, by `sorted_keys`.
use Rattle.attr_sets.specs.Sets.{attributes}
use Rattle.dep_model.specs.Theories.{width_of, theory_of}
use Rattle.key_listing.proofs.FoundLemmas.{sorted_keys}
use Rattle.key_listing.proofs.searching.keys_with.Goals as goal

pub returns : goal.returns
returns c =
    let s = c.args.theory.now in
    record {
      keys = sorted_keys (width_of s) (theory_of s) (attributes c.args.scheme) c.add_keys.new.found.items c.sort_unstable.new.self.items c.in_ok-add_keys.ensures.keys
          (λ within_limit k key. c.in_ok-add_keys.ensures.all_keys within_limit k key (c.requires.in_every_key k key.superkey) key.superkey.within.0)
          c.sort_unstable.ensures.permutation c.sort_unstable.ensures.sorted;
    }
