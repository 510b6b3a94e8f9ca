-- What is left to prove of `key_within`: its clause `keys`, by `keys_more`.
use Rattle.std.proofs.Common.{List, sym, subst, arith}
use Rattle.attr_sets.specs.declared.set.AttrSet.{AttrSet}
use Rattle.attr_sets.specs.Attributes.{IsSubset, below}
use Rattle.attr_sets.specs.Sets.{attributes}
use Rattle.dep_model.specs.Keys.{IsSuperkey, IsKey}
use Rattle.dep_model.specs.Theories.{width_of, theory_of}
use Rattle.dep_model.proofs.KeyLemmas.{greedy_is_key, key_of_superkey}
use Rattle.key_listing.specs.Listing.{AreSomeKeys, HoldsAny}
use Rattle.key_listing.proofs.FoundLemmas.{keys_more}
use Rattle.key_listing.proofs.searching.key_within.Goals as goal

pub returns-clause-keys : goal.returns-clause-keys
returns-clause-keys c =
    let s = c.args.theory.now in
    let n = width_of s in
    let ds = theory_of s in
    let scheme = attributes c.args.scheme in
    let set = attributes c.args.set in
    let found = c.args.found.now.items in
    let k = c.one_key-key.result in
    let superkey : IsSuperkey n ds scheme set = c.is_superkey.ensures.superkey.0 (grind (arith, c.if-not-is_superkey.false)) in
    let low : IsSubset set (below n) = λ i m. c.requires.scheme i (c.requires.set i m) in
    let key : IsKey n ds scheme (attributes k) = key_of_superkey n ds scheme set (attributes k) superkey (greedy_is_key n ds set (attributes k) low c.one_key-key.ensures.greedy) in
    let none : HoldsAny found set → ⊥ = subst (λ (fs : List AttrSet). HoldsAny fs set → ⊥) c.deref.ensures.value (c.in_default.ensures.none (grind (arith, c.in_default.is))) in
    subst (λ (fs : List AttrSet). AreSomeKeys n ds scheme fs) (sym c.in_ok-push.ensures.items)
    (keys_more n ds scheme set found k c.requires.keys c.requires.within_limit key c.one_key-key.ensures.greedy.within none (omega arith))
