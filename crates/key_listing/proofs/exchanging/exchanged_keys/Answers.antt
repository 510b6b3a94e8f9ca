-- What is left to prove of `exchanged_keys`: its clause `keys`, what `add_exchanged` requires, that
-- the invariant of its loop holds at first and stays, and that its loop ends, by `FoundLemmas` and
-- `ListLemmas`.
use Rattle.std.proofs.Common.{◌≡◌, ◌+◌, ◌<◌, ◌≤◌, List, [], ◌∷◌, ◌++◌, length, refl, sym, ◌∙◌, ap, subst, arith}
use Rattle.std.specs.Prelude.{All}
use Rattle.attr_sets.specs.declared.set.AttrSet.{AttrSet}
use Rattle.attr_sets.specs.Attributes.{Attributes, below, IsSubset}
use Rattle.attr_sets.specs.Sets.{attributes}
use Rattle.dep_model.specs.Dependencies.{functional_part, IsWithin}
use Rattle.dep_model.specs.Keys.{IsSuperkey, IsKey, IsGreedyKey}
use Rattle.dep_model.specs.Theories.{width_of, universe_of, theory_of, deps_of}
use Rattle.dep_model.proofs.DepLemmas.{dependencies_all-from}
use Rattle.dep_model.proofs.KeyLemmas.{scheme_superkey}
use Rattle.fd_closure.proofs.SchemaLemmas.{of_functional_part}
use Rattle.key_listing.specs.Listing.{AreSomeKeys, HoldsAny}
use Rattle.key_listing.proofs.ListLemmas.{grows_longer}
use Rattle.key_listing.proofs.FoundLemmas.{keys_none, keys_more, greedy_found, tried_more, sorted_found}
use Rattle.key_listing.proofs.exchanging.exchanged_keys.Goals as goal

pub loop-tried-init : goal.loop-tried-init
loop-tried-init c =
    let s = c.args.theory.now in
    let n = width_of s in
    let ds = theory_of s in
    let set = attributes c.full.result in
    let k = c.functional_key.result in
    let is : set ≡ universe_of s = c.full.ensures.members ∙ ap below c.width.ensures.count in
    let superkey : IsSuperkey n ds (universe_of s) set = subst (λ (v : Attributes). IsSuperkey n ds (universe_of s) v) (sym is) (scheme_superkey n ds (universe_of s)) in
    let greedy : IsGreedyKey n (functional_part ds) set (attributes k) =
    of_functional_part s c.deps.result.now c.deps.ensures.deps (λ m es. IsSubset set (below m) → IsGreedyKey m es set (attributes k)) c.functional_key.ensures.greedy superkey.within.0 in
    let key : IsKey n ds (universe_of s) (attributes k) = greedy_found n ds (universe_of s) set (attributes k) (λ i m. m) c.requires.functional superkey greedy in
    let not_empty : AreSomeKeys n ds (universe_of s) (k ∷ []) =
    keys_more n ds (universe_of s) set [] k (keys_none n ds (universe_of s)) (omega arith) key greedy.within (λ (held : HoldsAny [] set). absurd (omega (arith, held.2))) (omega arith) in
    let items : c.push.new.self.items ≡ k ∷ [] = c.in_ok-push.ensures.items ∙ ap (λ (fs : List AttrSet). fs ++ k ∷ []) c.new-found.ensures.items in
    record {
      listed = subst (λ (fs : List AttrSet). AreSomeKeys n ds (universe_of s) fs) (sym items) not_empty;
      one = omega (arith, ap (λ (fs : List AttrSet). length fs) items);
      tried_in = omega arith;
      tried = λ i d l. absurd (omega (arith, l));
    }

pub add_exchanged-requires-clause-key : goal.add_exchanged-requires-clause-key
add_exchanged-requires-clause-key c =
    let s = c.args.theory.now in
    let lt : c.loop-tried.tried < length c.loop-tried.found.items = omega (arith, c.loop-tried-test.true, c.len.ensures, c.loop-tried.found.ok.0) in
    subst (λ (k : AttrSet). IsKey (width_of s) (theory_of s) (universe_of s) (attributes k)) (sym c.index-key.ensures) (c.loop-tried.invariant.listed.each c.loop-tried.tried _ lt)

pub loop-tried-preserved : goal.loop-tried-preserved
loop-tried-preserved c =
    let s = c.args.theory.now in
    let before = c.loop-tried.invariant in
    let old = c.loop-tried.found.items in
    let found = c.add_exchanged.new.found.items in
    let lt : c.loop-tried.tried < length old = omega (arith, c.loop-tried-test.true, c.len.ensures, c.loop-tried.found.ok.0) in
    let longer : length old ≤ length found = grows_longer old found c.in_ok-add_exchanged.ensures.kept in
    record {
      listed = c.in_ok-add_exchanged.ensures.keys;
      one = omega (arith, before.one, longer);
      tried_in = omega (arith, lt, longer);
      tried = tried_more (theory_of s) old found c.loop-tried.tried (c.loop-tried.tried + 1) c.index-key.result.now refl lt c.index-key.ensures c.in_ok-add_exchanged.ensures.kept before.tried c.in_ok-add_exchanged.ensures.exchanged;
    }

pub loop-tried-smaller : goal.loop-tried-smaller
loop-tried-smaller c = omega (arith, c.loop-tried-test.true, c.len.ensures, c.loop-tried.found.ok.0, c.loop-tried.invariant.listed.within_limit)

pub returns : goal.returns
returns c =
    let s = c.args.theory.now in
    let n = width_of s in
    let ds = theory_of s in
    let within : All (IsWithin (below n)) ds = dependencies_all-from (IsWithin (below n)) (deps_of s) s.valid.deps_within in
    let found = c.loop-tried.found.items in
    record {
      keys = sorted_found n ds found c.sort_unstable.new.self.items within c.requires.functional c.loop-tried.invariant.one c.loop-tried.invariant.listed
          (λ within_limit i d l. c.loop-tried.invariant.tried i d (omega (arith, l, c.loop-tried-test.false, c.len.ensures, c.loop-tried.found.ok.0)) within_limit)
          c.sort_unstable.ensures.permutation c.sort_unstable.ensures.sorted;
    }
