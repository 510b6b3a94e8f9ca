-- What is left to prove of `add_key_within`: its clauses `keys` and `held`, by `keys_more` and
-- `greedy_found`.
use Rattle.std.proofs.Common.{◌≤◌, List, length, sym, ◌∙◌, subst, arith}
use Rattle.std.proofs.lemmas.Bool.{false≢true}
use Rattle.std.proofs.lemmas.List.Quantifiers.{Any-push}
use Rattle.attr_sets.specs.declared.set.AttrSet.{AttrSet}
use Rattle.attr_sets.specs.Attributes.{below, IsSubset}
use Rattle.attr_sets.specs.Sets.{attributes}
use Rattle.dep_model.specs.Dependencies.{functional_part}
use Rattle.dep_model.specs.Keys.{IsKey, IsGreedyKey}
use Rattle.dep_model.specs.Theories.{width_of, universe_of, theory_of}
use Rattle.fd_closure.proofs.SchemaLemmas.{of_functional_part}
use Rattle.key_listing.specs.declared.refusal.TheConstants.{MOST_KEYS}
use Rattle.key_listing.specs.Listing.{HoldsAny, AreSomeKeys}
use Rattle.key_listing.proofs.FoundLemmas.{keys_more, greedy_found}
use Rattle.key_listing.proofs.exchanging.add_key_within.Goals as goal

pub returns-in_ok-push-clause-keys : goal.returns-in_ok-push-clause-keys
returns-in_ok-push-clause-keys c =
    let s = c.args.theory.now in
    let n = width_of s in
    let ds = theory_of s in
    let found = c.args.found.now.items in
    let set = attributes c.args.set in
    let k = c.functional_key.result in
    let within_limit : length found ≤ MOST_KEYS = omega (arith, c.if-len-le-MOST_KEYS.true, c.len.ensures, c.args.found.now.ok.0) in
    let none : HoldsAny found set → ⊥ = λ held.
    false≢true (sym c.if-not-holds_any.true ∙ c.holds_any.ensures.holds.1 (subst (λ (fs : List AttrSet). HoldsAny fs set) (sym c.deref.ensures.value) held)) in
    let set_in : IsSubset set (below n) = c.requires.superkey.within.0 in
    let greedy : IsGreedyKey n (functional_part ds) set (attributes k) =
    of_functional_part s c.deps.result.now c.deps.ensures.deps (λ m es. IsSubset set (below m) → IsGreedyKey m es set (attributes k)) c.functional_key.ensures.greedy set_in in
    let key : IsKey n ds (universe_of s) (attributes k) = greedy_found n ds (universe_of s) set (attributes k) (λ i m. m) c.requires.functional c.requires.superkey greedy in
    subst (λ (fs : List AttrSet). AreSomeKeys n ds (universe_of s) fs) (sym c.in_ok-push.ensures.items)
    (keys_more n ds (universe_of s) set found k c.requires.keys within_limit key greedy.within none (omega arith))

pub returns-in_ok-push-clause-held : goal.returns-in_ok-push-clause-held
returns-in_ok-push-clause-held c within_limit =
    let s = c.args.theory.now in
    let n = width_of s in
    let set = attributes c.args.set in
    let k = c.functional_key.result in
    let greedy : IsGreedyKey n (functional_part (theory_of s)) set (attributes k) =
    of_functional_part s c.deps.result.now c.deps.ensures.deps (λ m es. IsSubset set (below m) → IsGreedyKey m es set (attributes k)) c.functional_key.ensures.greedy c.requires.superkey.within.0 in
    subst (λ (fs : List AttrSet). HoldsAny fs set) (sym c.in_ok-push.ensures.items) (Any-push (λ (j : AttrSet). IsSubset (attributes j) set) c.args.found.now.items k greedy.within)
