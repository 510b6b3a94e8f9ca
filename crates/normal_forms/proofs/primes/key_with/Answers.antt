-- What is left to prove of `key_with`: its clause `none`, what it answers in one case, what
-- `becomes_superkey_by` and `next_subset` require, that the invariant of its loop holds at first
-- and stays, and that its loop ends, by `PrimeLemmas` and `SearchLemmas`.
use Rattle.std.proofs.Common.{◌≡◌, true, sym, subst, ◌∙◌, inl, inr, arith}
use mathlib.Core.Path.{fun_ext}
use Rattle.std.proofs.lemmas.Bool.{true≢false, false≢true, or_cases}
use Rattle.std.proofs.lemmas.Bool.Decides.{nat_tests}
use Rattle.std.specs.Prelude.{Option, Some}
use Rattle.attr_sets.specs.declared.set.AttrSet.{AttrSet}
use Rattle.attr_sets.specs.Attributes.{Attributes, below, only, union, difference, IsSubset}
use Rattle.attr_sets.specs.Sets.{attributes}
use Rattle.dep_model.specs.Dependencies.{functional_part}
use Rattle.dep_model.specs.Keys.{IsGreedyKey}
use Rattle.dep_model.specs.Theories.{width_of, theory_of}
use Rattle.fd_closure.proofs.SchemaLemmas.{of_functional_part}
use Rattle.normal_forms.specs.Primes.{BecomesSuperkeyBy}
use Rattle.attr_sets.proofs.AttributesLemmas.{same_at}
use Rattle.normal_forms.proofs.SearchLemmas.{IsSearched, search_start, search_past, search_on, search_end, passed_less}
use Rattle.normal_forms.proofs.PrimeLemmas.{without_in, beside_in, completed_key, completed_member, not_prime}
use Rattle.normal_forms.proofs.primes.key_with.Goals as goal
use Rattle.normal_forms.proofs.primes.key_with.Goals.{In-Some}

-- a set becomes a superkey by the attribute
abbrev Becomes : (c : In-Some) → Attributes → Type 0
Becomes c y = BecomesSuperkeyBy (width_of c.args.theory.now) (functional_part (theory_of c.args.theory.now)) (attributes c.args.scheme) y c.args.attribute

-- a set does with the rest
abbrev BecomesWithRest : (c : In-Some) → Attributes → Type 0
BecomesWithRest c y = Becomes c (union y (attributes c.without-rest.result))

-- the subsets before the one that is tried
searched : (c : In-Some) → IsSearched (BecomesWithRest c) (attributes c.without-others.result) (Some c.in-Some.set)
searched c = subst (λ (o : Option AttrSet). IsSearched (BecomesWithRest c) (attributes c.without-others.result) o) c.in-Some.is c.loop-next.invariant.searched

-- the rest is the scheme without the whole and the attribute
rest_is : (c : In-Some) → attributes c.without-rest.result ≡ difference (difference (attributes c.args.scheme) (attributes c.args.whole)) (only c.args.attribute)
rest_is c = fun_ext (λ j. grind (arith, same_at c.without-rest.ensures.members j, same_at c.difference.ensures.members j))

-- what is tried with the rest lies within the scheme
tried_in : (c : In-Some) → IsSubset (union (attributes c.in-Some.set) (attributes c.without-rest.result)) (attributes c.args.scheme)
tried_in c =
    let s = c.args.theory.now in
    beside_in (width_of s) (functional_part (theory_of s)) (attributes c.args.scheme) (attributes c.args.whole) (attributes c.without-others.result) (attributes c.without-rest.result) c.args.attribute
    c.requires.scheme c.requires.added c.without-others.ensures.members (rest_is c) (attributes c.in-Some.set) c.requires.within_scheme (searched c).within

pub loop-next-init : goal.loop-next-init
loop-next-init c =
    let s = c.args.theory.now in
    let P = λ (y : Attributes). BecomesSuperkeyBy (width_of s) (functional_part (theory_of s)) (attributes c.args.scheme) (union y (attributes c.without-rest.result)) c.args.attribute in
    record {
      part = c.no_part-part.ensures.known true s;
      searched = search_start P (attributes c.without-others.result) c.empty.result c.empty.ensures.members;
    }

pub next_part-part-requires-clause-set : goal.next_part-part-requires-clause-set
next_part-part-requires-clause-set c k m =
    c.requires.scheme k (tried_in (goal.at.next_part-part-requires-clause-set c).In-Some k (sym (same_at c.union-before.ensures.members k) ∙ m))

pub becomes_superkey_by-requires-clause-set : goal.becomes_superkey_by-requires-clause-set
becomes_superkey_by-requires-clause-set c k m = tried_in (goal.at.becomes_superkey_by-requires-clause-set c).In-Some k (sym (same_at c.union-before.ensures.members k) ∙ m)

pub returns-then-becomes_superkey_by : goal.returns-then-becomes_superkey_by
returns-then-becomes_superkey_by c =
    let s = c.args.theory.now in
    let n = width_of s in
    let fs = functional_part (theory_of s) in
    let scheme = attributes c.args.scheme in
    let a = c.args.attribute in
    let inside = tried_in (goal.at.returns-then-becomes_superkey_by c).In-Some in
    let set = attributes c.union-before.result in
    let set_in : IsSubset set scheme = λ k m. inside k (sym (same_at c.union-before.ensures.members k) ∙ m) in
    let with_low : IsSubset (attributes c.with.result) (below n) = λ k m. elim (or_cases (set k) (only a k) (sym (same_at c.with.ensures.members k) ∙ m)) [
      | inl in_set ↦ c.requires.scheme k (set_in k in_set)
      | inr is_a ↦ c.requires.scheme k (grind (arith, nat_tests, is_a, c.requires.attribute))
    ] in
    let greedy = of_functional_part s c.deps.result.now c.deps.ensures.deps (λ m ds. IsSubset (attributes c.with.result) (below m) → IsGreedyKey m ds (attributes c.with.result) (attributes c.functional_key.result))
    c.functional_key.ensures.greedy with_low in
    let becomes_superkey = c.becomes_superkey_by.ensures.becomes_superkey.0 c.if-becomes_superkey_by.true in
    let key = attributes c.functional_key.result in
    record {
      none = λ never. absurd (true≢false never);
      key = completed_key n fs scheme set (attributes c.with.result) key a c.requires.scheme set_in becomes_superkey c.with.ensures.members greedy;
      member = completed_member n fs scheme set (attributes c.with.result) key a c.requires.scheme set_in becomes_superkey c.with.ensures.members greedy;
    }

pub passed_keys-requires-clause-whole : goal.passed_keys-requires-clause-whole
passed_keys-requires-clause-whole c k m = c.requires.within_scheme k (without_in (attributes c.without-others.result) (attributes c.args.whole) c.args.attribute c.without-others.ensures.members k m)

pub passed_keys-requires-clause-rest : goal.passed_keys-requires-clause-rest
passed_keys-requires-clause-rest c k m = grind (arith, same_at c.without-rest.ensures.members k, same_at c.difference.ensures.members k, m)

pub passed_keys-requires-clause-set : goal.passed_keys-requires-clause-set
passed_keys-requires-clause-set c = (searched (goal.at.passed_keys-requires-clause-set c).In-Some).within

pub next_subset-next-requires : goal.next_subset-next-requires
next_subset-next-requires c = record { within = c.passed_keys.ensures.within }

pub loop-next-smaller : goal.loop-next-smaller
loop-next-smaller c = passed_less c.in-Some.set c.passed_keys.result c.loop-next.next c.next_subset-next.result c.in-Some.is (omega arith) (omega arith) c.passed_keys.ensures.holds c.next_subset-next.ensures.number

pub loop-next-preserved : goal.loop-next-preserved
loop-next-preserved c =
    let at = (goal.at.loop-next-preserved c).In-Some in
    let others = attributes c.without-others.result in
    let low : IsSubset others (below (width_of c.args.theory.now)) = λ k m. c.requires.scheme k (c.requires.within_scheme k (without_in others (attributes c.args.whole) c.args.attribute c.without-others.ensures.members k m)) in
    let past = search_past (width_of c.args.theory.now) (BecomesWithRest at) others c.in-Some.set c.passed_keys.result low (searched at)
    (λ becomes_superkey. false≢true (sym c.if-becomes_superkey_by.false ∙ c.becomes_superkey_by.ensures.becomes_superkey.1 (subst (Becomes at) (sym c.union-before.ensures.members) becomes_superkey)))
    c.passed_keys.ensures.holds c.passed_keys.ensures.within c.passed_keys.ensures.passed in
    record {
      part = c.next_part-part.ensures.known;
      searched = search_on (width_of c.args.theory.now) (BecomesWithRest at) others c.passed_keys.result c.next_subset-next.result low past.0 past.1
          c.next_subset-next.ensures.none.0 c.next_subset-next.ensures.next;
    }

pub returns-clause-none : goal.returns-clause-none
returns-clause-none c = λ _.
    let s = c.args.theory.now in
    let n = width_of s in
    let fs = functional_part (theory_of s) in
    let scheme = attributes c.args.scheme in
    let rest = attributes c.without-rest.result in
    let others = attributes c.without-others.result in
    let a = c.args.attribute in
    let P = λ (y : Attributes). BecomesSuperkeyBy n fs scheme (union y rest) a in
    let is : rest ≡ difference (difference scheme (attributes c.args.whole)) (only a) = fun_ext (λ j. grind (arith, same_at c.without-rest.ensures.members j, same_at c.difference.ensures.members j)) in
    not_prime n fs scheme (attributes c.args.whole) others rest a c.requires.scheme c.requires.added c.without-others.ensures.members is c.requires.within_scheme
    (search_end P others (subst (λ (o : Option AttrSet). IsSearched P others o) c.in_default.is c.loop-next.invariant.searched))
