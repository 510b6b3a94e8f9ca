-- What is left to prove of `passed_keys`: what it answers, case by case, by `none_becomes` and
-- `none_completed`.
use Rattle.std.proofs.Common.{◌≡◌, sym, ap, subst, ◌∙◌, inl, inr, arith}
use Rattle.std.proofs.lemmas.Bool.{false≢true, or_cases}
use Rattle.std.proofs.lemmas.Bool.Decides.{nat_tests}
use Rattle.attr_sets.specs.Attributes.{Attributes, only, union, IsSubset}
use Rattle.attr_sets.specs.Sets.{attributes}
use Rattle.attr_sets.proofs.AttributesLemmas.{same_at}
use Rattle.dep_model.specs.Dependencies.{functional_part}
use Rattle.dep_model.specs.Keys.{IsSuperkey}
use Rattle.dep_model.specs.Theories.{width_of, theory_of}
use Rattle.normal_forms.specs.Primes.{BecomesSuperkeyBy}
use Rattle.normal_forms.proofs.PassLemmas.{passes_none, none_becomes, none_completed}
use Rattle.normal_forms.proofs.primes.passed_keys.Goals as goal
use Rattle.normal_forms.proofs.primes.passed_keys.Goals.{After-with-with_most}

-- with the rest and the attribute too
with_most_is : (c : After-with-with_most) → attributes c.with-with_most.result ≡ union (union (attributes c.filled-most.result) (attributes c.args.rest)) (only c.args.attribute)
with_most_is c = c.with-with_most.ensures.members ∙ ap (λ (x : Attributes). union x (only c.args.attribute)) c.union.ensures.members

with_most_in : (c : After-with-with_most) → IsSubset (attributes c.with-with_most.result) (attributes c.args.scheme)
with_most_in c k m = elim (or_cases (union (attributes c.filled-most.result) (attributes c.args.rest) k) (only c.args.attribute k) (sym (same_at (with_most_is c) k) ∙ m)) [
  | inl near ↦ elim (or_cases (attributes c.filled-most.result k) (attributes c.args.rest k) near) [
    | inl in_most ↦ c.requires.whole k (c.filled-most.ensures.within k in_most)
    | inr in_rest ↦ c.requires.rest k in_rest
  ]
  | inr at ↦ grind (arith, nat_tests, at, c.requires.attribute)
]

pub returns-then-few : goal.returns-then-few
returns-then-few c =
    let s = c.args.theory.now in
    record {
      holds = λ k m. m;
      within = c.requires.set;
      passed = passes_none (λ y. BecomesSuperkeyBy (width_of s) (functional_part (theory_of s)) (attributes c.args.scheme) (union y (attributes c.args.rest)) c.args.attribute) (attributes c.args.whole) (attributes c.args.set);
    }

pub is_superkey-requires-clause-set : goal.is_superkey-requires-clause-set
is_superkey-requires-clause-set c k m = elim (or_cases (attributes c.args.set k) (attributes c.args.rest k) (sym (same_at c.union-with_rest.ensures.members k) ∙ m)) [
  | inl near ↦ c.requires.whole k (c.requires.set k near)
  | inr far ↦ c.requires.rest k far
]

pub returns-then-is_superkey : goal.returns-then-is_superkey
returns-then-is_superkey c =
    let s = c.args.theory.now in
    let n = width_of s in
    let fs = functional_part (theory_of s) in
    let scheme = attributes c.args.scheme in
    let most = attributes c.filled-most.result in
    let superkey = subst (λ (x : Attributes). IsSuperkey n fs scheme x) c.union-with_rest.ensures.members (c.is_superkey.ensures.superkey.0 c.if-is_superkey.true) in
    record {
      holds = c.filled-most.ensures.holds;
      within = c.filled-most.ensures.within;
      passed = λ x x_in after not_later becomes.
          none_becomes n fs scheme (attributes c.args.rest) (attributes c.args.set) most c.args.attribute c.requires.rest (λ k m. c.requires.whole k (c.filled-most.ensures.within k m)) c.requires.attribute superkey x
          (c.filled-most.ensures.between x x_in after not_later) becomes;
    }

pub is_superkey-requires-2-clause-set : goal.is_superkey-requires-2-clause-set
is_superkey-requires-2-clause-set c = with_most_in (goal.at.is_superkey-requires-2-clause-set c).After-with-with_most

pub returns-then-is_superkey-2 : goal.returns-then-is_superkey-2
returns-then-is_superkey-2 c =
    let s = c.args.theory.now in
    record {
      holds = λ k m. m;
      within = c.requires.set;
      passed = passes_none (λ y. BecomesSuperkeyBy (width_of s) (functional_part (theory_of s)) (attributes c.args.scheme) (union y (attributes c.args.rest)) c.args.attribute) (attributes c.args.whole) (attributes c.args.set);
    }

pub returns-else-is_superkey-2 : goal.returns-else-is_superkey-2
returns-else-is_superkey-2 c =
    let s = c.args.theory.now in
    let n = width_of s in
    let fs = functional_part (theory_of s) in
    let scheme = attributes c.args.scheme in
    let most = attributes c.filled-most.result in
    let at = (goal.at.returns-else-is_superkey-2 c).After-with-with_most in
    record {
      holds = c.filled-most.ensures.holds;
      within = c.filled-most.ensures.within;
      passed = λ x x_in after not_later becomes.
          none_completed n fs scheme (attributes c.args.rest) (attributes c.args.set) most (attributes c.with-with_most.result) c.args.attribute (with_most_in at) (with_most_is at)
          (λ superkey. false≢true (sym c.if-is_superkey-2.false ∙ c.is_superkey-2.ensures.superkey.1 superkey)) x
          (c.filled-most.ensures.between x x_in after not_later) becomes;
    }
