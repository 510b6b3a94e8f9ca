-- What is left to prove of `second_violation`: what it answers, case by case, and what its calls require, by
-- `NamedLemmas` and `SecondLemmas`.
use Rattle.std.proofs.Common.{◌≡◌, true, refl, sym, subst, ◌∙◌, arith}
use Rattle.std.specs.Prelude.{Option, IfSome}
use Rattle.attr_sets.specs.declared.set.AttrSet.{AttrSet}
use Rattle.attr_sets.specs.Attributes.{Attributes, only, difference}
use Rattle.attr_sets.specs.Sets.{attributes}
use Rattle.attr_sets.proofs.AttributesLemmas.{same_at}
use Rattle.dep_model.specs.Theories.{width_of, theory_of}
use Rattle.dep_model.specs.Dependencies.{fd}
use Rattle.dep_model.specs.OnSchemes.{ImpliedOn}
use Rattle.dep_model.specs.Keys.{IsKey, IsPrime}
use Rattle.which_form.specs.KeyRanges.{functional_of}
use Rattle.which_form.specs.KeySearches.{DeterminesSome, HasAllOf}
use Rattle.which_form.specs.SecondForm.{IsProperPart, IsFirstInSecond}
use Rattle.which_form.proofs.NamedLemmas.{named_violation, none_found}
use Rattle.which_form.proofs.SecondLemmas.{violates_not_second}
use Rattle.which_form.proofs.second.second_violation.Goals as goal
use Rattle.which_form.proofs.second.second_violation.Goals.{After-search_all_keys-found, In-Some}

-- all of each key was found
all_found : (c : After-search_all_keys-found) → (k : Attributes)
    → IsKey (width_of c.args.theory.now) (functional_of c.args.theory.now) (attributes c.key_range-range.result.scheme) k
    → HasAllOf (width_of c.args.theory.now) (functional_of c.args.theory.now) (attributes c.attributes_in_no_key-wanted.result) c.search_all_keys-found.result k
all_found c k key =
    let range = c.key_range-range.ensures.range in
    c.search_all_keys-found.ensures.has_all k key (range.in_superkeys k key.superkey) (range.keys k key)

pub search_all_keys-found-requires : goal.search_all_keys-found-requires
search_all_keys-found-requires c =
    let range = c.key_range-range.ensures.range in
    let wanted = c.attributes_in_no_key-wanted in
    let is = c.difference.ensures.members in
    record {
      range = range;
      wanted = wanted.ensures.in_no_key;
      found = record {
        prime = λ a m.
            let beyond : difference (attributes c.args.scheme) (attributes wanted.result) a ≡ true = sym (same_at is a) ∙ m in
            wanted.ensures.others a (grind (arith, beyond)) (grind (arith, beyond));
        part = tt;
      };
    }

-- what was found first
part_found : (c : In-Some) → IsProperPart (width_of c.args.theory.now) (functional_of c.args.theory.now) (attributes c.key_range-range.result.scheme) (attributes c.in-Some.lhs)
    × DeterminesSome (width_of c.args.theory.now) (functional_of c.args.theory.now) (attributes c.attributes_in_no_key-wanted.result) (attributes c.in-Some.lhs)
part_found c =
    let s = c.args.theory.now in
    let n = width_of s in
    let fs = functional_of s in
    subst (λ (o : Option AttrSet). IfSome o (λ x. IsProperPart n fs (attributes c.key_range-range.result.scheme) (attributes x) × DeterminesSome n fs (attributes c.attributes_in_no_key-wanted.result) (attributes x)))
    c.in-Some.is c.search_all_keys-found.ensures.found.part

pub least_determined-rhs-requires : goal.least_determined-rhs-requires
least_determined-rhs-requires c =
    let found = part_found (goal.at.least_determined-rhs-requires c).In-Some in
    record {
      lhs = λ k m. c.key_range-range.ensures.range.scheme k (found.0.1.superkey.within.0 k (found.0.2 k m));
      determines = found.1;
    }

pub returns-in-Some : goal.returns-in-Some
returns-in-Some c =
    let s = c.args.theory.now in
    let n = width_of s in
    let fs = functional_of s in
    let at = (goal.at.returns-in-Some c).In-Some in
    let range = c.key_range-range.ensures.range in
    let wanted = c.attributes_in_no_key-wanted in
    let scheme_is = c.key_range-range.ensures.scheme in
    let named = named_violation n fs (attributes c.key_range-range.result.scheme) (attributes wanted.result) range.scheme wanted.ensures.in_no_key wanted.ensures.others
    c.search_all_keys-found.result c.in-Some.lhs (attributes c.least_determined-rhs.result) c.in-Some.is (part_found at).0
    (all_found (goal.at.returns-in-Some c).After-search_all_keys-found) c.least_determined-rhs.ensures.least in
    let here = subst (λ (set : AttrSet). IsFirstInSecond n fs (attributes set) (attributes c.in-Some.lhs) (attributes c.least_determined-rhs.result)) scheme_is named in
    record {
      none = ((λ e. cc), (λ second. absurd (violates_not_second n (theory_of s) (attributes c.args.scheme) (attributes c.in-Some.lhs) (attributes c.least_determined-rhs.result) here.violates second)));
      named = here;
    }

pub returns-in-None : goal.returns-in-None
returns-in-None c =
    let s = c.args.theory.now in
    let n = width_of s in
    let fs = functional_of s in
    let range = c.key_range-range.ensures.range in
    let wanted = c.attributes_in_no_key-wanted in
    record {
      none = (
        (λ _ x a part on _. subst (λ (set : AttrSet). IsPrime n fs (attributes set) a) c.key_range-range.ensures.scheme
            (none_found n fs (attributes c.key_range-range.result.scheme) (attributes wanted.result) range.scheme wanted.ensures.in_no_key wanted.ensures.others
            c.search_all_keys-found.result c.in-None.is (all_found (goal.at.returns-in-None c).After-search_all_keys-found) x a
            (subst (λ (set : AttrSet). IsProperPart n fs (attributes set) x) (sym c.key_range-range.ensures.scheme) part)
            (subst (λ (set : AttrSet). ImpliedOn n fs (attributes set) (fd x (only a))) (sym c.key_range-range.ensures.scheme) on))),
        (λ _. refl),
      );
      named = tt;
    }
