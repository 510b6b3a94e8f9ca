-- What is left to prove of `third_violation`: its clauses `chosen`, `in_left_sides` and `none`, what
-- `determined_beyond`, `prime_or_not`, `single` and `next_subset` require, that the invariant of
-- its loop holds at first and stays, and that its loop ends, by `AddedLemmas`, `FormLemmas` and
-- `SearchLemmas`.
use Rattle.std.proofs.Common.{true, sym, subst, ◌∙◌, arith}
use Rattle.std.proofs.lemmas.Bool.{true≢false, false_from_ne_true, ltb-true}
use Rattle.std.specs.Prelude.{Option, Some}
use Rattle.attr_sets.specs.declared.set.AttrSet.{AttrSet}
use Rattle.attr_sets.specs.declared.set.TheConstants.{MOST_ATTRIBUTES}
use Rattle.attr_sets.specs.Attributes.{Attributes, below, IsSubset}
use Rattle.attr_sets.specs.Sets.{attributes}
use Rattle.attr_sets.proofs.AttributesLemmas.{attributes_below, same_at}
use Rattle.dep_model.specs.Dependencies.{functional_part}
use Rattle.dep_model.specs.Theories.{width_of, theory_of, deps_of}
use Rattle.dep_model.specs.declared.form.Form.TheVariants.{Bcnf}
use Rattle.normal_forms.specs.Breaking.{Breaks}
use Rattle.normal_forms.specs.Violations.{ViolatesThird}
use Rattle.normal_forms.proofs.AddedLemmas.{functional_within, functional_twice}
use Rattle.normal_forms.proofs.SearchLemmas.{IsSearched, search_start, search_weaker, search_past, search_on, search_end, passed_less}
use Rattle.normal_forms.proofs.PassLemmas.{passes_weaker}
use Rattle.normal_forms.proofs.FormLemmas.{MayViolateThird, third_from, third_first}
use Rattle.normal_forms.proofs.third.third_violation.Goals as goal
use Rattle.normal_forms.proofs.third.third_violation.Goals.{In-Some}

-- a set may violate the form, as far as these are the primes
abbrev MayViolate : (c : In-Some) → Attributes → Attributes → Type 0
MayViolate c primes = MayViolateThird (width_of c.args.theory.now) (functional_part (theory_of c.args.theory.now)) (attributes c.args.scheme) primes

-- the subsets before the one that is tried
searched : (c : In-Some) → IsSearched (MayViolate c (attributes c.loop-next.primes)) (attributes c.functionally_searched_attributes-whole.result) (Some c.in-Some.lhs)
searched c = subst (λ (o : Option AttrSet). IsSearched (MayViolate c (attributes c.loop-next.primes)) (attributes c.functionally_searched_attributes-whole.result) o) c.in-Some.is c.loop-next.invariant.searched

pub loop-next-init : goal.loop-next-init
loop-next-init c =
    let s = c.args.theory.now in
    record {
      part = c.no_part-part.ensures.known true s;
      prime = λ a m. absurd (true≢false (sym m ∙ same_at c.empty-primes.ensures.members a));
      searched = search_start (MayViolateThird (width_of s) (functional_part (theory_of s)) (attributes c.args.scheme) (attributes c.empty-primes.result)) (attributes c.functionally_searched_attributes-whole.result)
          c.empty.result c.empty.ensures.members;
    }

pub next_part-part-requires-clause-set : goal.next_part-part-requires-clause-set
next_part-part-requires-clause-set c k m =
    c.requires.scheme k (c.functionally_searched_attributes-whole.ensures.within k ((searched (goal.at.next_part-part-requires-clause-set c).In-Some).within k m))

pub determined_beyond-beyond-requires-clause-lhs : goal.determined_beyond-beyond-requires-clause-lhs
determined_beyond-beyond-requires-clause-lhs c k m =
    c.functionally_searched_attributes-whole.ensures.within k ((searched (goal.at.determined_beyond-beyond-requires-clause-lhs c).In-Some).within k m)

pub prime_or_not-requires-clause-primes : goal.prime_or_not-requires-clause-primes
prime_or_not-requires-clause-primes c = c.loop-next.invariant.prime

pub single-rhs-requires : goal.single-rhs-requires
single-rhs-requires c = ltb-true c.in-NotPrime.attribute MOST_ATTRIBUTES (attributes_below c.determined_beyond-beyond.result c.in-NotPrime.attribute c.in-NotPrime.ensures.prime_or_not.0)

pub returns-in-NotPrime-clause-chosen : goal.returns-in-NotPrime-clause-chosen
returns-in-NotPrime-clause-chosen c =
    let s = c.args.theory.now in
    let n = width_of s in
    let fs = functional_part (theory_of s) in
    let scheme = attributes c.args.scheme in
    let primes = attributes c.loop-next.primes in
    let whole = attributes c.functionally_searched_attributes-whole.result in
    let x = attributes c.in-Some.lhs in
    let a = c.in-NotPrime.attribute in
    let sifted = c.in-NotPrime.ensures.prime_or_not in
    let exact = c.determined_beyond-beyond.ensures.beyond in
    let before = searched (goal.at.returns-in-NotPrime-clause-chosen c).In-Some in
    let here = (exact a).0 sifted.0 in
    let violates : ViolatesThird n fs scheme x (attributes c.single-rhs.result) = record {
      no_superkey = here.0;
      attribute = a;
      determined = (here.1, sifted.1);
      least = λ b less d. d.1 (sifted.2 b less ((exact b).1 (here.0, d.0)));
      right = c.single-rhs.ensures.members;
    } in
    record {
      within = λ k m. c.functionally_searched_attributes-whole.ensures.within k (before.within k m);
      violates = violates;
      first = λ v w earlier violated.
          third_first n fs scheme whole c.requires.scheme c.functionally_searched_attributes-whole.ensures.added primes x v w c.loop-next.invariant.prime
          (λ y y_in passed untold. before.none y y_in passed untold) earlier violated;
    }

pub returns-in-NotPrime-clause-in_left_sides : goal.returns-in-NotPrime-clause-in_left_sides
returns-in-NotPrime-clause-in_left_sides c k m = c.functionally_searched_attributes-whole.ensures.sides k ((searched (goal.at.returns-in-NotPrime-clause-in_left_sides c).In-Some).within k m)

pub passed_third-requires-clause-set : goal.passed_third-requires-clause-set
passed_third-requires-clause-set c = (searched (goal.at.passed_third-requires-clause-set c).In-Some).within

pub next_subset-next-requires : goal.next_subset-next-requires
next_subset-next-requires c = record { within = c.passed_third.ensures.within }

pub loop-next-smaller : goal.loop-next-smaller
loop-next-smaller c = passed_less c.in-Some.lhs c.passed_third.result c.loop-next.next c.next_subset-next.result c.in-Some.is (omega arith) (omega arith) c.passed_third.ensures.holds c.next_subset-next.ensures.number

pub loop-next-preserved : goal.loop-next-preserved
loop-next-preserved c =
    let at = (goal.at.loop-next-preserved c).In-Some in
    let primes = attributes c.loop-next.primes in
    let known = attributes c.in-Prime.known in
    let whole = attributes c.functionally_searched_attributes-whole.result in
    let sifted = c.in-Prime.ensures.prime_or_not in
    let fewer = search_weaker (MayViolate at primes) (MayViolate at known) whole (Some c.in-Some.lhs)
    (λ x u. (u.0, (u.1.0, u.1.1, false_from_ne_true (primes u.1.0) (λ m. true≢false (sym (sifted.2 u.1.0 m) ∙ u.1.2))))) (searched at) in
    let n = width_of c.args.theory.now in
    let low : IsSubset whole (below n) = λ k m. c.requires.scheme k (c.functionally_searched_attributes-whole.ensures.within k m) in
    let passes = passes_weaker (Breaks n (functional_part (theory_of c.args.theory.now)) Bcnf (attributes c.args.scheme)) (MayViolate at known) whole (attributes c.in-Some.lhs) (attributes c.passed_third.result)
    (λ x u. (u.0, (u.1.0, u.1.1))) c.passed_third.ensures.passed in
    let past = search_past n (MayViolate at known) whole c.in-Some.lhs c.passed_third.result low fewer
    (λ u. true≢false (sym (sifted.1 u.1.0 ((c.determined_beyond-beyond.ensures.beyond u.1.0).1 (u.0, u.1.1))) ∙ u.1.2))
    c.passed_third.ensures.holds c.passed_third.ensures.within passes in
    record {
      part = c.next_part-part.ensures.known;
      prime = sifted.0;
      searched = search_on n (MayViolate at known) whole c.passed_third.result c.next_subset-next.result low past.0 past.1
          c.next_subset-next.ensures.none.0 c.next_subset-next.ensures.next;
    }

pub returns-clause-none : goal.returns-clause-none
returns-clause-none c = λ _.
    let s = c.args.theory.now in
    let n = width_of s in
    let fs = functional_part (theory_of s) in
    let scheme = attributes c.args.scheme in
    let primes = attributes c.loop-next.primes in
    let whole = attributes c.functionally_searched_attributes-whole.result in
    let P = MayViolateThird n fs scheme primes in
    third_from n fs scheme whole c.requires.scheme c.functionally_searched_attributes-whole.ensures.added primes (functional_within n (deps_of s) s.valid.deps_within) (functional_twice (theory_of s))
    c.loop-next.invariant.prime (search_end P whole (subst (λ (o : Option AttrSet). IsSearched P whole o) c.in_default.is c.loop-next.invariant.searched))
