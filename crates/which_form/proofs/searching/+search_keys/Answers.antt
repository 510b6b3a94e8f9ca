-- What is left to prove of `search_keys`: what it finds, case by case, and what its calls require, by `BetweenLemmas`.
use Rattle.std.proofs.Common.{◌≡◌, true, refl, sym, ◌∙◌, arith}
use Rattle.std.proofs.lemmas.Bool.{false≢true}
use Rattle.std.proofs.lemmas.Bool.Decides.{nat_tests}
use Rattle.attr_sets.specs.Sets.{attributes}
use Rattle.attr_sets.proofs.AttributesLemmas.{same_at}
use Rattle.dep_model.specs.Keys.{IsSuperkey}
use Rattle.dep_model.specs.Theories.{width_of}
use Rattle.normal_forms.proofs.BreakLemmas.{superkey_closed, closed_superkey}
use Rattle.which_form.specs.KeyRanges.{functional_of}
use Rattle.which_form.proofs.BetweenLemmas.{all_both, all_without, fewer_apart, fewer_left, none_beyond, none_with}
use Rattle.which_form.proofs.searching.+search_keys.Goals as goal

pub with_superkey-requires : goal.with_superkey-requires
with_superkey-requires t c =
    let s = c.args.theory.now in
    record {
      range = c.requires.range;
      wanted = c.requires.wanted;
      found = c.requires.found;
      superkey = closed_superkey (width_of s) (functional_of s) (attributes c.args.range.scheme) (attributes c.args.part.of) (attributes c.args.part.closed)
          c.requires.part c.requires.closed (c.is_subset.ensures.subset.0 c.if-is_subset.true);
    }

pub returns-then-is_subset : goal.returns-then-is_subset
returns-then-is_subset t c = record {
  found = c.with_superkey.ensures.found;
  kept = c.with_superkey.ensures.kept;
  has_all = λ k key holds _. c.with_superkey.ensures.has_all k key holds key.superkey.within.0;
}

pub returns-then-has_all_between : goal.returns-then-has_all_between
returns-then-has_all_between t c = record {
  found = c.requires.found;
  kept = λ k all. all;
  has_all = c.has_all_between.ensures.has_all c.if-has_all_between.true;
}

pub returns-in_default : goal.returns-in_default
returns-in_default t c =
    let s = c.args.theory.now in
    let n = width_of s in
    let fs = functional_of s in
    let scheme = attributes c.args.range.scheme in
    let least = attributes c.args.part.of in
    let none : IsSuperkey n fs scheme least → ⊥ = λ superkey. false≢true (sym c.if-is_subset.false ∙ c.is_subset.ensures.subset.1
    (superkey_closed n fs scheme least (attributes c.args.part.closed) c.requires.range.scheme c.requires.closed superkey)) in
    record {
      found = c.requires.found;
      kept = λ k all. all;
      has_all = none_beyond n fs scheme (attributes c.args.wanted) least (attributes c.args.rest) c.args.found none (c.in_default.ensures.none.0 refl);
    }

pub search_keys-before-requires : goal.search_keys-before-requires
search_keys-before-requires t c =
    let rest = attributes c.args.rest in
    let fewer = attributes c.without-fewer.result in
    let a = c.in-Some.attribute in
    let is = c.without-fewer.ensures.members in
    let s = c.args.theory.now in
    let less = fewer_left (width_of s) (functional_of s) (attributes c.args.range.scheme) (attributes c.args.wanted) (attributes c.args.part.of) rest fewer a is
    c.in-Some.ensures.first.member c.in-Some.ensures.attribute in (
      omega (arith, less),
      (
        c.requires.range,
        (
          c.requires.wanted,
          (
            c.requires.part,
            (
              c.requires.closed,
              (
                (λ k m. c.requires.rest k (grind (arith, m, same_at is k))),
                ((λ k m. c.requires.apart k (grind (arith, m, same_at is k))), c.requires.found),
              ),
            ),
          ),
        ),
      ),
    )

pub returns-then-contains : goal.returns-then-contains
returns-then-contains t c =
    let s = c.args.theory.now in
    let n = width_of s in
    let fs = functional_of s in
    let scheme = attributes c.args.range.scheme in
    let wanted = attributes c.args.wanted in
    let least = attributes c.args.part.of in
    let rest = attributes c.args.rest in
    let a = c.in-Some.attribute in
    let is = c.without-fewer.ensures.members in
    let fewer = attributes c.without-fewer.result in
    let member = c.in-Some.ensures.first.member in
    let determined : attributes c.args.part.closed a ≡ true = sym c.contains.ensures.member ∙ c.if-contains.true in
    record {
      found = c.search_keys-before.ensures.found;
      kept = c.search_keys-before.ensures.kept;
      has_all = all_without n fs scheme wanted least rest fewer a is c.search_keys-before.result c.search_keys-before.ensures.has_all
          (none_with n fs scheme wanted least rest fewer a is (attributes c.args.part.closed) c.requires.closed determined (c.requires.apart a member));
    }

pub part_with-more-requires : goal.part_with-more-requires
part_with-more-requires t c =
    let member = c.in-Some.ensures.first.member in
    record {
      part = λ k m. c.requires.range.scheme k (c.requires.part k m);
      closed = c.requires.closed;
      attribute = c.in-Some.ensures.attribute;
      within = λ k m. c.requires.range.scheme k (c.requires.rest k (grind (arith, nat_tests, m, member)));
    }

pub search_keys-requires : goal.search_keys-requires
search_keys-requires t c =
    let rest = attributes c.args.rest in
    let fewer = attributes c.without-fewer.result in
    let a = c.in-Some.attribute in
    let is = c.without-fewer.ensures.members in
    let more = c.part_with-more.ensures.of in
    let member = c.in-Some.ensures.first.member in
    let least = attributes c.args.part.of in
    let s = c.args.theory.now in
    let n = width_of s in
    let fs = functional_of s in
    let scheme = attributes c.args.range.scheme in
    let wanted = attributes c.args.wanted in
    let less = fewer_left n fs scheme wanted least rest fewer a is member c.in-Some.ensures.attribute in
    let in_scheme = c.requires.rest a member in
    let apart = fewer_apart n fs scheme wanted least rest fewer a is c.requires.apart in (
      omega (arith, less),
      (
        c.requires.range,
        (
          c.requires.wanted,
          (
            (λ k m. let at = same_at more k in let inside = c.requires.part k in grind (arith, nat_tests, m, at, inside, in_scheme)),
            (
              c.part_with-more.ensures.closed,
              (
                (λ k m. c.requires.rest k (grind (arith, m, same_at is k))),
                ((λ k m. same_at more k ∙ apart k m), c.search_keys-before.ensures.found),
              ),
            ),
          ),
        ),
      ),
    )

pub returns : goal.returns
returns t c =
    let s = c.args.theory.now in
    let n = width_of s in
    let fs = functional_of s in
    let scheme = attributes c.args.range.scheme in
    let wanted = attributes c.args.wanted in
    let least = attributes c.args.part.of in
    let rest = attributes c.args.rest in
    let fewer = attributes c.without-fewer.result in
    let before = c.search_keys-before in
    let last = c.search_keys in
    record {
      found = last.ensures.found;
      kept = λ k all. last.ensures.kept k (before.ensures.kept k all);
      has_all = all_both n fs scheme wanted least rest fewer c.in-Some.attribute c.without-fewer.ensures.members (attributes c.part_with-more.result.of) before.result last.result
          c.part_with-more.ensures.of before.ensures.has_all last.ensures.kept last.ensures.has_all;
    }
