-- What is left to prove of `wide_split_schemes`: its clause `split`, what `without` requires, that a
-- round of its loop keeps the invariant, and that its loop ends, by `CoreLemmas` and `PairLemmas`.
use Rattle.std.proofs.Common.{◌≡◌, ℕ, List, [], ◌∷◌, ◌++◌, refl, sym, subst, ap, ◌∙◌, inl, inr, append_assoc, arith}
use Rattle.std.proofs.lemmas.Bool.{ltb-true}
use Rattle.std.proofs.lemmas.List.{map-append}
use Rattle.attr_sets.specs.declared.set.AttrSet.{AttrSet}
use Rattle.attr_sets.specs.declared.set.TheConstants.{MOST_ATTRIBUTES}
use Rattle.attr_sets.specs.Attributes.{Attributes, only, difference, IsSubset}
use Rattle.attr_sets.specs.Sets.{attributes}
use Rattle.attr_sets.proofs.AttributesLemmas.{attributes_below, same_at}
use Rattle.dep_model.specs.Plans.{schemes_of}
use Rattle.dep_model.specs.Theories.{width_of, theory_of, universe_of}
use Rattle.wide_bcnf.specs.WideSplits.{IsWideSplitOf}
use Rattle.wide_bcnf.proofs.PairLemmas.{none_before_first, none_before_part}
use Rattle.wide_bcnf.proofs.CoreLemmas.{scheme_member, count_left}
use Rattle.wide_bcnf.proofs.splitting.wide_split_schemes.Goals as goal

pub without-rest-requires : goal.without-rest-requires
without-rest-requires c =
    let s = c.args.theory.now in
    ltb-true c.core_of-core.result.attribute MOST_ATTRIBUTES (attributes_below c.loop-pair.rest c.core_of-core.result.attribute
    (scheme_member (width_of s) (theory_of s) (attributes c.loop-pair.rest)
    (attributes c.core_of-core.result.scheme) c.core_of-core.result.attribute c.core_of-core.ensures.core))

pub loop-pair-smaller : goal.loop-pair-smaller
loop-pair-smaller c =
    let s = c.args.theory.now in
    count_left c.loop-pair.rest c.without-rest.result c.core_of-core.result.attribute
    (scheme_member (width_of s) (theory_of s) (attributes c.loop-pair.rest)
    (attributes c.core_of-core.result.scheme) c.core_of-core.result.attribute c.core_of-core.ensures.core)
    c.without-rest.ensures.members

pub loop-pair-preserved : goal.loop-pair-preserved
loop-pair-preserved c =
    let s = c.args.theory.now in
    let n = width_of s in
    let theory = theory_of s in
    let rest = attributes c.loop-pair.rest in
    let next = attributes c.without-rest.result in
    let a = c.core_of-core.result.attribute in
    let core = attributes c.core_of-core.result.scheme in
    let is : next ≡ difference rest (only a) = c.without-rest.ensures.members in
    let inside : IsSubset next rest = λ (k : ℕ) m. let e = same_at c.without-rest.ensures.members k in grind (arith, e, m) in
    let found = schemes_of c.loop-pair.schemes.items in
    let more : schemes_of c.push.new.self.items ≡ found ++ core ∷ [] =
    ap (λ (xs : List AttrSet). schemes_of xs) c.in_ok-push.ensures.items
    ∙ map-append attributes c.loop-pair.schemes.items (c.core_of-core.result.scheme ∷ []) in
    record {
      within = λ k m. c.loop-pair.invariant.within k (inside k m);
      before = none_before_part n theory rest next c.in-Some.pair.first c.in-Some.pair.second inside
          (none_before_first n theory rest c.in-Some.pair.first c.in-Some.pair.second c.in-Some.ensures.first);
      goes_on = λ later split.
          let left : IsWideSplitOf n theory (difference rest (only a)) later = subst
          (λ (z : Attributes). IsWideSplitOf n theory z later) is split in
          let whole : IsWideSplitOf n theory (universe_of s) (found ++ core ∷ later) = c.loop-pair.invariant.goes_on
          (core ∷ later) (inr (a, c.core_of-core.ensures.core, left)) in
          subst (λ (xs : List Attributes). IsWideSplitOf n theory (universe_of s) xs)
          (sym (ap (λ (xs : List Attributes). xs ++ later) more ∙ append_assoc found (core ∷ []) later)) whole;
    }

pub returns : goal.returns
returns c =
    let s = c.args.theory.now in
    let rest = attributes c.loop-pair.rest in
    let items = c.loop-pair.schemes.items in
    let all : schemes_of c.push-2.new.self.items ≡ schemes_of items ++ rest ∷ [] =
    ap (λ (xs : List AttrSet). schemes_of xs) c.in_ok-push-2.ensures.items
    ∙ map-append attributes items (c.loop-pair.rest ∷ []) in
    record {
      split = subst (λ (xs : List Attributes). IsWideSplitOf (width_of s) (theory_of s) (universe_of s) xs) (sym all)
          (c.loop-pair.invariant.goes_on (rest ∷ []) (inl (c.in_default.ensures.none refl, refl, refl)));
    }
