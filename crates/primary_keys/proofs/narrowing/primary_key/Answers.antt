-- What is left to prove of `primary_key`: its clause, since the test of `narrowed` says what is a superkey.
use Rattle.std.proofs.Common.{◌≡◌, rules, subst}
use Rattle.attr_sets.specs.Attributes.{Attributes, difference}
use Rattle.attr_sets.specs.Narrowing.{IsNarrowed}
use Rattle.attr_sets.specs.Sets.{attributes}
use Rattle.attr_sets.specs.declared.narrowing.Direction.TheVariants.{Descending}
use Rattle.attr_sets.proofs.NarrowingLemmas.{narrowed-by}
use Rattle.dep_model.specs.Keys.{IsSuperkey}
use Rattle.dep_model.specs.Theories.{width_of, theory_of}
use Rattle.primary_keys.proofs.narrowing.primary_key.Goals as goal

pub returns : goal.returns
returns c =
    let s = c.args.theory.now in
    let Passes : Attributes → Type 0 = IsSuperkey (width_of s) (theory_of s) (attributes c.args.scheme) in
    let nullable = c.args.nullable in
    let scheme = c.args.scheme in
    let rest = c.narrowed-rest.result in
    let key = c.narrowed.result in
    let first : IsNarrowed Descending Passes (attributes nullable) (attributes scheme) (attributes rest) =
    narrowed-by Descending _ Passes (attributes nullable) (attributes scheme) (attributes rest) c.narrowed-rest.ensures.narrowed
    (λ set fits inside says said. search rules) in
    let next : IsNarrowed Descending Passes (attributes c.difference.result) (attributes rest) (attributes key) =
    narrowed-by Descending _ Passes (attributes c.difference.result) (attributes rest) (attributes key) c.narrowed.ensures.narrowed
    (λ set fits inside says said. search rules) in
    let others : attributes c.difference.result ≡ difference (attributes scheme) (attributes nullable) = c.difference.ensures.members in
    record {
      primary = record {
        rest = attributes rest;
        nullable_first = first;
        others_next = subst (λ (x : Attributes). IsNarrowed Descending Passes x (attributes rest) (attributes key)) others next;
      };
    }
