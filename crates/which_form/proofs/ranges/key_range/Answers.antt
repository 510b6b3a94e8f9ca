-- What is left to prove of `key_range`: its clause `range`, by `RangeLemmas`.
use Rattle.std.proofs.Common.{refl, arith}
use Rattle.attr_sets.specs.Sets.{attributes}
use Rattle.attr_sets.proofs.AttributesLemmas.{same_at}
use Rattle.dep_model.specs.Theories.{width_of}
use Rattle.fd_closure.proofs.SchemaLemmas.{functional_closure_of_schema}
use Rattle.which_form.specs.KeyRanges.{functional_of}
use Rattle.which_form.proofs.RangeLemmas.{least_in, least_in_superkeys, varying_apart, keys_between}
use Rattle.which_form.proofs.ranges.key_range.Goals as goal

pub returns : goal.returns
returns c =
    let s = c.args.theory.now in
    let n = width_of s in
    let fs = functional_of s in
    let scheme = attributes c.args.scheme in
    let sides = attributes c.sides_in-sides.result in
    let least = attributes c.attributes_in_every_key-least.result in
    let closed = attributes c.functional_closure-closed.result in
    let varying = attributes c.difference-varying.result in
    let low = c.requires.scheme in
    let added = c.sides_in-sides.ensures.added in
    let every = c.attributes_in_every_key-least.ensures.in_every_key in
    let is = c.difference-varying.ensures.members in
    let exact = functional_closure_of_schema s c.deps.result.now c.deps.ensures.deps least closed (λ k m. low k ((every k).0 m).member) c.functional_closure-closed.ensures.closure in
    record {
      scheme = refl;
      range = record {
        scheme = low;
        sides = c.sides_in-sides.ensures.within;
        added = added;
        least = least_in n fs scheme sides least closed varying low added every exact is;
        in_superkeys = least_in_superkeys n fs scheme sides least closed varying low added every exact is;
        varying = λ k m. c.sides_in-sides.ensures.within k (grind (arith, m, same_at is k));
        apart = varying_apart n fs scheme sides least closed varying low added every exact is;
        keys = keys_between n fs scheme sides least closed varying low added every exact is;
      };
    }
