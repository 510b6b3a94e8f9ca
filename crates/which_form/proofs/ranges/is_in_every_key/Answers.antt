-- What is left to prove of `is_in_every_key`: what it answers in one case.
use Rattle.std.proofs.Common.{◌↔◌, sym, ◌∙◌, subst, arith}
use Rattle.std.proofs.lemmas.Bool.{false_from_ne_true}
use Rattle.std.specs.Prelude.{IsTrue}
use Rattle.attr_sets.specs.Attributes.{Attributes, only, difference}
use Rattle.attr_sets.specs.Sets.{attributes}
use Rattle.dep_model.specs.Keys.{IsSuperkey}
use Rattle.dep_model.specs.Theories.{width_of}
use Rattle.which_form.specs.KeyRanges.{functional_of}
use Rattle.which_form.proofs.ranges.is_in_every_key.Goals as goal

pub returns-then-contains : goal.returns-then-contains
returns-then-contains c =
    let s = c.args.theory.now in
    let scheme = attributes c.args.scheme in
    let others : Attributes = difference scheme (only c.args.attribute) in
    let superkey : IsTrue c.is_functional_superkey.result ↔ IsSuperkey (width_of s) (functional_of s) scheme others =
    subst (λ (x : Attributes). IsTrue c.is_functional_superkey.result ↔ IsSuperkey (width_of s) (functional_of s) scheme x) c.without.ensures.members c.is_functional_superkey.ensures.superkey in
    record {
      in_every_key = (
        (λ e. record { member = sym c.contains.ensures.member ∙ c.if-contains.true; others = λ holds. let fact = superkey.1 holds in absurd (grind (arith, e, fact)) }),
        (λ in_every_key. let fact = false_from_ne_true c.is_functional_superkey.result (λ e. in_every_key.others (superkey.0 e)) in grind (arith, fact)),
      );
    }
