-- What is left to prove of `is_spare`: what it answers, case by case.
use Rattle.std.proofs.Common.{◌↔◌, sym, subst, ◌∙◌}
use Rattle.std.proofs.lemmas.Bool.{true≢false, false≢true}
use Rattle.std.specs.Prelude.{IsTrue}
use Rattle.attr_sets.specs.Attributes.{Attributes}
use Rattle.attr_sets.specs.Sets.{attributes}
use Rattle.dep_model.specs.Keys.{IsSuperkey}
use Rattle.dep_model.specs.Theories.{width_of}
use Rattle.which_form.specs.KeyRanges.{functional_of}
use Rattle.which_form.proofs.keys.is_spare.Goals as goal

pub returns-then-not-contains : goal.returns-then-not-contains
returns-then-not-contains c = record {
  spare = ((λ e. absurd (false≢true e)), (λ h. absurd (true≢false (sym h.0 ∙ sym c.contains.ensures.member ∙ c.if-not-contains.true))));
}

pub returns : goal.returns
returns c =
    let s = c.args.theory.now in
    let superkey = subst (λ (x : Attributes). IsTrue c.is_functional_superkey.result ↔ IsSuperkey (width_of s) (functional_of s) (attributes c.args.scheme) x)
    c.without.ensures.members c.is_functional_superkey.ensures.superkey in
    record { spare = ((λ e. (sym c.contains.ensures.member ∙ c.if-not-contains.false, superkey.0 e)), (λ h. superkey.1 h.1)) }
