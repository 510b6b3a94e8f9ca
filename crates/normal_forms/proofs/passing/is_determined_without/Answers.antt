-- What is left to prove of `is_determined_without`: what it answers, case by case.
use Rattle.std.proofs.Common.{◌≡◌, ◌↔◌, true, false, sym, subst, ◌∙◌, arith}
use Rattle.std.proofs.lemmas.Bool.{true≢false, false≢true}
use Rattle.attr_sets.specs.Attributes.{Attributes, difference}
use Rattle.attr_sets.specs.Sets.{attributes}
use Rattle.attr_sets.proofs.AttributesLemmas.{same_at}
use Rattle.dep_model.specs.Theories.{width_of}
use Rattle.dep_model.specs.Keys.{InClosure}
use Rattle.normal_forms.specs.Passing.{theory_by}
use Rattle.normal_forms.proofs.passing.is_determined_without.Goals as goal

pub returns-then-not-contains : goal.returns-then-not-contains
returns-then-not-contains c =
    let a = c.args.attribute in
    let gone : difference (attributes c.args.most) (attributes c.args.least) a ≡ false = sym (same_at c.difference.ensures.members a) ∙ (sym c.contains.ensures.member ∙ c.if-not-contains.true) in
    record { determined = ((λ e. absurd (false≢true e)), (λ h. absurd (true≢false (sym (grind (arith, h.0, h.1)) ∙ gone)))) }

pub returns : goal.returns
returns c =
    let s = c.args.theory.now in
    let a = c.args.attribute in
    let both : difference (attributes c.args.most) (attributes c.args.least) a ≡ true = sym (same_at c.difference.ensures.members a) ∙ (sym c.contains.ensures.member ∙ c.if-not-contains.false) in
    let exact = subst (λ (x : Attributes). (attributes c.closed_set.result a ≡ true) ↔ InClosure (width_of s) (theory_by c.args.functional s) x a) c.without.ensures.members (c.closed_set.ensures.closure a) in
    let member = c.contains-2.ensures.member in
    record { determined = ((λ e. (grind (arith, both), grind (arith, both), exact.0 (sym member ∙ e))), (λ h. member ∙ exact.1 h.2)) }
