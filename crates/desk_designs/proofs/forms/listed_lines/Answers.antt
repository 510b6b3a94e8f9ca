-- What is left to prove of `listed_lines`: its clause, and that the invariant of its loop holds at first and stays.
use Rattle.std.proofs.Common.{ℕ, ◌++◌, List, take_all, refl, ap, subst, ◌∙◌}
use Rattle.desk_designs.specs.declared.forms.TestedScheme.{TestedScheme}
use Rattle.desk_designs.specs.FormsOfSchemes.{ArePlanTexts}
use Rattle.desk_designs.specs.TestedSchemes.{schemes_tested}
use Rattle.desk_designs.proofs.TestedLemmas.{listed_more}
use Rattle.desk_designs.proofs.forms.listed_lines.Goals as goal

pub loop-tested-init : goal.loop-tested-init
loop-tested-init c = c.new-text.ensures.items

pub loop-tested-preserved : goal.loop-tested-preserved
loop-tested-preserved c =
    let s = c.args.schema.now in
    listed_more s c.args.found.now c.loop-tested.tested-index _ c.loop-tested.text.items c.in_ok-scheme_lines.field-0.items _ c.loop-tested-test.true
    c.loop-tested.invariant c.in_ok-scheme_lines.ensures.text (c.in_ok-add.ensures.added ∙ ap (λ (t : List ℕ). c.loop-tested.text.items ++ t) c.deref.ensures.value)

pub returns : goal.returns
returns c = record {
  texts = subst (λ (found : List TestedScheme). ArePlanTexts c.args.schema.now (schemes_tested found) c.loop-tested.text.items)
      (take_all c.loop-tested.tested-index c.args.found.now c.loop-tested-test.false) c.loop-tested.invariant;
}
