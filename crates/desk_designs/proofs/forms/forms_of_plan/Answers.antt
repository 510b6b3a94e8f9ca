-- What is left to prove of `forms_of_plan`: its clause, of the schemes of the plan.
use Rattle.std.proofs.Common.{List, subst}
use Rattle.attr_sets.specs.declared.set.AttrSet.{AttrSet}
use Rattle.dep_model.specs.Plans.{schemes_of}
use Rattle.desk_designs.specs.FormsOfSchemes.{ListsFormsOfPlan}
use Rattle.desk_responses.specs.Responses.{RespondsAs}
use Rattle.desk_designs.proofs.forms.forms_of_plan.Goals as goal

pub returns : goal.returns
returns c = record {
  response = subst (λ (schemes : List AttrSet). RespondsAs (ListsFormsOfPlan c.args.schema.now (schemes_of schemes)) c.list_forms.result)
      c.schemes.ensures.schemes c.list_forms.ensures.response;
}
