-- What is left to prove of `check_form`: its clause `response`.
use Rattle.std.proofs.Common.{List, subst}
use Rattle.attr_sets.specs.declared.set.AttrSet.{AttrSet}
use Rattle.dep_model.specs.Plans.{schemes_of}
use Rattle.desk_designs.specs.NormalForms.{JudgesForm}
use Rattle.desk_responses.specs.Responses.{RespondsAs}
use Rattle.desk_designs.proofs.form.check_form.Goals as goal

pub returns : goal.returns
returns c = record {
  response = subst (λ (schemes : List AttrSet). RespondsAs (JudgesForm c.args.schema.now c.args.form (schemes_of schemes)) c.judge_schemes.result)
      c.schemes.ensures.schemes c.judge_schemes.ensures.response;
}
