-- What is left to prove of `write_form`: its clause `response`, of the tables of the plan.
use Rattle.std.proofs.Common.{List, []}
use Rattle.attr_sets.specs.declared.set.AttrSet.{AttrSet}
use Rattle.dep_model.specs.Plans.{schemes_of}
use Rattle.plans.specs.Plans.{scheme_sets}
use Rattle.desk_responses.proofs.StepLemmas.{With-found}
use Rattle.desk_designs.specs.Decompositions.{FormStops, IsPlanInForm}
use Rattle.desk_designs.specs.Designs.{WithoutMissing, WritesTables}
use Rattle.desk_designs.proofs.designs.write_form.Goals as goal

pub returns : goal.returns
returns c =
    let s = c.args.schema.now in
    let form = c.args.form in
    let sets = scheme_sets c.in-Ok.plan in
    record {
      response = With-found (FormStops s form) (IsPlanInForm s form)
          (λ (plan : List AttrSet). WithoutMissing s [] (schemes_of plan) (WritesTables s [] plan)) sets c.write_tables.result
          c.in-Ok.ensures.ok (c.write_tables.ensures.response [] sets c.in_ok-tables.ensures.sound);
    }
