-- What is left to prove of `migrate_sample`: its clause `response`, by `sample_response`.
use Rattle.std.proofs.Common.{[], inl, List, subst}
use Rattle.attr_sets.specs.declared.set.AttrSet.{AttrSet}
use Rattle.plans.specs.Plans.{plan_of, scheme_sets}
use Rattle.dep_model.specs.Plans.{schemes_of}
use Rattle.dep_model.specs.Tuples.{Relation}
use Rattle.dep_model.specs.declared.form.Form.TheVariants.{Fourth}
use Rattle.sample_rows.specs.Sample.{sample_relation}
use Rattle.desk_designs.specs.Decompositions.{FormStops, IsPlanInForm}
use Rattle.desk_tables.specs.Migrations.{MigratesRows}
use Rattle.desk_responses.specs.Responses.{RespondsAs}
use Rattle.desk_tables.proofs.MigrationLemmas.{sample_response}
use Rattle.desk_responses.proofs.StepLemmas.{With-found}
use Rattle.desk_tables.proofs.sampling.migrate_sample.Goals as goal

pub returns-in-Err : goal.returns-in-Err
returns-in-Err c = record {
  response = λ response is. (
    c.in_ok-schema.schema,
    record { bare = c.in_ok-schema.ensures.naming; names = c.in_ok-schema.ensures.names; theory = c.in_ok-schema.ensures.theory },
    inl (c.in-Err.ensures.exit response is),
  );
}

pub returns : goal.returns
returns c =
    let s = c.in_ok-schema.schema in
    let persons = c.args.persons.number in
    let plan = c.in-Ok.plan in
    let replies = subst (λ (rows : Relation). RespondsAs (MigratesRows s [] (plan_of plan) rows) c.migrate_rows.result) c.in_ok-rows.ensures.rows c.migrate_rows.ensures.response in
    record {
      response = sample_response persons s c.migrate_rows.result (record { bare = c.in_ok-schema.ensures.naming; names = c.in_ok-schema.ensures.names; theory = c.in_ok-schema.ensures.theory })
          (With-found (FormStops s Fourth) (IsPlanInForm s Fourth) (λ (plan : List AttrSet). MigratesRows s [] (schemes_of plan) (sample_relation persons)) (scheme_sets plan) c.migrate_rows.result c.in-Ok.ensures.ok replies);
    }
