-- What is left to prove of `perform_task`: its clause, arm by arm, by those of the functions that it calls.
use Rattle.desk_cli.specs.Performs.{Does}
use Rattle.desk_inputs.proofs.CallLemmas.{reads_none}
use Rattle.desk_cli.proofs.tasks.perform_task.Goals as goal

pub returns-in-OfSchema : goal.returns-in-OfSchema
unfolding Does
returns-in-OfSchema g c = record { reads = reads_none (λ r. rw c.in-OfSchema.is c.answer_schema.ensures.response) }

pub returns-in-OfPlan : goal.returns-in-OfPlan
unfolding Does
returns-in-OfPlan g c = record { reads = rw c.in-OfPlan.is c.of_plan.ensures.reads }

pub returns-in-OfRows : goal.returns-in-OfRows
unfolding Does
returns-in-OfRows g c = record { reads = rw c.in-OfRows.is c.of_rows.ensures.reads }

pub returns-in-Measure : goal.returns-in-Measure
unfolding Does
returns-in-Measure g c = record { reads = rw c.in-Measure.is c.of_values.ensures.reads }

pub returns-in-Migrate : goal.returns-in-Migrate
unfolding Does
returns-in-Migrate g c = record { reads = rw c.in-Migrate.is c.of_rows_in_form.ensures.reads }

pub returns-in-MigratePlan : goal.returns-in-MigratePlan
unfolding Does
returns-in-MigratePlan g c = record { reads = rw c.in-MigratePlan.is c.of_plan_and_rows.ensures.reads }

pub returns-in-MigrateInto : goal.returns-in-MigrateInto
unfolding Does
returns-in-MigrateInto g c = record { reads = rw c.in-MigrateInto.is c.of_rows_into.ensures.reads }

pub returns-in-MigratePlanInto : goal.returns-in-MigratePlanInto
unfolding Does
returns-in-MigratePlanInto g c = record { reads = rw c.in-MigratePlanInto.is c.of_plan_and_rows_into.ensures.reads }

pub returns-in-CheckProof : goal.returns-in-CheckProof
unfolding Does
returns-in-CheckProof g c = record { reads = rw c.in-CheckProof.is c.of_proof.ensures.reads }

pub returns-in-CheckDerivation : goal.returns-in-CheckDerivation
unfolding Does
returns-in-CheckDerivation g c = record { reads = rw c.in-CheckDerivation.is c.of_derivation.ensures.reads }

pub returns-in-OfPair : goal.returns-in-OfPair
unfolding Does
returns-in-OfPair g c = record { reads = rw c.in-OfPair.is c.of_schemas.ensures.reads }

pub returns-in-Rejoin : goal.returns-in-Rejoin
unfolding Does
returns-in-Rejoin g c = record { reads = rw c.in-Rejoin.is c.of_parts.ensures.reads }

pub returns-in-ReportPlan : goal.returns-in-ReportPlan
unfolding Does
returns-in-ReportPlan g c = record { reads = rw c.in-ReportPlan.is c.of_page_and_plan.ensures.reads }

pub returns-in-Report : goal.returns-in-Report
unfolding Does
returns-in-Report g c = record { reads = reads_none (λ r. rw c.in-Report.is c.report_schema.ensures.response) }
