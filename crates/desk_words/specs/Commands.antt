-- A command of the code, as its form: for `parse`. `Desk` does not cite it.
use Rattle.desk_words.specs.declared.command.Command.{Command}
use Rattle.desk_words.specs.declared.command.Command.TheVariants.{OverSchema, Discover, ImportCsv, ImportSql, Sample, Help, Version, DiscoverAll, DiscoverReferences, CheckReferences}
use Rattle.desk_words.specs.declared.questions.PairQuestion.{PairQuestion}
use Rattle.desk_words.specs.declared.questions.PairQuestion.TheVariants as pair
use Rattle.desk_words.specs.declared.questions.PlanQuestion.{PlanQuestion}
use Rattle.desk_words.specs.declared.questions.PlanQuestion.TheVariants as plan
use Rattle.desk_words.specs.declared.questions.RowsQuestion.{RowsQuestion}
use Rattle.desk_words.specs.declared.questions.RowsQuestion.TheVariants as rows
use Rattle.desk_words.specs.declared.questions.RulesQuestion.{RulesQuestion}
use Rattle.desk_words.specs.declared.questions.RulesQuestion.TheVariants as rules
use Rattle.desk_words.specs.declared.questions.SchemaQuestion.{SchemaQuestion}
use Rattle.desk_words.specs.declared.questions.SchemaQuestion.TheVariants as schema
use Rattle.desk_words.specs.declared.questions.Task.{Task}
use Rattle.desk_words.specs.declared.questions.Task.TheVariants as task
use Rattle.desk_words.specs.Forms as form

abbrev pub schema_question : SchemaQuestion → form.SchemaQuestion
schema_question (schema.Implies goal) = form.implies goal.now
schema_question schema.Cover = form.cover
schema_question schema.CoverCanonical = form.cover_canonical
schema_question (schema.Basis set) = form.basis set.now
schema_question (schema.Closure set) = form.closure set.now
schema_question (schema.Project set) = form.project set.now
schema_question schema.Keys = form.keys
schema_question schema.FormOfAll = form.form_of_all
schema_question (schema.CheckKey set) = form.check_key set.now
schema_question schema.Synthesize = form.synthesize
schema_question schema.SynthesizeFewest = form.synthesize_fewest
schema_question (schema.Split normal) = form.split normal
schema_question schema.SplitWide = form.split_wide
schema_question schema.Exhibit = form.exhibit
schema_question (schema.ExplainImplies goal) = form.explain_implies goal.now
schema_question schema.ExplainCover = form.explain_cover
schema_question schema.ExplainKeys = form.explain_keys
schema_question schema.ExplainSynthesize = form.explain_synthesize
schema_question schema.ExplainFewest = form.explain_fewest
schema_question (schema.ExplainSplit normal) = form.explain_split normal
schema_question (schema.Ddl normal) = form.ddl normal
schema_question (schema.SqlCheck name) = form.sql_check name.now
schema_question (schema.SqlMeasure name) = form.sql_measure name.now
schema_question (schema.SqlMigrate normal name) = form.sql_migrate normal name.now
schema_question (schema.Draw normal) = form.draw normal

abbrev pub plan_question : PlanQuestion → form.PlanQuestion
plan_question plan.CheckJoin = form.check_join
plan_question (plan.CheckForm normal) = form.check_form normal
plan_question plan.CheckKeeps = form.check_keeps
plan_question plan.Keys = form.keys_of_plan
plan_question plan.Forms = form.forms_of_plan
plan_question plan.Ddl = form.ddl_plan
plan_question (plan.SqlMigrate name) = form.sql_migrate_plan name.now
plan_question plan.Draw = form.draw_plan

abbrev pub pair_question : PairQuestion → form.PairQuestion
pair_question pair.CheckSame = form.check_same
pair_question pair.CheckCover = form.check_cover
pair_question pair.CheckCoverCanonical = form.check_cover_canonical

abbrev pub rows_question : RowsQuestion → form.RowsQuestion
rows_question rows.CheckRows = form.check_rows
rows_question rows.Offences = form.offences
rows_question rows.OffencesByRow = form.offences_by_row
rows_question rows.Kept = form.kept

abbrev pub rules_question : RulesQuestion → form.RulesQuestion
rules_question rules.Minimal = form.minimal_rules
rules_question (rules.Small most) = form.small_rules most.number
rules_question rules.Keys = form.keys_of_rows
rules_question (rules.Near limit most) = form.near_rules limit most.number

abbrev pub task_form : Task → form.Task
task_form (task.OfSchema question) = form.of_schema (schema_question question)
task_form (task.OfPlan plan question) = form.of_plan plan.now (plan_question question)
task_form (task.OfRows file question) = form.of_rows file.now (rows_question question)
task_form (task.Measure file) = form.measure file.now
task_form (task.Migrate schema file normal) = form.migrate schema.now file.now normal
task_form (task.MigratePlan schema plan file) = form.migrate_plan schema.now plan.now file.now
task_form (task.MigrateInto file normal folder) = form.migrate_into file.now normal folder.now
task_form (task.MigratePlanInto plan file folder) = form.migrate_plan_into plan.now file.now folder.now
task_form (task.CheckProof file goal) = form.check_proof file.now goal.now
task_form (task.CheckDerivation file goal) = form.check_derivation file.now goal.now
task_form (task.OfPair file other question) = form.of_pair file.now other.now (pair_question question)
task_form (task.Rejoin files) = form.rejoin files.now
task_form (task.Report file) = form.report file.now
task_form (task.ReportPlan file plan) = form.report_plan file.now plan.now

abbrev pub command_form : Command → form.CommandForm
command_form (OverSchema schema task) = form.over_schema schema.now (task_form task)
command_form (Discover question file) = form.discover (rules_question question) file.now
command_form (DiscoverAll file) = form.discover_all file.now
command_form (DiscoverReferences files) = form.discover_references files.now
command_form (CheckReferences file names other other_names) =
    form.check_references file.now names.now other.now other_names.now
command_form (ImportCsv file) = form.import_csv file.now
command_form (ImportSql dialect file table) = form.import_sql dialect file.now table.now
command_form (Sample persons) = form.sample persons.number
command_form Help = form.help
command_form Version = form.version
