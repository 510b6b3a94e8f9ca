-- Which answers a command allows, and the words that form it: for `desk`, by `Desk`.
use Rattle.std.specs.Prelude.{ℕ, ◌≤◌, List, [], ◌∷◌, MatchOption}
use Rattle.dep_model.specs.Tuples.{Relation}
use Rattle.schema_model.specs.Schemas.{Schema}
use Rattle.table_join.specs.Tables.{tables_of}
use Rattle.plan_printer.specs.NamedPlans.{NamedSchemes}
use Rattle.sample_rows.specs.declared.rows.TheConstants.{MOST_PERSONS}
use Rattle.desk_responses.specs.declared.status.Status.TheVariants.{Yes, Refused}
use Rattle.desk_responses.specs.ResponseValues.{Allowed, Says}
use Rattle.desk_implication.specs.Bases.{GivesBasis}
use Rattle.desk_implication.specs.Certificates.{ChecksProof}
use Rattle.desk_implication.specs.Closures.{GivesClosure}
use Rattle.desk_covers.specs.CoverChecks.{ChecksCanonicalCover, ChecksCover}
use Rattle.desk_covers.specs.CoverReasons.{ExplainsCover}
use Rattle.desk_covers.specs.Covering.{GivesCanonicalCover, GivesCover}
use Rattle.desk_designs.specs.Decompositions.{Splits, SplitsWide}
use Rattle.desk_designs.specs.Designs.{WritesForm, WritesPlan}
use Rattle.desk_designs.specs.FewestReasons.{ExplainsFewest}
use Rattle.desk_designs.specs.FewestTables.{SynthesizesFewest}
use Rattle.desk_designs.specs.FormsOfSchemes.{ListsFormOfAll, ListsFormsOfPlan}
use Rattle.desk_discovery.specs.AllDiscoveries.{FindsAllRules}
use Rattle.desk_discovery.specs.NearDiscoveries.{FindsNearRules}
use Rattle.desk_discovery.specs.Discoveries.{FindsRules, FindsSmallRules}
use Rattle.desk_discovery.specs.KeyDiscoveries.{FindsRowKeys}
use Rattle.desk_implication.specs.Derivations.{ChecksDerivation}
use Rattle.desk_designs.specs.Drawings.{DrawsForm, DrawsSchemes}
use Rattle.desk_exhibits.specs.Exhibits.{Exhibits}
use Rattle.desk_words.specs.Forms as form
use Rattle.desk_words.specs.Forms.{CommandForm, PairQuestion, PlanQuestion, RowsQuestion, RulesQuestion, SchemaQuestion, Task, form_of}
use Rattle.headed_rows.specs.Headings.{HeadedRows}
use Rattle.desk_inputs.specs.FileKinds.{WithFile, WithFiles}
use Rattle.desk_imports.specs.Columns.{ImportsColumns}
use Rattle.desk_imports.specs.Imports.{ImportsTable}
use Rattle.desk_inputs.specs.Headed.{headed_file, imported_file, whole_file}
use Rattle.desk_inputs.specs.Sql.{sql_file}
use Rattle.desk_cli.specs.Help.{help_text, version_text}
use Rattle.desk_implication.specs.Explanations.{ExplainsImplication}
use Rattle.desk_implication.specs.Implication.{DecidesGoal}
use Rattle.desk_inputs.specs.Inputs.{derivation_file, proof_file, schema_file}
use Rattle.desk_designs.specs.Joins.{JudgesJoin}
use Rattle.desk_designs.specs.Keeping.{JudgesKeeping}
use Rattle.desk_keys.specs.KeyChecks.{ChecksKey}
use Rattle.desk_keys.specs.KeyReasons.{ExplainsKeys}
use Rattle.desk_keys.specs.Keys.{ListsKeys, ListsKeysOfPlan}
use Rattle.desk_tables.specs.Legality.{JudgesRows}
use Rattle.desk_measures.specs.Keeping.{KeepsRows}
use Rattle.desk_measures.specs.Measures.{MeasuresRows}
use Rattle.desk_measures.specs.Offences.{ListsOffences, ListsOffencesByRow}
use Rattle.desk_measures.specs.Untyped.{HasTextsAlone}
use Rattle.desk_designs.specs.SplitReasons.{ExplainsSplit}
use Rattle.desk_designs.specs.SynthesisReasons.{ExplainsSynthesis}
use Rattle.desk_reports.specs.Reports.{ReportsPlan, ReportsSchema}
use Rattle.desk_tables.specs.Migrations.{Samples}
use Rattle.desk_tables.specs.Overwriting.{MigratesHere, MigratesPlanHere}
use Rattle.desk_tables.specs.OwnFolders.{Looks, MigratesInto, MigratesPlanInto}
use Rattle.desk_designs.specs.NormalForms.{JudgesForm}
use Rattle.desk_inputs.specs.Parts.{part_file}
use Rattle.desk_implication.specs.Projections.{Projects}
use Rattle.desk_references.specs.Checks.{ChecksReferences}
use Rattle.desk_references.specs.Findings.{FindsReferences}
use Rattle.desk_inputs.specs.Plans.{plan_file}
use Rattle.desk_inputs.specs.Readings.{Reading}
use Rattle.desk_tables.specs.Rejoining.{JoinsTables}
use Rattle.desk_inputs.specs.Rows.{rows_file}
use Rattle.desk_covers.specs.Sameness.{ChecksSame}
use Rattle.desk_scripts.specs.Scripts.{ScriptsCheck, ScriptsMeasure, ScriptsMigration, ScriptsMigrationByPlan}
use Rattle.desk_designs.specs.Synthesis.{Synthesizes}
use Rattle.desk_texts.specs.Texts.{unknown_words_text}

-- what is asked of a schema alone
unfoldable pub AnswersSchema : Schema → SchemaQuestion → Allowed
AnswersSchema schema (form.implies goal) = DecidesGoal schema goal
AnswersSchema schema form.cover = GivesCover schema
AnswersSchema schema form.cover_canonical = GivesCanonicalCover schema
AnswersSchema schema (form.basis set) = GivesBasis schema set
AnswersSchema schema (form.closure set) = GivesClosure schema set
AnswersSchema schema (form.project set) = Projects schema set
AnswersSchema schema form.keys = ListsKeys schema
AnswersSchema schema form.form_of_all = ListsFormOfAll schema
AnswersSchema schema (form.check_key set) = ChecksKey schema set
AnswersSchema schema form.synthesize = Synthesizes schema
AnswersSchema schema form.synthesize_fewest = SynthesizesFewest schema
AnswersSchema schema (form.split normal) = Splits schema normal
AnswersSchema schema form.split_wide = SplitsWide schema
AnswersSchema schema form.exhibit = Exhibits schema
AnswersSchema schema (form.explain_implies goal) = ExplainsImplication schema goal
AnswersSchema schema form.explain_cover = ExplainsCover schema
AnswersSchema schema form.explain_keys = ExplainsKeys schema
AnswersSchema schema form.explain_synthesize = ExplainsSynthesis schema
AnswersSchema schema form.explain_fewest = ExplainsFewest schema
AnswersSchema schema (form.explain_split normal) = ExplainsSplit schema normal
AnswersSchema schema (form.ddl normal) = WritesForm schema normal
AnswersSchema schema (form.sql_check name) = ScriptsCheck schema name
AnswersSchema schema (form.sql_measure name) = ScriptsMeasure schema name
AnswersSchema schema (form.sql_migrate normal name) = ScriptsMigration schema normal name
AnswersSchema schema (form.draw normal) = DrawsForm schema normal

-- what is asked of a schema and a plan
unfoldable pub AnswersPlan : Schema → NamedSchemes → PlanQuestion → Allowed
AnswersPlan schema plan form.check_join = JudgesJoin schema plan.schemes
AnswersPlan schema plan (form.check_form tested) = JudgesForm schema tested plan.schemes
AnswersPlan schema plan form.check_keeps = JudgesKeeping schema plan.schemes
AnswersPlan schema plan form.keys_of_plan = ListsKeysOfPlan schema plan.schemes
AnswersPlan schema plan form.forms_of_plan = ListsFormsOfPlan schema plan.schemes
AnswersPlan schema plan form.ddl_plan = WritesPlan schema plan.names plan.schemes
AnswersPlan schema plan (form.sql_migrate_plan name) = ScriptsMigrationByPlan schema plan.names plan.schemes name
AnswersPlan schema plan form.draw_plan = DrawsSchemes schema plan.names plan.schemes

-- what is asked of the schemas of two files
unfoldable pub AnswersPair : Schema → Schema → List ℕ → List ℕ → PairQuestion → Allowed
AnswersPair schema other file other_file form.check_same = ChecksSame schema other file other_file
AnswersPair schema other file other_file form.check_cover = ChecksCover schema other file other_file
AnswersPair schema other file other_file form.check_cover_canonical = ChecksCanonicalCover schema other file other_file

-- what is asked of a schema and rows
unfoldable pub AnswersRows : Schema → Relation → RowsQuestion → Allowed
AnswersRows schema rows form.check_rows = JudgesRows schema rows
AnswersRows schema rows form.offences = ListsOffences schema rows
AnswersRows schema rows form.offences_by_row = ListsOffencesByRow schema rows
AnswersRows schema rows form.kept = KeepsRows schema rows

-- which rules are sought in the rows of a file of this name, under a free header
unfoldable pub AnswersRules : RulesQuestion → List ℕ → HeadedRows → Allowed
AnswersRules form.minimal_rules file headed = FindsRules file headed
AnswersRules (form.small_rules most) file headed = FindsSmallRules most file headed
AnswersRules form.keys_of_rows file headed = FindsRowKeys file headed
AnswersRules (form.near_rules limit most) file headed = FindsNearRules limit most file headed

-- the rows of a file are read whatever their values are, and then the rest follows
unfoldable pub WithValues : Reading → Schema → List ℕ → (Relation → Allowed) → Allowed
WithValues r schema file rest response =
    (texts : Schema) × HasTextsAlone schema texts × WithFile (rows_file texts) r file rest response

-- what is asked of a schema: the files after its own are read in their order, and then it is answered, where a
-- look at a name may be answered so
unfoldable pub Does : Looks → Reading → Schema → Task → Allowed
Does looks r schema (form.of_schema question) = AnswersSchema schema question
Does looks r schema (form.of_plan file question) =
    WithFile (plan_file schema) r file (λ plan. AnswersPlan schema plan question)
Does looks r schema (form.of_rows file question) =
    WithFile (rows_file schema) r file (λ rows. AnswersRows schema rows question)
Does looks r schema (form.measure file) = WithValues r schema file (MeasuresRows schema)
Does looks r schema (form.migrate own file normal) =
    WithFile (rows_file schema) r file (MigratesHere schema normal (own ∷ file ∷ []))
Does looks r schema (form.migrate_plan own planned file) =
    WithFile (plan_file schema) r planned
    (λ plan. WithFile (rows_file schema) r file
    (MigratesPlanHere schema plan.names plan.schemes (own ∷ planned ∷ file ∷ [])))
Does looks r schema (form.migrate_into file normal folder) =
    WithFile (rows_file schema) r file (MigratesInto looks schema normal folder)
Does looks r schema (form.migrate_plan_into planned file folder) =
    WithFile (plan_file schema) r planned
    (λ plan. WithFile (rows_file schema) r file (MigratesPlanInto looks schema plan.names plan.schemes folder))
Does looks r schema (form.check_proof file goal) =
    WithFile (proof_file schema) r file (λ tree. ChecksProof schema tree goal)
Does looks r schema (form.check_derivation file goal) =
    WithFile (derivation_file schema) r file (λ lines. ChecksDerivation schema lines goal)
Does looks r schema (form.of_pair file other_file question) =
    WithFile schema_file r other_file (λ other. AnswersPair schema other file other_file question)
Does looks r schema (form.rejoin files) =
    WithFiles (part_file schema) r files (λ parts. JoinsTables schema (tables_of parts))
Does looks r schema (form.report file) = ReportsSchema file schema
Does looks r schema (form.report_plan file planned) =
    WithFile (plan_file schema) r planned (λ plan. ReportsPlan file planned schema plan)

-- so many invented persons, as many as the limit at most
abbrev pub SamplesFew : ℕ → Allowed
SamplesFew persons response = (persons ≤ MOST_PERSONS) × Samples persons response

-- a command
unfoldable pub Performs : Looks → Reading → CommandForm → Allowed
Performs looks r (form.over_schema file task) = WithFile schema_file r file (λ schema. Does looks r schema task)
Performs looks r (form.discover question file) = WithFile headed_file r file (AnswersRules question file)
Performs looks r (form.discover_all file) = WithFile whole_file r file FindsAllRules
Performs looks r (form.discover_references files) = WithFiles headed_file r files (FindsReferences files)
Performs looks r (form.check_references file names other other_names) =
    WithFile headed_file r file
    (λ own. WithFile headed_file r other (λ others. ChecksReferences own names others other_names))
Performs looks r (form.import_csv file) = WithFile imported_file r file ImportsColumns
Performs looks r (form.import_sql dialect file table) = WithFile sql_file r file (ImportsTable dialect table file)
Performs looks r (form.sample persons) = SamplesFew persons
Performs looks r form.help = Says Yes help_text
Performs looks r form.version = Says Yes version_text

-- the words
abbrev pub Answers : Looks → Reading → List (List ℕ) → Allowed
Answers looks r words response =
    MatchOption (form_of words) (Says Refused unknown_words_text response) (λ form. Performs looks r form response)
