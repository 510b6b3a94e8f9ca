-- Every answer to words refuses by a line that begins so, if it refuses.
use Rattle.std.proofs.Common.{◌≡◌, ℕ, List, [], ◌∷◌, Option, Some, None, refl, sym, subst}
use Rattle.std.specs.Prelude.{All, Contains, MatchOption, codes}
use Rattle.std.specs.Option.{option_map_or}
use Rattle.dep_model.specs.Tuples.{Relation}
use Rattle.dep_model.proofs.ListLemmas.{Contains-head, Contains-later}
use Rattle.schema_model.specs.Names.{IsName}
use Rattle.schema_model.specs.Schemas.{Schema, names_of}
use Rattle.headed_rows.specs.Headings.{HeadedRows, discovered}
use Rattle.plan_printer.specs.NamedPlans.{NamedSchemes}
use Rattle.table_join.specs.Tables.{tables_of}
use Rattle.cover_accounts.specs.declared.diagnostic.CoverForm.TheVariants.{Canonical, Minimal}
use Rattle.desk_cli.specs.Performs.{AnswersPair, Answers, AnswersPlan, AnswersRows, AnswersRules, AnswersSchema, Does, Performs, WithValues}
use Rattle.desk_discovery.specs.AllDiscoveries.{FindsAllRules}
use Rattle.desk_implication.specs.Certificates.{ChecksProof}
use Rattle.desk_implication.specs.Derivations.{ChecksDerivation}
use Rattle.desk_imports.specs.Columns.{ImportsColumns}
use Rattle.desk_imports.specs.Imports.{ImportsTable}
use Rattle.desk_inputs.specs.FileKinds.{WithFile}
use Rattle.desk_inputs.specs.Headed.{headed_file, imported, wholly_discovered}
use Rattle.desk_inputs.specs.Readings.{Reading}
use Rattle.desk_inputs.specs.Rows.{rows_file}
use Rattle.desk_measures.specs.Measures.{MeasuresRows}
use Rattle.desk_references.specs.Checks.{ChecksReferences}
use Rattle.desk_references.specs.Findings.{FindsReferences}
use Rattle.desk_reports.specs.Reports.{ReportsPlan}
use Rattle.desk_responses.specs.ResponseValues.{Allowed, ResponseValue, Says}
use Rattle.desk_responses.specs.declared.status.Status.TheVariants.{Refused}
use Rattle.desk_tables.specs.OwnFolders.{Looks, MigratesInto, MigratesPlanInto}
use Rattle.desk_tables.specs.Overwriting.{MigratesHere, MigratesPlanHere}
use Rattle.desk_tables.specs.Rejoining.{JoinsTables}
use Rattle.desk_texts.specs.Texts.{unknown_words_text}
use Rattle.desk_words.specs.Forms as form
use Rattle.desk_words.specs.Forms.{CommandForm, PairQuestion, PlanQuestion, RowsQuestion, RulesQuestion, SchemaQuestion, Task, form_of}
use Rattle.refusal_laws.specs.Refusals.{IsRefusal, names_of_command, names_of_task, names_of_words}
use Rattle.refusal_laws.proofs.FileRefusals.{after_derivation, after_headed, after_parts, after_plan, after_proof, after_rows, after_schema, after_sql}
use Rattle.refusal_laws.proofs.FileRefusals.{after_headed_files}
use Rattle.refusal_laws.proofs.FormRefusals.{explained_fewest_refuses, fewest_refuses, form_of_all_refuses, forms_refuse}
use Rattle.refusal_laws.proofs.PlanRefusals.{check_scripted, explained_split_refuses, explained_synthesis_refuses, form_drawn, form_into, form_placed, form_refuses, form_scripted, form_written, join_refuses, joined, keeping_refuses, measure_scripted, plan_drawn, plan_into, plan_placed, plan_scripted, plan_written, rows_refuse, sample_refuses, split_refuses, synthesis_refuses, wide_split_refuses}
use Rattle.refusal_laws.proofs.QuestionRefusals.{basis_refuses, canonical_cover_refuses, check_cover_refuses, closure_refuses, cover_refuses, derivation_refuses, exhibit_refuses, explained_cover_refuses, explained_implication_refuses, explained_keys_refuse, implication_refuses, key_refuses, keys_refuse, plan_keys_refuse, projection_refuses, proof_refuses, same_refuses}
use Rattle.refusal_laws.proofs.ReferenceRefusals.{check_references_refuses, references_refuse}
use Rattle.refusal_laws.proofs.RefusalLemmas.{RefusesSo, says_plain, says_yes}
use Rattle.refusal_laws.proofs.RowRefusals.{all_rules_refuse, columns_refuse, import_refuses, kept_refuses, measure_refuses, near_rules_refuse, offences_by_row_refuse, offences_refuse, page_refuses, plan_page_refuses, row_keys_refuse, rules_refuse, small_rules_refuse}
use Rattle.refusal_laws.proofs.TableTexts.{IsPlainIfGiven}

-- ---- questions
module _ (names : List (List ℕ)) (s : Schema) (are_names : All IsName (names_of s)) where
  of_schema : (question : SchemaQuestion) → RefusesSo names (AnswersSchema s question)
  unfolding AnswersSchema
  of_schema (form.implies goal) = implication_refuses names s are_names goal
  of_schema form.cover = cover_refuses names s are_names
  of_schema form.cover_canonical = canonical_cover_refuses names s are_names
  of_schema (form.basis set) = basis_refuses names s are_names set
  of_schema (form.closure set) = closure_refuses names s are_names set
  of_schema (form.project set) = projection_refuses names s are_names set
  of_schema form.keys = keys_refuse names s are_names
  of_schema form.form_of_all = form_of_all_refuses names s are_names
  of_schema (form.check_key set) = key_refuses names s are_names set
  of_schema form.synthesize = synthesis_refuses names s are_names
  of_schema form.synthesize_fewest = fewest_refuses names s are_names
  of_schema (form.split normal) = split_refuses names s are_names normal
  of_schema form.split_wide = wide_split_refuses names s are_names
  of_schema form.exhibit = exhibit_refuses names s are_names
  of_schema (form.explain_implies goal) = explained_implication_refuses names s are_names goal
  of_schema form.explain_cover = explained_cover_refuses names s are_names
  of_schema form.explain_keys = explained_keys_refuse names s are_names
  of_schema form.explain_synthesize = explained_synthesis_refuses names s are_names
  of_schema form.explain_fewest = explained_fewest_refuses names s are_names
  of_schema (form.explain_split normal) = explained_split_refuses names s are_names normal
  of_schema (form.ddl normal) = form_written names s are_names normal
  of_schema (form.sql_check table) = check_scripted names s are_names table
  of_schema (form.sql_measure table) = measure_scripted names s are_names table
  of_schema (form.sql_migrate normal table) = form_scripted names s are_names normal table
  of_schema (form.draw normal) = form_drawn names s are_names normal

  of_plan : (plan : NamedSchemes) → All IsPlainIfGiven plan.names → (question : PlanQuestion) → RefusesSo names (AnswersPlan s plan question)
  unfolding AnswersPlan
  of_plan plan all form.check_join = join_refuses names s are_names plan.schemes
  of_plan plan all (form.check_form tested) = form_refuses names s are_names tested plan.schemes
  of_plan plan all form.check_keeps = keeping_refuses names s are_names plan.schemes
  of_plan plan all form.keys_of_plan = plan_keys_refuse names s are_names plan.schemes
  of_plan plan all form.forms_of_plan = forms_refuse names s are_names plan.schemes
  of_plan plan all form.ddl_plan = plan_written names s are_names plan.names all plan.schemes
  of_plan plan all (form.sql_migrate_plan table) = plan_scripted names s are_names plan.names all plan.schemes table
  of_plan plan all form.draw_plan = plan_drawn names s are_names plan.names plan.schemes

  of_rows : (rows : Relation) (question : RowsQuestion) → RefusesSo names (AnswersRows s rows question)
  unfolding AnswersRows
  of_rows rows form.check_rows = rows_refuse names s are_names rows
  of_rows rows form.offences = offences_refuse names s rows
  of_rows rows form.offences_by_row = offences_by_row_refuse names s rows
  of_rows rows form.kept = kept_refuses names s rows are_names

  of_values : (r : Reading) (file : List ℕ) → Contains names file → RefusesSo names (WithValues r s file (MeasuresRows s))
  unfolding WithValues
  of_values r file given response (texts, alone, read) refused =
      after_rows names r file given texts (subst (λ (ns : List (List ℕ)). All IsName ns) (sym alone.names) are_names)
      (MeasuresRows s) (measure_refuses names s) response read refused

module _ (names : List (List ℕ)) (s t : Schema) (are_names : All IsName (names_of s)) (others : All IsName (names_of t))
    (file other_file : List ℕ) (given : Contains names file) (other_given : Contains names other_file) where
  of_pair : (question : PairQuestion) → RefusesSo names (AnswersPair s t file other_file question)
  unfolding AnswersPair
  of_pair form.check_same = same_refuses names s t are_names others file other_file given other_given
  of_pair form.check_cover = check_cover_refuses names s t are_names others file other_file given other_given Minimal
  of_pair form.check_cover_canonical = check_cover_refuses names s t are_names others file other_file given other_given Canonical

of_rules : (file : List ℕ) (question : RulesQuestion) (headed : HeadedRows) → All IsName headed.names
    → RefusesSo (file ∷ []) (AnswersRules question file headed)
unfolding AnswersRules
of_rules file form.minimal_rules headed all = rules_refuse (file ∷ []) file (Contains-head file []) headed all
of_rules file (form.small_rules most) headed all = small_rules_refuse (file ∷ []) file (Contains-head file []) headed all most
of_rules file form.keys_of_rows headed all = row_keys_refuse (file ∷ []) file (Contains-head file []) headed all
of_rules file (form.near_rules limit most) headed all = near_rules_refuse (file ∷ []) file (Contains-head file []) headed all limit most

-- ---- tasks
-- the names of a task are among these
abbrev AreAmong : List (List ℕ) → List (List ℕ) → Type 0
AreAmong some names = (name : List ℕ) → Contains some name → Contains names name

module _ (names : List (List ℕ)) (looks : Looks) (r : Reading) (s : Schema) (are_names : All IsName (names_of s)) where
  of_task : (task : Task) → AreAmong (names_of_task task) names → RefusesSo names (Does looks r s task)
  unfolding Does
  of_task (form.of_schema question) among = of_schema names s are_names question
  of_task (form.of_plan file question) among =
      after_plan names r file (among file (Contains-head file [])) s are_names (λ plan. AnswersPlan s plan question)
      (λ plan all. of_plan names s are_names plan all question)
  of_task (form.of_rows file question) among =
      after_rows names r file (among file (Contains-head file [])) s are_names (λ rows. AnswersRows s rows question)
      (λ rows. of_rows names s are_names rows question)
  of_task (form.measure file) among = of_values names s are_names r file (among file (Contains-head file []))
  of_task (form.migrate own file normal) among =
      let files = own ∷ file ∷ [] in
      after_rows names r file (among file (Contains-later own (file ∷ []) file (Contains-head file []))) s are_names
      (MigratesHere s normal files) (form_placed names s are_names normal files among)
  of_task (form.migrate_plan own planned file) among =
      let files = own ∷ planned ∷ file ∷ [] in
      let later = Contains-later own (planned ∷ file ∷ []) in
      after_plan names r planned (among planned (later planned (Contains-head planned (file ∷ [])))) s are_names
      (λ plan. WithFile (rows_file s) r file (MigratesPlanHere s plan.names plan.schemes files))
      (λ plan all.
      after_rows names r file (among file (later file (Contains-later planned (file ∷ []) file (Contains-head file [])))) s are_names
      (MigratesPlanHere s plan.names plan.schemes files) (plan_placed names s are_names plan.names all plan.schemes files among))
  of_task (form.migrate_into file normal folder) among =
      after_rows names r file (among file (Contains-head file (folder ∷ []))) s are_names (MigratesInto looks s normal folder)
      (form_into names s are_names looks normal folder (among folder (Contains-later file (folder ∷ []) folder (Contains-head folder []))))
  of_task (form.migrate_plan_into planned file folder) among =
      let later = Contains-later planned (file ∷ folder ∷ []) in
      let last = among folder (later folder (Contains-later file (folder ∷ []) folder (Contains-head folder []))) in
      after_plan names r planned (among planned (Contains-head planned (file ∷ folder ∷ []))) s are_names
      (λ plan. WithFile (rows_file s) r file (MigratesPlanInto looks s plan.names plan.schemes folder))
      (λ plan all.
      after_rows names r file (among file (later file (Contains-head file (folder ∷ [])))) s are_names
      (MigratesPlanInto looks s plan.names plan.schemes folder)
      (plan_into names s are_names looks plan.names all plan.schemes folder last))
  of_task (form.check_proof file goal) among =
      after_proof names r file (among file (Contains-head file [])) s are_names (λ tree. ChecksProof s tree goal)
      (λ tree. proof_refuses names s are_names tree goal)
  of_task (form.check_derivation file goal) among =
      after_derivation names r file (among file (Contains-head file [])) s are_names (λ lines. ChecksDerivation s lines goal)
      (λ lines. derivation_refuses names s are_names lines goal)
  of_task (form.of_pair file other_file question) among =
      let given = among file (Contains-head file (other_file ∷ [])) in
      let other_given = among other_file (Contains-later file (other_file ∷ []) other_file (Contains-head other_file [])) in
      after_schema names r other_file other_given (λ t. AnswersPair s t file other_file question)
      (λ t others. of_pair names s t are_names others file other_file given other_given question)
  of_task (form.rejoin files) among =
      after_parts names r s are_names files among (λ parts. JoinsTables s (tables_of parts))
      (λ parts. joined names s are_names (tables_of parts))
  of_task (form.report file) among = page_refuses names s file
  of_task (form.report_plan file planned) among =
      after_plan names r planned (among planned (Contains-later file (planned ∷ []) planned (Contains-head planned []))) s are_names
      (λ plan. ReportsPlan file planned s plan) (λ plan all. plan_page_refuses names s file planned plan)

-- ---- commands
of_command : (looks : Looks) (r : Reading) (command : CommandForm) → RefusesSo (names_of_command command) (Performs looks r command)
unfolding Performs
of_command looks r (form.over_schema file task) =
    let names = file ∷ names_of_task task in
    after_schema names r file (Contains-head file (names_of_task task)) (λ s. Does looks r s task)
    (λ s are_names. of_task names looks r s are_names task (Contains-later file (names_of_task task)))
of_command looks r (form.discover question file) =
    after_headed (file ∷ []) r file (Contains-head file []) (codes "discover") discovered (AnswersRules question file) refl
    (of_rules file question)
of_command looks r (form.discover_all file) =
    after_headed (file ∷ []) r file (Contains-head file []) (codes "discover") wholly_discovered FindsAllRules refl
    (λ headed all. all_rules_refuse (file ∷ []) headed)
of_command looks r (form.discover_references files) =
    after_headed_files files r files (λ file given. given) (FindsReferences files) (references_refuse files files)
of_command looks r (form.check_references file own other others) =
    let names = file ∷ other ∷ [] in
    after_headed names r file (Contains-head file (other ∷ [])) (codes "discover") discovered
    (λ rows. WithFile headed_file r other (λ more. ChecksReferences rows own more others)) refl
    (λ rows all.
    after_headed names r other (Contains-later file (other ∷ []) other (Contains-head other [])) (codes "discover") discovered
    (λ more. ChecksReferences rows own more others) refl (λ more also. check_references_refuses names rows own more others))
of_command looks r (form.import_csv file) =
    after_headed (file ∷ []) r file (Contains-head file []) (codes "import") imported ImportsColumns refl
    (λ headed all. columns_refuse (file ∷ []) headed)
of_command looks r (form.import_sql dialect file table) =
    after_sql (file ∷ []) r file (Contains-head file []) (ImportsTable dialect table file)
    (import_refuses (file ∷ []) file (Contains-head file []) dialect table)
of_command looks r (form.sample persons) = λ response found. sample_refuses [] persons response found.1
of_command looks r form.help = says_yes [] _
of_command looks r form.version = says_yes [] _

-- ---- words
of_form : (looks : Looks) (r : Reading) (said : Option CommandForm) (response : ResponseValue)
    → MatchOption said (Says Refused unknown_words_text response) (λ command. Performs looks r command response)
    → response.status ≡ Refused → IsRefusal (option_map_or names_of_command said []) response.text
of_form looks r None response says refused = says_plain [] (codes "the words form no command") refl response says refused
of_form looks r (Some command) response performs refused = of_command looks r command response performs refused

pub words_refuse : (looks : Looks) (r : Reading) (words : List (List ℕ)) (response : ResponseValue) → Answers looks r words response
    → response.status ≡ Refused → IsRefusal (names_of_words words) response.text
words_refuse looks r words response answered refused = of_form looks r (form_of words) response answered refused
