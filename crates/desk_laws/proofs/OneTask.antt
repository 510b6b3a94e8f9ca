-- What is asked of a schema, with the files after it, has one answer.
use Rattle.std.proofs.Common.{ℕ, List, [], ◌∷◌, refl, sym, subst, inl, inr}
use Rattle.cover_accounts.specs.declared.diagnostic.CoverForm.TheVariants.{Canonical, Minimal}
use Rattle.dep_model.specs.Plans.{IsPlan}
use Rattle.schema_model.specs.Schemas.{width_of}
use Rattle.dep_model.specs.Tuples.{Relation}
use Rattle.schema_model.specs.Schemas.{Schema}
use Rattle.plan_printer.specs.NamedPlans.{NamedSchemes}
use Rattle.desk_outside.specs.Files.{Files}
use Rattle.plan_laws.proofs.FolderAnswers.{one_form_into, one_plan_into}
use Rattle.implication_laws.specs.OneAnswer.{AllowsOne}
use Rattle.implication_laws.proofs.OneAnswer.{one_basis_answer, one_canonical_answer, one_certificate_answer, one_cover_answer, one_exhibit_answer, one_goal_stop, one_keys_answer, one_same_answer}
use Rattle.implication_laws.proofs.ExplainedGoals.{explained_twice}
use Rattle.implication_laws.proofs.OneDerivation.{one_derivation_answer}
use Rattle.implication_laws.proofs.OneDecision.{one_decision}
use Rattle.implication_laws.proofs.OneProjection.{one_projection_answer}
use Rattle.implication_laws.proofs.OneReasons.{one_explained_cover, one_explained_keys}
use Rattle.implication_laws.proofs.OneStepsAnswer.{one_closure_answer, one_cover_check, one_key_answer}
use Rattle.implication_laws.proofs.GoalLemmas.{goal_goes, says-status}
use Rattle.implication_laws.proofs.ImplyingLaws.{no_not_yes}
use Rattle.implication_laws.proofs.OnePlanAnswer.{one_plan_answer}
use Rattle.desk_laws.proofs.OneMeasure.{one_kept, one_list_by_row, one_list_of_classes, one_measured, one_of_texts}
use Rattle.plan_laws.proofs.DesignAnswers.{one_check_scripted, one_form_drawn, one_form_scripted, one_form_written, one_measure_scripted, one_plan_drawn, one_plan_scripted, one_plan_written}
use Rattle.plan_laws.proofs.FewestAnswers.{one_explained_fewest, one_fewest}
use Rattle.plan_laws.proofs.FormAnswers.{one_form_of_all, one_list_of_forms}
use Rattle.plan_laws.proofs.FormTables.{one_synthesis}
use Rattle.plan_laws.proofs.PlacedAnswers.{one_form_placed, one_plan_placed}
use Rattle.plan_laws.proofs.ReasonAnswers.{one_explained_split, one_explained_synthesis}
use Rattle.plan_laws.proofs.JoinAnswers.{one_rejoined}
use Rattle.plan_laws.proofs.RowAnswers.{one_rows_answer}
use Rattle.plan_laws.proofs.SplitAnswers.{one_split_answer, one_wide_split_answer}
use Rattle.plan_laws.proofs.UniqueLaws.{one_form, one_join, one_keeping}
use Rattle.desk_cli.specs.Performs.{AnswersPair, AnswersPlan, AnswersRows, AnswersSchema, Does, WithValues}
use Rattle.desk_measures.specs.Measures.{MeasuresRows}
use Rattle.desk_implication.specs.Certificates.{ChecksProof}
use Rattle.desk_implication.specs.Derivations.{ChecksDerivation}
use Rattle.desk_implication.specs.Explanations.{ExplainsImplication}
use Rattle.desk_implication.specs.Implication.{DecidesGoal}
use Rattle.desk_inputs.specs.FileKinds.{WithFile}
use Rattle.desk_inputs.specs.Inputs.{derivation_file, proof_file, schema_file}
use Rattle.desk_inputs.specs.Readings.{known_files}
use Rattle.desk_inputs.specs.Rows.{rows_file}
use Rattle.desk_laws.proofs.OneFile.{one_after_file}
use Rattle.desk_laws.proofs.OneInput.{one_after_parts, one_after_plan, one_after_rows}
use Rattle.desk_laws.proofs.OnePage.{two_pages, two_plan_pages}
use Rattle.desk_laws.proofs.OneText.{derivation_text_once, proof_text_once, schema_once}
use Rattle.desk_laws.specs.OneReading.{IsOneButForProof}
use Rattle.desk_responses.specs.ResponseValues.{ResponseValue}
use Rattle.desk_responses.specs.declared.status.Status.TheVariants.{Yes, No}
use Rattle.desk_tables.specs.Overwriting.{MigratesHere, MigratesPlanHere}
use Rattle.desk_tables.specs.OwnFolders.{HasOneLook, Looks, MigratesInto, MigratesPlanInto}
use Rattle.desk_tables.specs.Rejoining.{JoinsTables}
use Rattle.desk_words.specs.Forms as form
use Rattle.desk_words.specs.Forms.{PairQuestion, PlanQuestion, RowsQuestion, SchemaQuestion, Task}

-- ---- goals
two_goals : (s : Schema) (goal : List ℕ) (one other : ResponseValue) → DecidesGoal s goal one
    → DecidesGoal s goal other → IsOneButForProof s (form.of_schema (form.implies goal)) one other
two_goals s goal one other (inl stops) (inl also) = inl (one_goal_stop s goal one other stops also)
two_goals s goal one other (inl stops) (inr (d, is, rest)) = absurd (goal_goes s goal d one is stops)
two_goals s goal one other (inr (d, is, rest)) (inl stops) = absurd (goal_goes s goal d other is stops)
two_goals s goal one other (inr (d, is, inr (broken, (agreement, shows, counters, says)))) second =
    inl (one_decision s goal d one other is (λ yes. absurd (no_not_yes one yes (says-status No _ one says)))
    (inr (d, is, inr (broken, (agreement, shows, counters, says)))) second)
two_goals s goal one other (inr (d, is, inl found)) (inr (e, also, inr (broken, (agreement, shows, counters, says)))) =
    inl (sym (one_decision s goal e other one also
    (λ yes. absurd (no_not_yes other yes (says-status No _ other says)))
    (inr (e, also, inr (broken, (agreement, shows, counters, says)))) (inr (d, is, inl found))))
two_goals s goal one other (inr (d, is, inl (implied, (proof, proves, chain, direct, says))))
    (inr (e, also, inl (implied', (proof', proves', chain', direct', says')))) =
    inr (inl (record {
      goal = goal;
      both = record {
        dependency = d;
        means = is;
        implied = implied;
        one_says_yes = says-status Yes _ one says;
        other_says_yes = says-status Yes _ other says';
      };
      asks = inl (
        refl,
        λ fixed. one_decision s goal d one other is (λ yes. fixed)
            (inr (d, is, inl (implied, (proof, proves, chain, direct, says))))
            (inr (e, also, inl (implied', (proof', proves', chain', direct', says')))),
      );
    }))

two_explained : (s : Schema) (goal : List ℕ) (one other : ResponseValue) → ExplainsImplication s goal one
    → ExplainsImplication s goal other → IsOneButForProof s (form.of_schema (form.explain_implies goal)) one other
two_explained s goal one other first second = elim (explained_twice s goal one other first second) [
  | inl same ↦ inl same
  | inr both ↦ inr (inl (record { goal = goal; both = both; asks = inr refl }))
]

-- ---- questions
pub one_schema_answer : (question : SchemaQuestion) (s : Schema) (one other : ResponseValue)
    → AnswersSchema s question one → AnswersSchema s question other → IsOneButForProof s (form.of_schema question) one other
unfolding AnswersSchema
one_schema_answer (form.implies goal) s one other first second = two_goals s goal one other first second
one_schema_answer form.cover s one other first second = inl (one_cover_answer s one other first second)
one_schema_answer form.cover_canonical s one other first second = inl (one_canonical_answer s one other first second)
one_schema_answer (form.basis set) s one other first second = inl (one_basis_answer s set one other first second)
one_schema_answer (form.closure set) s one other first second = inl (one_closure_answer s set one other first second)
one_schema_answer (form.project set) s one other first second = inl (one_projection_answer s set one other first second)
one_schema_answer form.keys s one other first second = inl (one_keys_answer s one other first second)
one_schema_answer form.form_of_all s one other first second = inl (one_form_of_all s one other first second)
one_schema_answer (form.check_key set) s one other first second = inl (one_key_answer s set one other first second)
one_schema_answer form.synthesize s one other first second = inl (one_synthesis s one other first second)
one_schema_answer form.synthesize_fewest s one other first second = inl (one_fewest s one other first second)
one_schema_answer (form.split normal) s one other first second = inl (one_split_answer s normal one other first second)
one_schema_answer form.split_wide s one other first second = inl (one_wide_split_answer s one other first second)
one_schema_answer form.exhibit s one other first second = inl (one_exhibit_answer s one other first second)
one_schema_answer (form.explain_implies goal) s one other first second = two_explained s goal one other first second
one_schema_answer form.explain_cover s one other first second = inl (one_explained_cover s one other first second)
one_schema_answer form.explain_keys s one other first second = inl (one_explained_keys s one other first second)
one_schema_answer form.explain_synthesize s one other first second = inl (one_explained_synthesis s one other first second)
one_schema_answer form.explain_fewest s one other first second = inl (one_explained_fewest s one other first second)
one_schema_answer (form.explain_split normal) s one other first second =
    inl (one_explained_split s normal one other first second)
one_schema_answer (form.ddl normal) s one other first second = inl (one_form_written s normal one other first second)
one_schema_answer (form.sql_check name) s one other first second = inl (one_check_scripted s name one other first second)
one_schema_answer (form.sql_measure name) s one other first second = inl (one_measure_scripted s name one other first second)
one_schema_answer (form.sql_migrate normal name) s one other first second =
    inl (one_form_scripted s normal name one other first second)
one_schema_answer (form.draw normal) s one other first second = inl (one_form_drawn s normal one other first second)

pub one_answer_of_plan : (s : Schema) (plan : NamedSchemes) (question : PlanQuestion) → IsPlan (width_of s) plan.schemes
    → AllowsOne (AnswersPlan s plan question)
unfolding AnswersPlan
one_answer_of_plan s plan form.check_join valid one other = one_join s plan.schemes one other
one_answer_of_plan s plan (form.check_form tested) valid one other = one_form s tested plan.schemes one other valid
one_answer_of_plan s plan form.check_keeps valid one other = one_keeping s plan.schemes one other
one_answer_of_plan s plan form.keys_of_plan valid one other = one_plan_answer s plan.schemes one other
one_answer_of_plan s plan form.forms_of_plan valid one other = one_list_of_forms s plan.schemes valid one other
one_answer_of_plan s plan form.ddl_plan valid one other = one_plan_written s plan.names plan.schemes one other
one_answer_of_plan s plan (form.sql_migrate_plan name) valid one other = one_plan_scripted s plan.names plan.schemes name one other
one_answer_of_plan s plan form.draw_plan valid one other = one_plan_drawn s plan.names plan.schemes one other

pub one_answer_of_pair : (s t : Schema) (file other_file : List ℕ) (question : PairQuestion)
    → AllowsOne (AnswersPair s t file other_file question)
unfolding AnswersPair
one_answer_of_pair s t file other_file form.check_same one other = one_same_answer s t file other_file one other
one_answer_of_pair s t file other_file form.check_cover one other = one_cover_check Minimal s t file other_file one other
one_answer_of_pair s t file other_file form.check_cover_canonical one other =
    one_cover_check Canonical s t file other_file one other

pub one_answer_of_rows : (s : Schema) (rows : Relation) (question : RowsQuestion)
    → AllowsOne (AnswersRows s rows question)
unfolding AnswersRows
one_answer_of_rows s rows form.check_rows one other = one_rows_answer s rows one other
one_answer_of_rows s rows form.offences one other = one_list_of_classes s rows one other
one_answer_of_rows s rows form.offences_by_row one other = one_list_by_row s rows one other
one_answer_of_rows s rows form.kept one other = one_kept s rows one other

-- what is asked of rows of whatever values has one answer
one_of_values : (files : Files) (s : Schema) (file : List ℕ) → AllowsOne (WithValues (known_files files) s file (MeasuresRows s))
unfolding WithValues
one_of_values files s file one other (texts, first, found) (others, second, also) =
    one_after_rows files texts file (MeasuresRows s) (λ rows. one_measured s rows) one other found
    (subst (λ (t : Schema). WithFile (rows_file t) (known_files files) file (MeasuresRows s) other)
    (one_of_texts s others texts second first) also)

-- ---- tasks
pub one_task : (looks : Looks) (files : Files) (s : Schema) (task : Task) (one other : ResponseValue) → HasOneLook looks
    → Does looks (known_files files) s task one → Does looks (known_files files) s task other → IsOneButForProof s task one other
unfolding Does
one_task looks files s (form.of_schema question) one other single first second =
    one_schema_answer question s one other first second
one_task looks files s (form.of_plan file question) one other single first second =
    inl (one_after_plan files s file (λ plan. AnswersPlan s plan question)
    (λ plan valid. one_answer_of_plan s plan question valid) one other first second)
one_task looks files s (form.of_rows file question) one other single first second =
    inl (one_after_rows files s file (λ rows. AnswersRows s rows question) (λ rows. one_answer_of_rows s rows question)
    one other first second)
one_task looks files s (form.measure file) one other single first second = inl (one_of_values files s file one other first second)
one_task looks files s (form.migrate own file normal) one other single first second =
    let read = own ∷ file ∷ [] in
    inl (one_after_rows files s file (MigratesHere s normal read) (λ rows. one_form_placed s normal read rows)
    one other first second)
one_task looks files s (form.migrate_plan own planned file) one other single first second =
    let read = own ∷ planned ∷ file ∷ [] in
    inl (one_after_plan files s planned
    (λ plan. WithFile (rows_file s) (known_files files) file (MigratesPlanHere s plan.names plan.schemes read))
    (λ plan valid. one_after_rows files s file (MigratesPlanHere s plan.names plan.schemes read)
    (λ rows. one_plan_placed s plan.names plan.schemes read rows)) one other first second)
one_task looks files s (form.migrate_into file normal name) one other single first second =
    inl (one_after_rows files s file (MigratesInto looks s normal name)
    (λ rows. one_form_into looks s normal name rows single) one other first second)
one_task looks files s (form.migrate_plan_into planned file name) one other single first second =
    inl (one_after_plan files s planned
    (λ plan. WithFile (rows_file s) (known_files files) file (MigratesPlanInto looks s plan.names plan.schemes name))
    (λ plan valid. one_after_rows files s file (MigratesPlanInto looks s plan.names plan.schemes name)
    (λ rows. one_plan_into looks s plan.names plan.schemes name rows single)) one other first second)
one_task looks files s (form.check_proof file goal) one other single first second =
    inl (one_after_file files file (proof_file s) (proof_text_once s) (λ tree. ChecksProof s tree goal)
    (λ tree is. one_certificate_answer s tree goal) one other first second)
one_task looks files s (form.check_derivation file goal) one other single first second =
    inl (one_after_file files file (derivation_file s) (derivation_text_once s) (λ lines. ChecksDerivation s lines goal)
    (λ lines is. one_derivation_answer s lines goal) one other first second)
one_task looks files s (form.of_pair file other_file question) one other single first second =
    inl (one_after_file files other_file schema_file schema_once (λ t. AnswersPair s t file other_file question)
    (λ t is. one_answer_of_pair s t file other_file question) one other first second)
one_task looks files s (form.rejoin names) one other single first second =
    inl (one_after_parts files s names (JoinsTables s) (λ tables. one_rejoined s tables) one other first second)
one_task looks files s (form.report file) one other single first second = two_pages file s one other first second
one_task looks files s (form.report_plan file planned) one other single first second =
    two_plan_pages files file planned s one other first second
