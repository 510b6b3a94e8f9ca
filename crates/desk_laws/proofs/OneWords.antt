-- Words have one answer over known files, but for the derivation of a goal that is implied, for a page and for the
-- refusal of a search for rules.
use Rattle.std.proofs.Common.{◌≡◌, ◌≤◌, ◌⊎◌, ℕ, List, Some, None, Option, refl, sym, ap, ◌∙◌, inl, inr, arith}
use Rattle.std.specs.Prelude.{MatchOption}
use Rattle.schema_model.specs.Schemas.{Schema}
use Rattle.desk_outside.specs.Files.{Files}
use Rattle.headed_rows.specs.Headings.{HeadedRows, discovered}
use Rattle.implication_laws.proofs.OneAnswer.{one_near_answer, one_row_keys_answer, one_rules_answer, one_small_answer, one_whole_answer}
use Rattle.plan_laws.proofs.SampleAnswers.{one_sampled}
use Rattle.desk_cli.specs.Performs.{Answers, AnswersRules, Does, Performs}
use Rattle.desk_discovery.specs.AllDiscoveries.{FindsAllRules}
use Rattle.desk_inputs.specs.FileKinds.{IsFile, WithFile}
use Rattle.desk_imports.proofs.LawLemmas.{import_once}
use Rattle.desk_imports.specs.Columns.{ImportsColumns}
use Rattle.desk_inputs.specs.Headed.{headed_file, imported, imported_file, whole_file, wholly_discovered}
use Rattle.desk_inputs.specs.Inputs.{schema_file}
use Rattle.desk_inputs.specs.Readings.{known_files}
use Rattle.desk_laws.proofs.ImportLaws.{one_import_of_sql}
use Rattle.desk_laws.proofs.OneFile.{one_after_file, two_after_file}
use Rattle.desk_laws.proofs.OneInput.{one_after_headed_files}
use Rattle.desk_laws.proofs.OneReferences.{one_checked, one_found}
use Rattle.desk_laws.proofs.OneTask.{one_task}
use Rattle.desk_laws.proofs.OneText.{headed_text_once, schema_once}
use Rattle.desk_references.specs.Checks.{ChecksReferences}
use Rattle.desk_references.specs.Findings.{FindsReferences}
use Rattle.desk_tables.specs.OwnFolders.{HasOneLook, Looks}
use Rattle.desk_laws.specs.OneReading.{AskForAPage, AskForRules, AskWhatIsDerived, BothDerive, BothReport, IsOneButForProof, RefusesSearch}
use Rattle.desk_responses.specs.ResponseValues.{ResponseValue, Says}
use Rattle.desk_responses.specs.declared.status.Status.TheVariants.{Refused}
use Rattle.desk_words.specs.Forms as form
use Rattle.desk_texts.specs.Texts.{unknown_words_text}
use Rattle.desk_words.specs.Forms.{CommandForm, RulesQuestion, Task, form_of}

-- ---- rules of rows
-- two answers over one file
one_of_rules : (question : RulesQuestion) (file : List ℕ) (k : HeadedRows) (one other : ResponseValue)
    → AnswersRules question file k one → AnswersRules question file k other
    → (one ≡ other) ⊎ (RefusesSearch question file k one ⊎ RefusesSearch question file k other)
unfolding AnswersRules
one_of_rules form.minimal_rules file k one other first second = one_rules_answer file k one other first second
one_of_rules (form.small_rules most) file k one other first second = one_small_answer most file k one other first second
one_of_rules form.keys_of_rows file k one other first second = one_row_keys_answer file k one other first second
one_of_rules (form.near_rules limit most) file k one other first second = inl (one_near_answer limit most file k one other first second)

-- ---- commands
-- it is asked of the schema of a file whether it implies a goal, and it does
abbrev IsDerived : Files → CommandForm → ResponseValue → ResponseValue → Type 0
IsDerived files command one other =
    (file : List ℕ) × (task : Task) × (schema : Schema) × (command ≡ form.over_schema file task)
    × IsFile schema_file (known_files files) file schema × BothDerive schema task one other

-- the rules of a file's rows are asked for, and one answer is the refusal of a column
abbrev IsRefusedSearch : Files → CommandForm → ResponseValue → ResponseValue → Type 0
IsRefusedSearch files command one other =
    (file : List ℕ) × (question : RulesQuestion) × (headed : HeadedRows) × (command ≡ form.discover question file)
    × IsFile headed_file (known_files files) file headed
    × (RefusesSearch question file headed one ⊎ RefusesSearch question file headed other)

-- a page is asked for
abbrev IsPaged : CommandForm → ResponseValue → ResponseValue → Type 0
IsPaged command one other =
    (file : List ℕ) × (task : Task) × (command ≡ form.over_schema file task) × BothReport task one other

abbrev IsFree : Files → CommandForm → ResponseValue → ResponseValue → Type 0
IsFree files command one other =
    IsDerived files command one other ⊎ (IsRefusedSearch files command one other ⊎ IsPaged command one other)

after_one_task : (files : Files) (file : List ℕ) (task : Task) (s : Schema) (one other : ResponseValue)
    → IsFile schema_file (known_files files) file s → IsOneButForProof s task one other
    → (one ≡ other) ⊎ IsFree files (form.over_schema file task) one other
after_one_task files file task s one other is (inl same) = inl same
after_one_task files file task s one other is (inr (inl derive)) = inr (inl (file, task, s, refl, is, derive))
after_one_task files file task s one other is (inr (inr report)) = inr (inr (inr (file, task, refl, report)))

after_rules : (files : Files) (question : RulesQuestion) (file : List ℕ) (k : HeadedRows) (one other : ResponseValue)
    → IsFile headed_file (known_files files) file k
    → (one ≡ other) ⊎ (RefusesSearch question file k one ⊎ RefusesSearch question file k other)
    → (one ≡ other) ⊎ IsFree files (form.discover question file) one other
after_rules files question file k one other is (inl same) = inl same
after_rules files question file k one other is (inr refused) = inr (inr (inl (file, question, k, refl, is, refused)))

one_command : (looks : Looks) (files : Files) (command : CommandForm) (one other : ResponseValue) → HasOneLook looks
    → Performs looks (known_files files) command one
    → Performs looks (known_files files) command other → (one ≡ other) ⊎ IsFree files command one other
unfolding Performs
one_command looks files (form.over_schema file task) one other single first second =
    two_after_file files file schema_file schema_once
    (λ one other. (one ≡ other) ⊎ IsFree files (form.over_schema file task) one other)
    (λ s. Does looks (known_files files) s task) (λ one other same. inl same)
    (λ s one other is first second.
    after_one_task files file task s one other is (one_task looks files s task one other single first second))
    one other first second
one_command looks files (form.discover question file) one other single first second =
    two_after_file files file headed_file (headed_text_once discovered)
    (λ one other. (one ≡ other) ⊎ IsFree files (form.discover question file) one other)
    (AnswersRules question file) (λ one other same. inl same)
    (λ headed one other is first second.
    after_rules files question file headed one other is (one_of_rules question file headed one other first second))
    one other first second
one_command looks files (form.discover_all file) one other single first second =
    inl (one_after_file files file whole_file (headed_text_once wholly_discovered) FindsAllRules
    (λ headed is. one_whole_answer headed) one other first second)
one_command looks files (form.discover_references names) one other single first second =
    inl (one_after_headed_files files names (FindsReferences names) (one_found names) one other first second)
one_command looks files (form.check_references file names more others) one other single first second =
    inl (one_after_file files file headed_file (headed_text_once discovered)
    (λ own. WithFile headed_file (known_files files) more (λ read. ChecksReferences own names read others))
    (λ own is. one_after_file files more headed_file (headed_text_once discovered)
    (λ read. ChecksReferences own names read others) (λ read also. one_checked own names read others)) one other first second)
one_command looks files (form.import_csv file) one other single first second =
    inl (one_after_file files file imported_file (headed_text_once imported) ImportsColumns
    (λ headed is. import_once headed) one other first second)
one_command looks files (form.import_sql dialect file table) one other single first second =
    inl (one_import_of_sql files dialect file table one other first second)
one_command looks files (form.sample persons) one other single first second =
    let few = first.0 in inl (one_sampled persons (omega (arith, few)) one other first.1 second.1)
one_command looks files form.help one other single first second = inl (first ∙ sym second)
one_command looks files form.version one other single first second = inl (first ∙ sym second)

-- ---- words
one_of : (looks : Looks) (files : Files) (said : Option CommandForm) (one other : ResponseValue) → HasOneLook looks
    → MatchOption said (Says Refused unknown_words_text one) (λ command. Performs looks (known_files files) command one)
    → MatchOption said (Says Refused unknown_words_text other) (λ command. Performs looks (known_files files) command other)
    → (one ≡ other) ⊎ ((command : CommandForm) × (said ≡ Some command) × IsFree files command one other)
one_of looks files None one other single first second = inl (first ∙ sym second)
one_of looks files (Some command) one other single first second =
    elim (one_command looks files command one other single first second) [
      | inl same ↦ inl same
      | inr free ↦ inr (command, refl, free)
    ]

abbrev IsOneOfWords : Files → List (List ℕ) → ResponseValue → ResponseValue → Type 0
IsOneOfWords files words one other =
    (one ≡ other)
    ⊎ (AskWhatIsDerived files words one other ⊎ (AskForAPage words one other ⊎ AskForRules files words one other))

asked : (files : Files) (words : List (List ℕ)) (one other : ResponseValue)
    → (one ≡ other) ⊎ ((command : CommandForm) × (form_of words ≡ Some command) × IsFree files command one other)
    → IsOneOfWords files words one other
asked files words one other (inl same) = inl same
asked files words one other (inr (command, forms, (inl (file, task, s, is, read, derive)))) =
    inr (inl (record {
      file = file;
      task = task;
      forms = forms ∙ ap (λ (c : CommandForm). Some c) is;
      schema = s;
      read = read;
      derive = derive;
    }))
asked files words one other (inr (command, forms, (inr (inl (file, question, headed, is, read, refused))))) =
    inr (inr (inr (record {
      file = file;
      question = question;
      forms = forms ∙ ap (λ (c : CommandForm). Some c) is;
      headed = headed;
      read = read;
      refused = refused;
    })))
asked files words one other (inr (command, forms, (inr (inr (file, task, is, report))))) =
    inr (inr (inl (record {
      file = file;
      task = task;
      forms = forms ∙ ap (λ (c : CommandForm). Some c) is;
      reports = report;
    })))

pub one_answer : (looks : Looks) (files : Files) (words : List (List ℕ)) (one other : ResponseValue) → HasOneLook looks
    → Answers looks (known_files files) words one → Answers looks (known_files files) words other
    → IsOneOfWords files words one other
one_answer looks files words one other single first second =
    asked files words one other (one_of looks files (form_of words) one other single first second)
