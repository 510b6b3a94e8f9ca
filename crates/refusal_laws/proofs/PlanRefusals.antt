-- The refusals of what is made of a plan: plans in a normal form, tests of plans, designs, scripts and tables.
use Rattle.std.proofs.Common.{◌≡◌, ℕ, true, List, [], ◌∷◌, ◌++◌, None, refl, sym, ap, subst, ◌∙◌, inl, inr}
use Rattle.std.specs.Prelude.{All, Contains, IsTrue, codes, length, slice_index_or}
use Rattle.std.specs.Fmt.{decimal}
use Rattle.std.proofs.lemmas.List.Elements.{All-nil, All-weaker}
use Rattle.attr_sets.specs.Attributes.{Attributes}
use Rattle.attr_sets.specs.declared.set.AttrSet.{AttrSet}
use Rattle.dep_model.specs.Plans.{schemes_of}
use Rattle.dep_model.specs.Tuples.{Relation}
use Rattle.dep_model.specs.declared.form.Form.{Form}
use Rattle.dep_model.specs.declared.form.Form.TheVariants.{Third, Bcnf, Fourth}
use Rattle.which_form.specs.declared.forms.TestedForm.{TestedForm}
use Rattle.dep_model.proofs.ListLemmas.{Contains-head, Contains-later}
use Rattle.schema_model.specs.Names.{IsName, is_bare_name}
use Rattle.schema_model.specs.Schemas.{LegalFor, Schema, names_of, naming_of}
use Rattle.schema_model.proofs.NameLemmas.{bare_name_is_name}
use Rattle.schema_model.proofs.PlainLemmas.{IsPlain, plain_both}
use Rattle.schema_printer.specs.Spelling.{printed_names_of, spelling}
use Rattle.ddl_text.specs.declared.table.TableDesign.{TableDesign}
use Rattle.missing_values.specs.Refusals.{missing_text, name_at, refusal_text}
use Rattle.missing_values.specs.declared.refusal.MissingRefusal.{MissingRefusal}
use Rattle.missing_values.specs.declared.refusal.MissingRefusal.TheVariants.{InKey, InTwo}
use Rattle.sample_rows.specs.Sample.{sample_relation}
use Rattle.sample_rows.proofs.SchemaLemmas.{names_bare}
use Rattle.sql_scripts.specs.Naming.{is_table_name, last_name, met_name}
use Rattle.table_join.specs.declared.refusal.JoinRefusal.{JoinRefusal}
use Rattle.table_join.specs.RefusalTexts.{join_reason_text, join_refusal_number}
use Rattle.table_join.specs.Tables.{PartialRelation}
use Rattle.table_names.specs.TableNames.{GivenNames, is_given}
use Rattle.desk_designs.specs.Decompositions.{FormStops, IsPlanInForm, IsSplitInForm, ShowsPlan, SplitStops, Splits, SplitsWide, WithPlanInForm}
use Rattle.desk_designs.specs.Designs.{AreReadable, MissingStops, WithoutMissing, WritesForm, WritesPlan, WritesSchemes, WritesTables}
use Rattle.desk_designs.specs.Drawings.{DrawsForm, DrawsSchemes, DrawsTables}
use Rattle.desk_designs.specs.Joins.{IsShownLossless, JudgesJoin, LossStops, WithoutLoss, lossless_text}
use Rattle.desk_designs.specs.Keeping.{JudgesKeeping}
use Rattle.desk_designs.specs.NormalForms.{EndsForm, JudgesForm}
use Rattle.desk_designs.specs.SplitReasons.{AreSplitReasons, ExplainsCuts, ExplainsSplit}
use Rattle.desk_designs.specs.Synthesis.{Synthesizes}
use Rattle.desk_designs.specs.SynthesisReasons.{AreSynthesisReasons, ExplainsSynthesis}
use Rattle.desk_scripts.specs.Scripts.{AsksTable, MakesDesign, MakesSchemes, MakesTables, MeasuresTable, MetNameStops, ScriptsCheck, ScriptsMeasure, ScriptsMigration, ScriptsMigrationByPlan, TableNameStops, WithOtherName, WithTableName}
use Rattle.desk_tables.specs.Legality.{JudgesRows, OffenceStops, WithLegal, legal_text}
use Rattle.desk_tables.specs.Migrations.{GivesTables, MigratesPlan, MigratesRows, Samples}
use Rattle.desk_tables.specs.Overwriting.{IsTableFile, KeepsFiles, MigratesHere, MigratesPlanHere, OverStops, written_over_text}
use Rattle.desk_tables.specs.OwnFolders.{FolderStops, InFolder, Looks, MigratesInto, MigratesPlanInto, MigratesRowsInto, MigratesSchemesInto, not_empty_text}
use Rattle.desk_tables.specs.Rejoining.{JoinsTables, join_refusal_text}
use Rattle.desk_tables.specs.Tidiness.{AreTidy, UntidyStops, WithTidy}
use Rattle.desk_tables.specs.declared.rejoining.TheConstants.{MOST_JOINED_ROWS}
use Rattle.desk_responses.specs.ResponseValues.{Allowed, ResponseValue, Says, Unless, With}
use Rattle.desk_responses.specs.declared.status.Status.TheVariants.{Refused, Yes}
use Rattle.refusal_laws.specs.Refusals.{IsRefusal}
use Rattle.refusal_laws.proofs.PlainTexts.{at_position, join_reason_plain, names_plain, numbered_plain, plain_three, spelling_plain}
use Rattle.refusal_laws.proofs.QuestionRefusals.{too_wide}
use Rattle.refusal_laws.proofs.RefusalLemmas.{RefusesSo, explained_refuses, gives_tables, more, named, no_name, refusal, says_no, says_plain, says_refused, says_yes, unless_refuses, with_refuses}
use Rattle.refusal_laws.proofs.TableTexts.{IsPlainIfGiven, design_plain, found_plain}

module _ (names : List (List ℕ)) (s : Schema) (are_names : All IsName (names_of s)) where
  -- ---- plans in a normal form
  split_stops : (form : Form) → RefusesSo names (SplitStops s form)
  split_stops form response (inl (scheme, wide, said)) refused = too_wide names s are_names scheme response said refused
  split_stops form response (inr (many, said)) refused = says_plain names (codes "too many schemes") refl response said refused

  form_stops : (form : Form) → RefusesSo names (FormStops s form)
  form_stops Third response stops refused = absurd stops
  form_stops Bcnf response stops refused = split_stops Bcnf response stops refused
  form_stops Fourth response stops refused = split_stops Fourth response stops refused

  after_form : (form : Form) (rest : List AttrSet → Allowed) → ((plan : List AttrSet) → RefusesSo names (rest plan))
      → RefusesSo names (WithPlanInForm s form rest)
  after_form form rest later =
      with_refuses names (FormStops s form) (IsPlanInForm s form) rest (form_stops form) (λ plan is. later plan)

  plan_shown : (plan : List AttrSet) → RefusesSo names (ShowsPlan s plan)
  plan_shown plan response said refused = says_yes names _ response said refused

  pub split_refuses : (form : Form) → RefusesSo names (Splits s form)
  split_refuses form = after_form form (ShowsPlan s) plan_shown

  pub wide_split_refuses : RefusesSo names (SplitsWide s)
  wide_split_refuses response (plan, is, said) refused = says_yes names _ response said refused

  pub synthesis_refuses : RefusesSo names (Synthesizes s)
  synthesis_refuses response (plan, is, said) refused = says_yes names _ response said refused

  pub explained_synthesis_refuses : RefusesSo names (ExplainsSynthesis s)
  explained_synthesis_refuses = explained_refuses names (AreSynthesisReasons s) (Synthesizes s) synthesis_refuses

  cuts_refuse : (form : Form) → RefusesSo names (ExplainsCuts s form)
  cuts_refuse form =
      explained_refuses names (AreSplitReasons s form) (With (SplitStops s form) (IsSplitInForm s form) (ShowsPlan s))
      (with_refuses names (SplitStops s form) (IsSplitInForm s form) (ShowsPlan s) (split_stops form) (λ plan is. plan_shown plan))

  pub explained_split_refuses : (form : Form) → RefusesSo names (ExplainsSplit s form)
  explained_split_refuses Third response answered refused = explained_synthesis_refuses response answered refused
  explained_split_refuses Bcnf response answered refused = cuts_refuse Bcnf response answered refused
  explained_split_refuses Fourth response answered refused = cuts_refuse Fourth response answered refused

  -- ---- tests of plans
  loss_stops : (plan : List Attributes) → RefusesSo names (LossStops s plan)
  loss_stops plan response (inl (fits, loses, (rows, shows, said))) refused = says_no names _ response said refused
  loss_stops plan response (inr (large, said)) refused = says_plain names (codes "too many tableau rows") refl response said refused

  after_loss : (plan : List Attributes) (rest : Allowed) → RefusesSo names rest → RefusesSo names (WithoutLoss s plan rest)
  after_loss plan rest later = unless_refuses names (LossStops s plan) (IsShownLossless s plan) rest (loss_stops plan) later

  pub join_refuses : (plan : List Attributes) → RefusesSo names (JudgesJoin s plan)
  join_refuses plan = after_loss plan (Says Yes lossless_text) (says_yes names lossless_text)

  form_ends : (form : TestedForm) (scheme : Attributes) → RefusesSo names (EndsForm s form scheme)
  form_ends form scheme response (inl (wide, said)) refused = too_wide names s are_names scheme response said refused
  form_ends form scheme response (inr (narrow, (x, y, chosen, said))) refused = says_no names _ response said refused

  pub form_refuses : (form : TestedForm) (plan : List Attributes) → RefusesSo names (JudgesForm s form plan)
  form_refuses form plan response (inl (passes, said)) refused = says_yes names _ response said refused
  form_refuses form plan response (inr (scheme, first, ends)) refused = form_ends form scheme response ends refused

  pub keeping_refuses : (plan : List Attributes) → RefusesSo names (JudgesKeeping s plan)
  keeping_refuses plan response (inl (keeps, said)) refused = says_yes names _ response said refused
  keeping_refuses plan response (inr (loses, (first, others, are, shown, said))) refused = says_no names _ response said refused

  -- ---- values that may be missing
  front_plain : (a : ℕ) → IsPlain (spelling (naming_of s) (slice_index_or (names_of s) a []) ++ codes " may be missing and is in ")
  front_plain a =
      let name = slice_index_or (names_of s) a [] in
      plain_both (spelling (naming_of s) name) (codes " may be missing and is in ")
      (spelling_plain (naming_of s) name (at_position IsPlain (names_of s) [] refl (names_plain (names_of s) are_names) a)) refl

  missing_refusal : (tables : List TableDesign) → ((k : ℕ) → IsPlain (name_at tables k)) → (why : MissingRefusal)
      → IsRefusal names (refusal_text s tables why)
  unfolding missing_text
  missing_refusal tables each (InKey a k) =
      let front = spelling (naming_of s) (slice_index_or (names_of s) a []) ++ codes " may be missing and is in " in
      let said = front ++ codes "the key of " ++ name_at tables k in
      refusal names said (no_name names said (plain_three front (codes "the key of ") (name_at tables k) (front_plain a) refl (each k)))
  missing_refusal tables each (InTwo a j k) =
      let front = spelling (naming_of s) (slice_index_or (names_of s) a []) ++ codes " may be missing and is in " in
      let said = front ++ name_at tables j ++ codes " and " ++ name_at tables k in
      refusal names said
      (no_name names said
      (plain_three (front ++ name_at tables j) (codes " and ") (name_at tables k)
      (plain_both front (name_at tables j) (front_plain a) (each j)) refl (each k)))

  module _ (given : GivenNames) (all : All IsPlainIfGiven given) (schemes : List Attributes) where
    missing_stops : RefusesSo names (MissingStops s given schemes)
    missing_stops response (tables, design, (why, finds, said)) refused =
        says_refused names (refusal_text s tables why)
        (missing_refusal tables (design_plain s given all schemes tables design) why) response said refused

    after_missing : (rest : Allowed) → RefusesSo names rest → RefusesSo names (WithoutMissing s given schemes rest)
    after_missing rest later =
        unless_refuses names (MissingStops s given schemes) (AreReadable s given schemes) rest missing_stops later

  -- where no names are given
  after_unnamed : (schemes : List Attributes) (rest : Allowed) → RefusesSo names rest → RefusesSo names (WithoutMissing s [] schemes rest)
  after_unnamed schemes rest later = after_missing [] (All-nil IsPlainIfGiven) schemes rest later

  -- ---- designs
  tables_written : (given : GivenNames) (plan : List AttrSet) → RefusesSo names (WritesTables s given plan)
  tables_written given plan response (tables, sound, said) refused = says_yes names _ response said refused

  schemes_written : (given : GivenNames) (schemes : List Attributes) → RefusesSo names (WritesSchemes s given schemes)
  schemes_written given schemes response (plan, same, writes) refused = tables_written given plan response writes refused

  pub form_written : (form : Form) → RefusesSo names (WritesForm s form)
  form_written form =
      after_form form (λ plan. WithoutMissing s [] (schemes_of plan) (WritesTables s [] plan))
      (λ plan. after_unnamed (schemes_of plan) (WritesTables s [] plan) (tables_written [] plan))

  pub plan_written : (given : GivenNames) → All IsPlainIfGiven given → (schemes : List Attributes)
      → RefusesSo names (WritesPlan s given schemes)
  plan_written given all schemes =
      after_missing given all schemes (WithoutLoss s schemes (WritesSchemes s given schemes))
      (after_loss schemes (WritesSchemes s given schemes) (schemes_written given schemes))

  tables_drawn : (given : GivenNames) (plan : List AttrSet) → RefusesSo names (DrawsTables s given plan)
  tables_drawn given plan response (tables, sound, said) refused = says_yes names _ response said refused

  pub form_drawn : (form : Form) → RefusesSo names (DrawsForm s form)
  form_drawn form = after_form form (DrawsTables s []) (tables_drawn [])

  pub plan_drawn : (given : GivenNames) (schemes : List Attributes) → RefusesSo names (DrawsSchemes s given schemes)
  plan_drawn given schemes response (plan, same, draws) refused = tables_drawn given plan response draws refused

  -- ---- scripts
  name_stops : (table : List ℕ) → RefusesSo names (TableNameStops table)
  name_stops table response (other, said) refused = says_plain names (codes "bad table name") refl response said refused

  after_name : (table : List ℕ) (rest : Allowed) → RefusesSo names rest → RefusesSo names (WithTableName table rest)
  after_name table rest later = unless_refuses names (TableNameStops table) (IsTrue (is_table_name table)) rest (name_stops table) later

  met_stops : (given : GivenNames) → All IsPlainIfGiven given → (table : List ℕ) → RefusesSo names (MetNameStops given table)
  met_stops given all table response (met, is, said) refused =
      says_plain names (codes "bad table name " ++ met)
      (plain_both (codes "bad table name ") met refl (subst IsPlainIfGiven is (found_plain (is_given (last_name table)) given all)))
      response said refused

  after_other_name : (given : GivenNames) → All IsPlainIfGiven given → (table : List ℕ) (rest : Allowed) → RefusesSo names rest
      → RefusesSo names (WithOtherName given table rest)
  after_other_name given all table rest later =
      after_name table (Unless (MetNameStops given table) (met_name given table ≡ None) rest)
      (unless_refuses names (MetNameStops given table) (met_name given table ≡ None) rest (met_stops given all table) later)

  table_asked : (table : List ℕ) → RefusesSo names (AsksTable s table)
  table_asked table response (tells, said) refused = says_yes names _ response said refused

  pub check_scripted : (table : List ℕ) → RefusesSo names (ScriptsCheck s table)
  check_scripted table = after_name table (AsksTable s table) (table_asked table)

  table_measured : (table : List ℕ) → RefusesSo names (MeasuresTable s table)
  table_measured table response (counts, said) refused = says_yes names _ response said refused

  pub measure_scripted : (table : List ℕ) → RefusesSo names (ScriptsMeasure s table)
  measure_scripted table = after_name table (MeasuresTable s table) (table_measured table)

  design_made : (table : List ℕ) (tables : List TableDesign) → RefusesSo names (MakesDesign s table tables)
  design_made table tables response (sound, said) refused = says_yes names _ response said refused

  tables_made : (given : GivenNames) (table : List ℕ) (plan : List AttrSet) → RefusesSo names (MakesTables s given table plan)
  tables_made given table plan response (tables, sound, makes) refused = design_made table tables response makes refused

  schemes_made : (given : GivenNames) (table : List ℕ) (schemes : List Attributes) → RefusesSo names (MakesSchemes s given table schemes)
  schemes_made given table schemes response (plan, same, makes) refused = tables_made given table plan response makes refused

  pub form_scripted : (form : Form) (table : List ℕ) → RefusesSo names (ScriptsMigration s form table)
  form_scripted form table =
      let made = λ (plan : List AttrSet). MakesTables s [] table plan in
      after_name table (WithPlanInForm s form (λ plan. WithoutMissing s [] (schemes_of plan) (made plan)))
      (after_form form (λ plan. WithoutMissing s [] (schemes_of plan) (made plan))
      (λ plan. after_unnamed (schemes_of plan) (made plan) (tables_made [] table plan)))

  pub plan_scripted : (given : GivenNames) → All IsPlainIfGiven given → (schemes : List Attributes) (table : List ℕ)
      → RefusesSo names (ScriptsMigrationByPlan s given schemes table)
  plan_scripted given all schemes table =
      let made : Allowed = MakesSchemes s given table schemes in
      after_other_name given all table (WithoutMissing s given schemes (WithoutLoss s schemes made))
      (after_missing given all schemes (WithoutLoss s schemes made) (after_loss schemes made (schemes_made given table schemes)))

  -- ---- tables of rows
  offence_stops : (rows : Relation) → RefusesSo names (OffenceStops s rows)
  offence_stops rows response (breaks, (offences, are, said)) refused = says_no names _ response said refused

  after_legal : (rows : Relation) (rest : Allowed) → RefusesSo names rest → RefusesSo names (WithLegal s rows rest)
  after_legal rows rest later = unless_refuses names (OffenceStops s rows) (LegalFor s rows) rest (offence_stops rows) later

  pub rows_refuse : (rows : Relation) → RefusesSo names (JudgesRows s rows)
  rows_refuse rows = after_legal rows (Says Yes legal_text) (says_yes names legal_text)

  untidy_stops : (plan : List Attributes) (rows : Relation) → RefusesSo names (UntidyStops s plan rows)
  untidy_stops plan rows response (design, keyed, (lost, (found, are, said))) refused = says_no names _ response said refused

  tables_given : (given : GivenNames) (plan : List Attributes) (rows : Relation) → RefusesSo names (GivesTables s given plan rows)
  tables_given given plan rows response (tables, are, said) refused = gives_tables names _ tables response said refused

  rows_migrated : (given : GivenNames) (plan : List Attributes) (rows : Relation) → RefusesSo names (MigratesRows s given plan rows)
  rows_migrated given plan rows =
      after_legal rows (WithTidy s plan rows (GivesTables s given plan rows))
      (unless_refuses names (UntidyStops s plan rows) (AreTidy s plan rows) (GivesTables s given plan rows) (untidy_stops plan rows)
      (tables_given given plan rows))

  plan_migrated : (given : GivenNames) (plan : List Attributes) (rows : Relation) → RefusesSo names (MigratesPlan s given plan rows)
  plan_migrated given plan rows = after_loss plan (MigratesRows s given plan rows) (rows_migrated given plan rows)

  -- files that would be written over
  over_stops : (given : GivenNames) (tables : ℕ) (file : List ℕ) → Contains names file → RefusesSo names (OverStops given tables file)
  over_stops given tables file listed response (is, said) refused =
      says_refused names (written_over_text file)
      (refusal names (file ++ codes " would be written over")
      (more names file (codes " would be written over") (named names [] file refl listed) refl)) response said refused

  kept_files : (given : GivenNames) (tables : ℕ) (files : List (List ℕ)) → ((file : List ℕ) → Contains files file → Contains names file)
      → (rest : Allowed) → RefusesSo names rest → RefusesSo names (KeepsFiles given tables files rest)
  kept_files given tables [] each rest later = later
  kept_files given tables (file ∷ files) each rest later =
      unless_refuses names (OverStops given tables file) (IsTableFile given tables file → ⊥) (KeepsFiles given tables files rest)
      (over_stops given tables file (each file (Contains-head file files)))
      (kept_files given tables files (λ other is. each other (Contains-later file files other is)) rest later)

  pub form_placed : (form : Form) (files : List (List ℕ)) → ((file : List ℕ) → Contains files file → Contains names file)
      → (rows : Relation) → RefusesSo names (MigratesHere s form files rows)
  form_placed form files each rows =
      let migrates = λ (plan : List AttrSet). MigratesRows s [] (schemes_of plan) rows in
      let keeps = λ (plan : List AttrSet). KeepsFiles [] (length (schemes_of plan)) files (migrates plan) in
      after_form form (λ plan. WithoutMissing s [] (schemes_of plan) (keeps plan))
      (λ plan. after_unnamed (schemes_of plan) (keeps plan)
      (kept_files [] (length (schemes_of plan)) files each (migrates plan) (rows_migrated [] (schemes_of plan) rows)))

  pub plan_placed : (given : GivenNames) → All IsPlainIfGiven given → (plan : List Attributes) (files : List (List ℕ))
      → ((file : List ℕ) → Contains files file → Contains names file) → (rows : Relation)
      → RefusesSo names (MigratesPlanHere s given plan files rows)
  plan_placed given all plan files each rows =
      after_missing given all plan (KeepsFiles given (length plan) files (MigratesPlan s given plan rows))
      (kept_files given (length plan) files each (MigratesPlan s given plan rows) (plan_migrated given plan rows))

  -- folders
  folder_stops : (looks : Looks) (folder : List ℕ) → Contains names folder → RefusesSo names (FolderStops looks folder)
  folder_stops looks folder listed response (is, said) refused =
      says_refused names (not_empty_text folder)
      (refusal names (folder ++ codes " is not an empty folder")
      (more names folder (codes " is not an empty folder") (named names [] folder refl listed) refl)) response said refused

  after_folder : (looks : Looks) (folder : List ℕ) → Contains names folder → (rest : Allowed) → RefusesSo names rest
      → RefusesSo names (Unless (FolderStops looks folder) (IsTrue (looks folder true)) rest)
  after_folder looks folder listed rest later =
      unless_refuses names (FolderStops looks folder) (IsTrue (looks folder true)) rest (folder_stops looks folder listed) later

  rows_into : (given : GivenNames) (plan : List AttrSet) (folder : List ℕ) (rows : Relation)
      → RefusesSo names (MigratesRowsInto s given plan folder rows)
  rows_into given plan folder rows response (own, is, (plain, answered, same)) refused =
      subst (λ (r : ResponseValue). IsRefusal names r.text) (sym same)
      (rows_migrated given (schemes_of plan) rows plain answered (sym (ap (λ (r : ResponseValue). r.status) same) ∙ refused))

  schemes_into : (given : GivenNames) (schemes : List Attributes) (folder : List ℕ) (rows : Relation)
      → RefusesSo names (MigratesSchemesInto s given schemes folder rows)
  schemes_into given schemes folder rows response (plan, same, migrates) refused =
      rows_into given plan folder rows response migrates refused

  pub form_into : (looks : Looks) (form : Form) (folder : List ℕ) → Contains names folder → (rows : Relation)
      → RefusesSo names (MigratesInto looks s form folder rows)
  form_into looks form folder listed rows =
      let migrates = λ (plan : List AttrSet). MigratesRowsInto s [] plan folder rows in
      let into = λ (plan : List AttrSet). Unless (FolderStops looks folder) (IsTrue (looks folder true)) (migrates plan) in
      after_form form (λ plan. WithoutMissing s [] (schemes_of plan) (into plan))
      (λ plan. after_unnamed (schemes_of plan) (into plan)
      (after_folder looks folder listed (migrates plan) (rows_into [] plan folder rows)))

  pub plan_into : (looks : Looks) (given : GivenNames) → All IsPlainIfGiven given → (plan : List Attributes) (folder : List ℕ)
      → Contains names folder → (rows : Relation) → RefusesSo names (MigratesPlanInto looks s given plan folder rows)
  plan_into looks given all plan folder listed rows =
      let migrates : Allowed = MigratesSchemesInto s given plan folder rows in
      after_missing given all plan (Unless (FolderStops looks folder) (IsTrue (looks folder true)) (WithoutLoss s plan migrates))
      (after_folder looks folder listed (WithoutLoss s plan migrates) (after_loss plan migrates (schemes_into given plan folder rows)))

  -- tables joined again
  join_refused : (why : JoinRefusal) → RefusesSo names (Says Refused (join_refusal_text (printed_names_of s) why))
  join_refused why response said refused =
      let number = join_refusal_number why in
      let reason = join_reason_text (printed_names_of s) MOST_JOINED_ROWS why in
      says_plain names (codes "join " ++ decimal number ++ codes ": " ++ reason)
      (plain_both (codes "join " ++ decimal number ++ codes ": ") reason (numbered_plain (codes "join ") number (codes ": ") refl refl)
      (join_reason_plain s are_names MOST_JOINED_ROWS why)) response said refused

  pub joined : (tables : List PartialRelation) → RefusesSo names (JoinsTables s tables)
  joined tables response (inl (keyed, (counts, have, inl (rows, is, said)))) refused = says_yes names _ response said refused
  joined tables response (inl (keyed, (counts, have, inr (why, refuses, said)))) refused = join_refused why response said refused
  joined tables response (inr (none, inl (rows, is, said))) refused = says_yes names _ response said refused
  joined tables response (inr (none, inr (why, refuses, said))) refused = join_refused why response said refused

-- the tables of the sample, whose schema has bare names
pub sample_refuses : (names : List (List ℕ)) (persons : ℕ) → RefusesSo names (Samples persons)
sample_refuses names persons response (s, is, made) refused =
    let are_names = All-weaker (λ (name : List ℕ). is_bare_name name ≡ true) IsName bare_name_is_name (names_of s) (names_bare (names_of s) is.names) in
    after_form names s are_names Fourth (λ plan. MigratesRows s [] (schemes_of plan) (sample_relation persons))
    (λ plan. rows_migrated names s are_names [] (schemes_of plan) (sample_relation persons)) response made refused
