-- What `ddl` prints is imported: what is read of designs, said of the answers of both commands.
use Rattle.std.proofs.Common.{◌≡◌, ◌<◌, ◌≤◌, ◌∙◌, ◌++◌, ℕ, List, [], ◌∷◌, length, Some, get_or, ◌+◌, inl, inr, refl, sym, ap, subst, arith}
use Rattle.std.proofs.lemmas.List.{length-map, length-take-le}
use Rattle.std.proofs.lemmas.Bool.{cases_Bool, ne_eqb}
use Rattle.std.specs.List.{flat_map}
use Rattle.std.specs.Prelude.{All, codes, filter, not, slice_get}
use Rattle.attr_sets.specs.Attributes.{Attributes}
use Rattle.attr_sets.specs.Sets.{attributes}
use Rattle.attr_sets.specs.declared.set.AttrSet.{AttrSet}
use Rattle.ddl_text.specs.Ddl.{ddl_text}
use Rattle.ddl_text.specs.declared.table.TableDesign.{TableDesign}
use Rattle.dep_model.specs.Plans.{IsPlan, schemes_of}
use Rattle.schema_model.specs.Schemas.{theory_of, width_of}
use Rattle.schema_model.specs.Schemas.{Schema}
use Rattle.implication_laws.proofs.ImplyingLaws.{refused_not_yes, no_not_yes}
use Rattle.design_order.proofs.OrderLemmas.{order-plan}
use Rattle.import_laws.proofs.LawLemmas.{table_imported}
use Rattle.import_laws.specs.PrintedDesigns.{IsPrintedDesign}
use Rattle.import_laws.specs.ReadTables.{named}
use Rattle.plan_printer.specs.NamedPlans.{AreApart, NamedSchemes}
use Rattle.dep_model.specs.declared.form.Form.{Form}
use Rattle.dep_model.specs.declared.form.Form.TheVariants.{Third, Bcnf, Fourth}
use Rattle.plan_grammar.proofs.PlanLaws.{plan_names_apart}
use Rattle.plan_laws.proofs.FormPlans.{form_is_plan}
use Rattle.plan_laws.proofs.NameLaws.{none_given}
use Rattle.plan_laws.proofs.OrderedNames.{stay_apart}
use Rattle.plan_laws.proofs.PlanLengths.{form_length, ordered_length}
use Rattle.plans.specs.declared.bounds.TheConstants.{MOST_SCHEMES}
use Rattle.plan_reader.specs.declared.reading.TheConstants.{MOST_PLAN_BYTES}
use Rattle.plans.proofs.PlanLemmas.{plan_are_schemes}
use Rattle.schema_grammar.proofs.DeclaredNames.{declared_are_names}
use Rattle.schema_grammar.specs.Schemas.{MeansSchema}
use Rattle.schema_grammar.specs.Texts.{declarations_of}
use Rattle.sql_lexemes.specs.declared.dialect.Dialect.{Dialect}
use Rattle.sql_lexemes.specs.declared.dialect.Dialect.TheVariants.{Sqlite, Postgres}
use Rattle.sql_definitions.specs.Wanted.{wanted_table}
use Rattle.sql_schemas.specs.Texts.{imported_text}
use Rattle.table_names.specs.TableNames.{GivenNames, name_of_table, table_name}
use Rattle.table_names.specs.declared.numbered.TheConstants.{MOST_TABLES}
use Rattle.desk_cli.specs.Performs.{Answers}
use Rattle.desk_designs.specs.Decompositions.{FormStops, IsPlanInForm, SplitStops, WithPlanInForm}
use Rattle.desk_designs.specs.Designs.{IsDesignOf, IsSoundDesign, MissingStops, WritesPlan, WritesSchemes, WritesTables}
use Rattle.desk_designs.specs.Joins.{LossStops, WithoutLoss}
use Rattle.desk_designs.specs.NormalForms.{form_word}
use Rattle.desk_imports.specs.Imports.{ImportsTable}
use Rattle.desk_inputs.specs.FileKinds.{FileStops, IsFile, WithFile}
use Rattle.desk_inputs.specs.Inputs.{schema_file}
use Rattle.desk_inputs.specs.Plans.{MeansTables, plan_file}
use Rattle.desk_inputs.specs.Readings.{Reading, known_files}
use Rattle.desk_inputs.specs.Sql.{sql_file}
use Rattle.desk_inputs.specs.declared.sql.TheConstants.{MOST_SQL_BYTES}
use Rattle.desk_outside.specs.Files.{Files, bytes_of_file}
use Rattle.desk_responses.specs.ResponseValues.{ResponseValue}
use Rattle.desk_responses.specs.declared.status.Status.TheVariants.{Yes}
use Rattle.desk_tables.specs.OwnFolders.{Looks}
use Rattle.desk_laws.specs.Imported.{AreImported, FormIsImported, IsAskedByName, PlanIsImported, import_words}
use Rattle.desk_laws.proofs.ImportLaws.{postgres_asks, sql_answer, sqlite_asks}
use Rattle.desk_laws.proofs.NumberedNames.{number_asks}
use Rattle.desk_laws.proofs.OneInput.{tables_plan}
use Rattle.desk_laws.proofs.PlainFronts.{design_unmarked}
use Rattle.desk_laws.proofs.StopLemmas.{file_says, schema_says, status_is}
use Rattle.desk_laws.proofs.TableLaws.{WritesRequired, ddl_asks, ddl_plan_asks}

-- ---- no way to stop says yes
plan_says : (r : Reading) (s : Schema) (name : List ℕ) (response : ResponseValue) → response.status ≡ Yes
    → FileStops (plan_file s) r name response → ⊥
plan_says r s name response says_yes (inl exit) = file_says r name MOST_PLAN_BYTES response says_yes exit
plan_says r s name response says_yes (inr exit) = refused_not_yes response says_yes (status_is response _ exit.2)

split_says : (s : Schema) (form : Form) (response : ResponseValue) → response.status ≡ Yes
    → SplitStops s form response → ⊥
split_says s form response says_yes (inl wide) = refused_not_yes response says_yes (status_is response _ wide.2)
split_says s form response says_yes (inr many) = refused_not_yes response says_yes (status_is response _ many.1)

form_says : (s : Schema) (form : Form) (response : ResponseValue) → response.status ≡ Yes
    → FormStops s form response → ⊥
form_says s Third response says_yes exit = exit
form_says s Bcnf response says_yes exit = split_says s Bcnf response says_yes exit
form_says s Fourth response says_yes exit = split_says s Fourth response says_yes exit

missing_says : (s : Schema) (names : GivenNames) (schemes : List Attributes) (response : ResponseValue)
    → response.status ≡ Yes → MissingStops s names schemes response → ⊥
missing_says s names schemes response says_yes (tables, design, (refusal, finds, says)) =
    refused_not_yes response says_yes (status_is response _ says)

loss_says : (s : Schema) (schemes : List Attributes) (response : ResponseValue) → response.status ≡ Yes
    → LossStops s schemes response → ⊥
loss_says s schemes response says_yes (inl (fits, lossy, (rows, shows, says))) =
    no_not_yes response says_yes (status_is response _ says)
loss_says s schemes response says_yes (inr large) = refused_not_yes response says_yes (status_is response _ large.1)

-- ---- what is imported
import_asks : (files : Files) (dialect : Dialect) (file table : List ℕ) (looks : Looks) (response : ResponseValue)
    → Answers looks (known_files files) (import_words dialect file table) response
    → WithFile sql_file (known_files files) file (ImportsTable dialect table file) response
import_asks files Sqlite file table looks response answered = sqlite_asks files file table looks response answered
import_asks files Postgres file table looks response answered = postgres_asks files file table looks response answered

-- the tables of a sound design of a plan
module _ (s : Schema) (bytes : List ℕ) (means : MeansSchema bytes (declarations_of s)) (names : GivenNames)
    (apart : AreApart names) (plan : List AttrSet) (valid : IsPlan (width_of s) (schemes_of plan))
    (tables : List TableDesign) (sound : IsSoundDesign s names plan tables)
    (few : length tables ≤ MOST_TABLES) where
  design_imported : (looks : Looks) (files : Files) (file : List ℕ) → bytes_of_file files file ≡ Some (ddl_text s tables)
      → length (ddl_text s tables) ≤ MOST_SQL_BYTES → AreImported looks files file s tables
  design_imported looks files file kept short dialect k table response types here by_name answered =
      let ordered = sound.ordered in
      let printed : IsPrintedDesign dialect s names ordered tables = record {
        names = (declared_are_names bytes (declarations_of s) means).each;
        types = types;
        plan = plan_are_schemes (width_of s) ordered
            (order-plan (width_of s) (theory_of s) (schemes_of plan) (schemes_of ordered) sound.order valid);
        design = sound.design;
        apart = apart;
        limit = few;
      } in
      let (text, lines, reads, meaning) = table_imported dialect s names ordered tables k table printed here in
      let is : IsFile sql_file (known_files files) file (ddl_text s tables) =
      record { bytes = ddl_text s tables; content = (kept, short); means = refl } in (
        text,
        lines,
        sql_answer files dialect file table.name (named table.name) (ddl_text s tables) text response is by_name
            (ap (imported_text dialect (named table.name)) (design_unmarked s tables k table here) ∙ reads)
            (import_asks files dialect file table.name looks response answered),
        meaning,
      )

-- of the tables of a plan text there are no more than have names
few : (s : Schema) (text : List ℕ) (p : NamedSchemes) → MeansTables s text p → (plan : List AttrSet)
    → schemes_of plan ≡ p.schemes → (tables : List TableDesign) → IsSoundDesign s p.names plan tables
    → length tables ≤ MOST_TABLES
few s text p means plan same tables sound =
    let read : length p.schemes ≤ MOST_SCHEMES =
    subst (λ (schemes : List Attributes). length schemes ≤ MOST_SCHEMES) (sym means.schemes) means.means.schemes_fit in
    let plan_size = ap (λ (schemes : List Attributes). length schemes) same in
    let ordered_size = length-map sound.ordered attributes in
    omega (
      arith,
      read,
      plan_size,
      ordered_size,
      sound.design.one_each,
      ordered_length (width_of s) (theory_of s) (schemes_of plan) (schemes_of sound.ordered) sound.order,
    )

-- what is printed is kept in a file
abbrev IsKeptInFile : Files → List ℕ → ResponseValue → Type 0
IsKeptInFile files file printed = (bytes_of_file files file ≡ Some printed.text) × (length printed.text ≤ MOST_SQL_BYTES)

kept_as : (files : Files) (file text : List ℕ) (printed : ResponseValue) → printed.text ≡ text → IsKeptInFile files file printed
    → (bytes_of_file files file ≡ Some text) × (length text ≤ MOST_SQL_BYTES)
kept_as files file text printed is kept = subst (λ (t : List ℕ).
    (bytes_of_file files file ≡ Some t) × (length t ≤ MOST_SQL_BYTES)) is kept

-- ---- of a plan
module _ (later : Looks) (before after : Files) (schema planned file : List ℕ) (printed : ResponseValue)
    (says_yes : printed.status ≡ Yes) (kept : IsKeptInFile after file printed) where
  written : (s : Schema) → IsFile schema_file (known_files before) schema s → (p : NamedSchemes)
      → IsFile (plan_file s) (known_files before) planned p
      → WritesSchemes s p.names p.schemes printed → PlanIsImported later before after schema planned file
  written s is p is_plan (plan, same, (tables, sound, says)) =
      let design : IsDesignOf s p.names p.schemes tables = record { plan = plan; same = same; sound = sound } in
      let held = kept_as after file (ddl_text s tables) printed (ap (λ (a : ResponseValue). a.text) says) kept in
      record {
        schema = s;
        declared = is;
        plan = p;
        planned = is_plan;
        tables = tables;
        design = design;
        imported = design_imported s is.bytes is.means p.names
            (stay_apart (width_of s) (theory_of s) is_plan.means.read.schemes is_plan.means.read.names p.names
            is_plan.means.order
            (plan_names_apart _ _ is_plan.bytes is_plan.means.read is_plan.means.means))
            plan
            (subst (λ (schemes : List Attributes). IsPlan (width_of s) schemes) (sym same)
            (tables_plan s is_plan.bytes p is_plan.means))
            tables sound (few s is_plan.bytes p is_plan.means plan same tables sound)
            later after file held.0 held.1;
      }

  after_loss : (s : Schema) → IsFile schema_file (known_files before) schema s → (p : NamedSchemes)
      → IsFile (plan_file s) (known_files before) planned p
      → WithoutLoss s p.schemes (WritesSchemes s p.names p.schemes) printed
      → PlanIsImported later before after schema planned file
  after_loss s is p is_plan (inl stops) = absurd (loss_says s p.schemes printed says_yes stops)
  after_loss s is p is_plan (inr (lossless, writes)) = written s is p is_plan writes

  after_missing : (s : Schema) → IsFile schema_file (known_files before) schema s → (p : NamedSchemes)
      → IsFile (plan_file s) (known_files before) planned p → WritesPlan s p.names p.schemes printed
      → PlanIsImported later before after schema planned file
  after_missing s is p is_plan (inl stops) = absurd (missing_says s p.names p.schemes printed says_yes stops)
  after_missing s is p is_plan (inr (readable, more)) = after_loss s is p is_plan more

  after_plan : (s : Schema) → IsFile schema_file (known_files before) schema s
      → WithFile (plan_file s) (known_files before) planned (λ p. WritesPlan s p.names p.schemes) printed
      → PlanIsImported later before after schema planned file
  after_plan s is (inl stops) = absurd (plan_says (known_files before) s planned printed says_yes stops)
  after_plan s is (inr (p, is_plan, more)) = after_missing s is p is_plan more

  after_schema : WithFile schema_file (known_files before) schema
      (λ s. WithFile (plan_file s) (known_files before) planned (λ p. WritesPlan s p.names p.schemes)) printed
      → PlanIsImported later before after schema planned file
  after_schema (inl stops) = absurd (schema_says (known_files before) schema printed says_yes stops)
  after_schema (inr (s, is, more)) = after_plan s is more

pub plan_imported : (looks later : Looks) (before after : Files) (schema planned file : List ℕ) (printed : ResponseValue)
    → Answers looks (known_files before) (codes "ddl" ∷ codes "plan" ∷ schema ∷ planned ∷ []) printed
    → printed.status ≡ Yes → bytes_of_file after file ≡ Some printed.text → length printed.text ≤ MOST_SQL_BYTES
    → PlanIsImported later before after schema planned file
plan_imported looks later before after schema planned file printed answered says_yes kept short =
    after_schema later before after schema planned file printed says_yes (kept, short)
    (ddl_plan_asks before schema planned looks printed answered)

-- ---- of a normal form
form_few : (s : Schema) (form : Form) (plan : List AttrSet) → IsPlanInForm s form plan → (tables : List TableDesign)
    → IsSoundDesign s [] plan tables → length tables ≤ MOST_TABLES
form_few s form plan in_form tables sound =
    omega (
      arith,
      form_length s form plan in_form,
      length-map plan attributes,
      length-map sound.ordered attributes,
      sound.design.one_each,
      ordered_length (width_of s) (theory_of s) (schemes_of plan) (schemes_of sound.ordered) sound.order,
    )

-- without names that are given, each table has the name of its number
asked_by_name : (s : Schema) (plan : List AttrSet) (tables : List TableDesign) → IsSoundDesign s [] plan tables
    → length tables ≤ MOST_TABLES → All IsAskedByName tables
asked_by_name s plan tables sound few k table low =
    let is = sound.design.each k (omega (arith, low, sound.design.one_each)) table.scheme table in
    let name : (get_or tables k table).name ≡ table_name (k + 1) =
    is.name ∙ ap (name_of_table []) (length-take-le k tables (omega (arith, low))) in
    subst (λ (n : List ℕ). wanted_table n ≡ Some (named n)) (sym name) (number_asks (k + 1) (omega (arith, low, few)))

module _ (later : Looks) (before after : Files) (form : Form) (schema file : List ℕ) (printed : ResponseValue)
    (says_yes : printed.status ≡ Yes) (kept : IsKeptInFile after file printed) where
  form_written : (s : Schema) → IsFile schema_file (known_files before) schema s → (plan : List AttrSet)
      → IsPlanInForm s form plan → WritesTables s [] plan printed
      → FormIsImported later before after form schema file
  form_written s is plan in_form (tables, sound, says) =
      let design : IsDesignOf s [] (schemes_of plan) tables = record { plan = plan; same = refl; sound = sound } in
      let held = kept_as after file (ddl_text s tables) printed (ap (λ (a : ResponseValue). a.text) says) kept in
      record {
        schema = s;
        declared = is;
        plan = plan;
        planned = in_form;
        tables = tables;
        design = sound;
        named = asked_by_name s plan tables sound (form_few s form plan in_form tables sound);
        imported = design_imported s is.bytes is.means [] none_given plan (form_is_plan s form plan in_form) tables
            sound (form_few s form plan in_form tables sound) later after file held.0 held.1;
      }

  form_missing : (s : Schema) → IsFile schema_file (known_files before) schema s → (plan : List AttrSet)
      → IsPlanInForm s form plan → WritesRequired s plan printed → FormIsImported later before after form schema file
  form_missing s is plan in_form (inl stops) = absurd (missing_says s [] (schemes_of plan) printed says_yes stops)
  form_missing s is plan in_form (inr (readable, writes)) = form_written s is plan in_form writes

  form_found : (s : Schema) → IsFile schema_file (known_files before) schema s
      → WithPlanInForm s form (WritesRequired s) printed → FormIsImported later before after form schema file
  form_found s is (inl stops) = absurd (form_says s form printed says_yes stops)
  form_found s is (inr (plan, in_form, more)) = form_missing s is plan in_form more

  form_schema : WithFile schema_file (known_files before) schema (λ s. WithPlanInForm s form (WritesRequired s)) printed
      → FormIsImported later before after form schema file
  form_schema (inl stops) = absurd (schema_says (known_files before) schema printed says_yes stops)
  form_schema (inr (s, is, more)) = form_found s is more

pub form_imported : (form : Form) (looks later : Looks) (before after : Files) (schema file : List ℕ)
    (printed : ResponseValue)
    → Answers looks (known_files before) (codes "ddl" ∷ form_word form ∷ schema ∷ []) printed
    → printed.status ≡ Yes → bytes_of_file after file ≡ Some printed.text → length printed.text ≤ MOST_SQL_BYTES
    → FormIsImported later before after form schema file
form_imported form looks later before after schema file printed answered says_yes kept short =
    form_schema later before after form schema file printed says_yes (kept, short)
    (ddl_asks form before schema looks printed answered)
