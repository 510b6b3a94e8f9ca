-- When words are answered, as the laws of `complete_tables` say it: normal forms, plans and tables. `Desk` does
-- not cite it.
use Rattle.std.specs.Prelude.{◌≡◌, ◌⊎◌, ◌≤◌, ℕ, true, List, [], ◌∷◌, Ok, Some, codes, All, length}
use Rattle.armstrong_rel.specs.Refusals.{IsFirstMvd, HasTooManyRows, IsTooWideToExhibit}
use Rattle.candidate_search.specs.declared.side.TooManyLeftSides.{TooManyLeftSides}
use Rattle.csv_rows.specs.declared.part.PartialRows.{PartialRows}
use Rattle.dep_model.specs.Projections.{Covers}
use Rattle.schema_model.specs.Schemas.{nullable_of, width_of, theory_of, theory_in, universe_of}
use Rattle.dep_model.specs.Tuples.{Relation}
use Rattle.schema_model.specs.Schemas.{Schema}
use Rattle.headed_rows.specs.Headings.{HeadedRows}
use Rattle.fd_closure.specs.LeftSides.{IsWideScheme}
use Rattle.lexer.specs.Bytes.{number_of}
use Rattle.lexer.specs.Lines.{without_mark}
use Rattle.fd_search.specs.Keys.{HasTooManyKeys}
use Rattle.dep_model.specs.declared.form.Form.{Form}
use Rattle.dep_model.specs.declared.form.Form.TheVariants as forms
use Rattle.table_join.specs.Answers.{IsWithinLimit, tables_from_last}
use Rattle.table_join.specs.LookUps.{AreJoinedAndLookedUp}
use Rattle.table_join.specs.Tables.{tables_of, plan_of_tables}
use Rattle.plan_printer.specs.NamedPlans.{NamedSchemes}
use Rattle.desk_outside.specs.Files.{Files}
use Rattle.near_rules.specs.NearRules.{IsTriedWhole}
use Rattle.desk_discovery.specs.Discoveries.{HasTooManyLeftSides}
use Rattle.optional_tables.specs.declared.keyed.KeyedScheme.{KeyedScheme}
use Rattle.desk_tables.specs.Rejoining.{HaveLookUps, joined_tables, looked_up_tables}
use Rattle.desk_tables.specs.declared.rejoining.TheConstants.{MOST_JOINED_ROWS}
use Rattle.desk_inputs.specs.FileKinds.{AreFiles, IsFile}
use Rattle.desk_inputs.specs.Headed.{headed_file, imported_file, whole_file}
use Rattle.desk_inputs.specs.Sql.{sql_file}
use Rattle.sql_definitions.specs.Wanted.{TableName, wanted_table}
use Rattle.sql_lexemes.specs.declared.dialect.Dialect.TheVariants.{Sqlite, Postgres}
use Rattle.sql_schemas.specs.Texts.{imported_text}
use Rattle.desk_words.specs.Forms.{are_one_to_64}
use Rattle.desk_inputs.specs.Inputs.{schema_file}
use Rattle.desk_designs.specs.Joins.{IsTooLarge}
use Rattle.desk_words.specs.Numbers.{is_count, is_left_bound, is_row_bound}
use Rattle.desk_designs.specs.NormalForms.{form_word, tested_word}
use Rattle.desk_inputs.specs.Plans.{plan_file}
use Rattle.desk_inputs.specs.Readings.{known_files}
use Rattle.desk_inputs.specs.Parts.{part_file}
use Rattle.desk_inputs.specs.Rows.{rows_file}
use Rattle.which_form.specs.declared.forms.TestedForm.{TestedForm}
use Rattle.desk_laws.specs.Completeness.{IsAnswered, HasPlanInForm, NamesNoTable, RequiresAll}

-- `check form` is answered where the schema file means a schema, the plan file a plan, and no scheme of the plan
-- has more attributes than are tested
abbrev pub CheckFormIsAnsweredInForm : Type 0
CheckFormIsAnsweredInForm =
    (form : TestedForm) (files : Files) (name file : List ℕ) (schema : Schema) (plan : NamedSchemes)
    → IsFile schema_file (known_files files) name schema → IsFile (plan_file schema) (known_files files) file plan
    → All (λ scheme. IsWideScheme (theory_of schema) scheme → ⊥) plan.schemes
    → IsAnswered files (codes "check" ∷ codes "form" ∷ tested_word form ∷ name ∷ file ∷ [])

-- `form` is answered where the schema file means a schema that does not have more attributes than are tested, or
-- the plan file a plan of which no scheme has (`all`)
abbrev pub FormIsAnsweredOfAll : Type 0
FormIsAnsweredOfAll =
    (files : Files) (name : List ℕ) (schema : Schema)
    → IsFile schema_file (known_files files) name schema
    → (IsWideScheme (theory_of schema) (universe_of schema) → ⊥)
    → IsAnswered files (codes "form" ∷ name ∷ [])

-- `form` is answered where the schema file means a schema that does not have more attributes than are tested, or
-- the plan file a plan of which no scheme has (`plan`)
abbrev pub FormIsAnsweredOfPlan : Type 0
FormIsAnsweredOfPlan =
    (files : Files) (name file : List ℕ) (schema : Schema) (plan : NamedSchemes)
    → IsFile schema_file (known_files files) name schema → IsFile (plan_file schema) (known_files files) file plan
    → All (λ scheme. IsWideScheme (theory_of schema) scheme → ⊥) plan.schemes
    → IsAnswered files (codes "form" ∷ name ∷ file ∷ [])

-- `synthesize fewest` is answered where the schema file means a schema
abbrev pub SynthesizeFewestIsAnswered : Type 0
SynthesizeFewestIsAnswered =
    (files : Files) (name : List ℕ) (schema : Schema)
    → IsFile schema_file (known_files files) name schema
    → IsAnswered files (codes "synthesize" ∷ codes "fewest" ∷ name ∷ [])

-- `check keeps` is answered where the schema file means a schema and the plan file a plan
abbrev pub CheckKeepsIsAnswered : Type 0
CheckKeepsIsAnswered =
    (files : Files) (name file : List ℕ) (schema : Schema) (plan : NamedSchemes)
    → IsFile schema_file (known_files files) name schema → IsFile (plan_file schema) (known_files files) file plan
    → IsAnswered files (codes "check" ∷ codes "keeps" ∷ name ∷ file ∷ [])

-- `split` is answered where the schema file means a schema, and the splitting meets no limit; at any width it
-- meets none (`bcnf`)
abbrev pub SplitIsAnsweredBcnf : Type 0
SplitIsAnsweredBcnf =
    (files : Files) (name : List ℕ) (schema : Schema)
    → IsFile schema_file (known_files files) name schema → HasPlanInForm schema forms.Bcnf
    → IsAnswered files (codes "split" ∷ codes "bcnf" ∷ name ∷ [])

-- `split` is answered where the schema file means a schema, and the splitting meets no limit; at any width it
-- meets none (`fourth`)
abbrev pub SplitIsAnsweredFourth : Type 0
SplitIsAnsweredFourth =
    (files : Files) (name : List ℕ) (schema : Schema)
    → IsFile schema_file (known_files files) name schema → HasPlanInForm schema forms.Fourth
    → IsAnswered files (codes "split" ∷ codes "4nf" ∷ name ∷ [])

-- `split` is answered where the schema file means a schema, and the splitting meets no limit; at any width it
-- meets none (`wide`)
abbrev pub SplitIsAnsweredWide : Type 0
SplitIsAnsweredWide =
    (files : Files) (name : List ℕ) (schema : Schema)
    → IsFile schema_file (known_files files) name schema
    → IsAnswered files (codes "split" ∷ codes "wide-bcnf" ∷ name ∷ [])

-- `exhibit` is answered where the schema file means a schema without a multivalued dependency that is not too
-- wide, and whose relation has not too many rows
abbrev pub ExhibitIsAnswered : Type 0
ExhibitIsAnswered =
    (files : Files) (name : List ℕ) (schema : Schema)
    → IsFile schema_file (known_files files) name schema
    → ((k : ℕ) → IsFirstMvd (theory_of schema) k → ⊥) → (IsTooWideToExhibit (theory_in schema) → ⊥)
    → (HasTooManyRows (theory_in schema) → ⊥)
    → IsAnswered files (codes "exhibit" ∷ name ∷ [])

-- `ddl` is answered where the schema file means a schema of which no value may be missing, and a plan in the
-- form is found within the limits, or the plan file means a plan whose chase keeps within its limit (`in_form`)
abbrev pub DdlIsAnsweredInForm : Type 0
DdlIsAnsweredInForm =
    (form : Form) (files : Files) (name : List ℕ) (schema : Schema)
    → IsFile schema_file (known_files files) name schema → RequiresAll schema → HasPlanInForm schema form
    → IsAnswered files (codes "ddl" ∷ form_word form ∷ name ∷ [])

-- `ddl` is answered where the schema file means a schema of which no value may be missing, and a plan in the
-- form is found within the limits, or the plan file means a plan whose chase keeps within its limit (`plan`)
abbrev pub DdlIsAnsweredPlan : Type 0
DdlIsAnsweredPlan =
    (files : Files) (name file : List ℕ) (schema : Schema) (plan : NamedSchemes)
    → IsFile schema_file (known_files files) name schema → IsFile (plan_file schema) (known_files files) file plan
    → RequiresAll schema → (IsTooLarge schema plan.schemes → ⊥)
    → IsAnswered files (codes "ddl" ∷ codes "plan" ∷ name ∷ file ∷ [])

-- `migrate` is answered where also the CSV file has rows, and no file that is read has the name of a table's
-- (`in_form`)
abbrev pub MigrateIsAnsweredInForm : Type 0
MigrateIsAnsweredInForm =
    (form : Form) (files : Files) (name file : List ℕ) (schema : Schema) (rows : Relation)
    → IsFile schema_file (known_files files) name schema → IsFile (rows_file schema) (known_files files) file rows
    → NamesNoTable [] name → NamesNoTable [] file → RequiresAll schema → HasPlanInForm schema form
    → IsAnswered files (codes "migrate" ∷ form_word form ∷ name ∷ file ∷ [])

-- `migrate` is answered where also the CSV file has rows, and no file that is read has the name of a table's
-- (`plan`)
abbrev pub MigrateIsAnsweredPlan : Type 0
MigrateIsAnsweredPlan =
    (files : Files) (name planned file : List ℕ) (schema : Schema)
    (plan : NamedSchemes)
    (rows : Relation)
    → IsFile schema_file (known_files files) name schema
    → IsFile (plan_file schema) (known_files files) planned plan
    → IsFile (rows_file schema) (known_files files) file rows
    → NamesNoTable plan.names name → NamesNoTable plan.names planned → NamesNoTable plan.names file
    → RequiresAll schema → (IsTooLarge schema plan.schemes → ⊥)
    → IsAnswered files (codes "migrate" ∷ codes "plan" ∷ name ∷ planned ∷ file ∷ [])

-- splitting a universe of at most 13 attributes meets no limit (`bcnf`)
abbrev pub SmallUniversesAreSplitBcnf : Type 0
SmallUniversesAreSplitBcnf =
    (schema : Schema) → width_of schema ≤ 13 → HasPlanInForm schema forms.Bcnf

-- splitting a universe of at most 13 attributes meets no limit (`fourth`)
abbrev pub SmallUniversesAreSplitFourth : Type 0
SmallUniversesAreSplitFourth =
    (schema : Schema) → width_of schema ≤ 13 → HasPlanInForm schema forms.Fourth

-- `sample` is answered with every number of persons that it takes
abbrev pub SampleIsAnswered : Type 0
SampleIsAnswered =
    (files : Files) (word : List ℕ) → is_count word ≡ true
    → IsAnswered files (codes "sample" ∷ word ∷ [])

-- `discover` is answered where the CSV file has a header that names its columns, and rows under it, and no
-- evidence of the rows has too many candidates for any column; so with a bound on the left sides, and for keys
-- (`law`)
abbrev pub DiscoverIsAnswered : Type 0
DiscoverIsAnswered =
    (files : Files) (file : List ℕ) (headed : HeadedRows) → IsFile headed_file (known_files files) file headed
    → ((refusal : TooManyLeftSides) → HasTooManyLeftSides (length headed.names) headed refusal → ⊥)
    → IsAnswered files (codes "discover" ∷ file ∷ [])

-- `discover` is answered where the CSV file has a header that names its columns, and rows under it, and no
-- evidence of the rows has too many candidates for any column; so with a bound on the left sides, and for keys
-- (`small`)
abbrev pub DiscoverIsAnsweredSmall : Type 0
DiscoverIsAnsweredSmall =
    (files : Files) (word file : List ℕ) (headed : HeadedRows) → is_left_bound word ≡ true
    → IsFile headed_file (known_files files) file headed
    → ((refusal : TooManyLeftSides) → HasTooManyLeftSides (number_of word) headed refusal → ⊥)
    → IsAnswered files (codes "discover" ∷ word ∷ file ∷ [])

-- `discover` is answered where the CSV file has a header that names its columns, and rows under it, and no
-- evidence of the rows has too many candidates for any column; so with a bound on the left sides, and for keys
-- (`keys`)
abbrev pub DiscoverIsAnsweredKeys : Type 0
DiscoverIsAnsweredKeys =
    (files : Files) (file : List ℕ) (headed : HeadedRows)
    → IsFile headed_file (known_files files) file headed
    → (HasTooManyKeys (length headed.names) headed.rows → ⊥)
    → IsAnswered files (codes "discover" ∷ codes "keys" ∷ file ∷ [])

-- `discover near` is answered where the CSV file has a header that names its columns, and rows under it, and for
-- no column too many sets must be tried
abbrev pub DiscoverNearIsAnswered : Type 0
DiscoverNearIsAnswered =
    (files : Files) (limit most file : List ℕ) (headed : HeadedRows) → is_row_bound limit ≡ true
    → is_left_bound most ≡ true → IsFile headed_file (known_files files) file headed
    → IsTriedWhole (length headed.names) (number_of most) (number_of limit) headed.rows
    → IsAnswered files (codes "discover" ∷ codes "near" ∷ limit ∷ most ∷ file ∷ [])

-- `discover all` is answered where the CSV file has a header that names at most ten columns, and at most 100,000
-- rows under it
abbrev pub DiscoverAllIsAnswered : Type 0
DiscoverAllIsAnswered =
    (files : Files) (file : List ℕ) (headed : HeadedRows)
    → IsFile whole_file (known_files files) file headed
    → IsAnswered files (codes "discover" ∷ codes "all" ∷ file ∷ [])

-- `import csv` is answered where the CSV file has a header that names its columns, and rows under it
abbrev pub ImportCsvIsAnswered : Type 0
ImportCsvIsAnswered =
    (files : Files) (file : List ℕ) (headed : HeadedRows)
    → IsFile imported_file (known_files files) file headed
    → IsAnswered files (codes "import" ∷ codes "csv" ∷ file ∷ [])

-- `import sqlite` and `import postgres` are answered where a word wants a table, and the SQL of the file defines
-- it (`sqlite`)
abbrev pub ImportSqlIsAnsweredSqlite : Type 0
ImportSqlIsAnsweredSqlite =
    (files : Files) (file table : List ℕ) (wanted : TableName) (text printed : List ℕ)
    → IsFile sql_file (known_files files) file text → wanted_table table ≡ Some wanted
    → imported_text Sqlite wanted (without_mark text) ≡ Ok printed
    → IsAnswered files (codes "import" ∷ codes "sqlite" ∷ file ∷ table ∷ [])

-- `import sqlite` and `import postgres` are answered where a word wants a table, and the SQL of the file defines
-- it (`postgres`)
abbrev pub ImportSqlIsAnsweredPostgres : Type 0
ImportSqlIsAnsweredPostgres =
    (files : Files) (file table : List ℕ) (wanted : TableName) (text printed : List ℕ)
    → IsFile sql_file (known_files files) file text → wanted_table table ≡ Some wanted
    → imported_text Postgres wanted (without_mark text) ≡ Ok printed
    → IsAnswered files (codes "import" ∷ codes "postgres" ∷ file ∷ table ∷ [])

-- `rejoin` is answered where the schema file means a schema, from one to 64 files are tables, no readable design that
-- has an optional one, each attribute has a column in one of them, and in their own order or from the last the joins of
-- the first tables keep within their limit
abbrev pub RejoinIsAnswered : Type 0
RejoinIsAnswered =
    (files : Files) (name : List ℕ) (names : List (List ℕ)) (schema : Schema)
    (parts : List PartialRows)
    → IsFile schema_file (known_files files) name schema → are_one_to_64 names ≡ true
    → AreFiles (part_file schema) (known_files files) names parts
    → ((keyed : List KeyedScheme) (counts : List ℕ) → HaveLookUps schema (tables_of parts) keyed counts → ⊥)
    → Covers (width_of schema) (plan_of_tables (tables_of parts))
    → IsWithinLimit (width_of schema) MOST_JOINED_ROWS (tables_of parts)
    ⊎ IsWithinLimit (width_of schema) MOST_JOINED_ROWS (tables_from_last (tables_of parts))
    → IsAnswered files (codes "rejoin" ∷ name ∷ names)

-- `rejoin` is answered too where the files are a readable design that has an optional table, each attribute has a
-- column in one of them, and there are rows to which they are joined and looked up within the limit
abbrev pub RejoinIsAnsweredLookingUp : Type 0
RejoinIsAnsweredLookingUp =
    (files : Files) (name : List ℕ) (names : List (List ℕ)) (schema : Schema)
    (parts : List PartialRows) (keyed : List KeyedScheme) (counts : List ℕ) (rows : Relation)
    → IsFile schema_file (known_files files) name schema → are_one_to_64 names ≡ true
    → AreFiles (part_file schema) (known_files files) names parts
    → HaveLookUps schema (tables_of parts) keyed counts
    → Covers (width_of schema) (plan_of_tables (tables_of parts))
    → AreJoinedAndLookedUp (width_of schema) (nullable_of schema) MOST_JOINED_ROWS
    (joined_tables schema (tables_of parts) keyed) (looked_up_tables schema (tables_of parts) keyed counts) rows
    → IsAnswered files (codes "rejoin" ∷ name ∷ names)
