-- Rows, as tables for the destinations: for `migrate` and `sample`.
use Rattle.std.specs.Prelude.{◌≡◌, ℕ, false, List, [], ◌++◌, map, codes, length, All}
use Rattle.std.specs.Fmt.{decimal}
use Rattle.std.specs.List.{flat_map}
use Rattle.attr_sets.specs.Attributes.{Attributes}
use Rattle.csv_migrate.specs.Migration.{tables_of_migration, JoinIs, ReadsBack}
use Rattle.dep_model.specs.Plans.{schemes_of}
use Rattle.optional_tables.specs.Homes.{is_optional}
use Rattle.optional_tables.specs.LookUps.{CanBeReadBack, schemes_of_tables}
use Rattle.optional_tables.specs.declared.keyed.KeyedScheme.{KeyedScheme}
use Rattle.schema_model.specs.Schemas.{names_of, naming_of, nullable_of, width_of, theory_of}
use Rattle.schema_model.specs.declared.naming.Naming.{Naming}
use Rattle.schema_model.specs.declared.naming.Naming.TheVariants.{Bare}
use Rattle.schema_model.specs.Schemas.{Schema}
use Rattle.dep_model.specs.Tuples.{Relation}
use Rattle.dep_model.specs.declared.form.Form.TheVariants.{Fourth}
use Rattle.table_names.specs.TableNames.{GivenNames}
use Rattle.sample_rows.specs.Sample.{sample_names, sample_theory, sample_relation}
use Rattle.schema_printer.specs.Printing.{words_text}
use Rattle.schema_printer.specs.Spelling.{spelling}
use Rattle.named_tables.specs.Tables.{TableValue}
use Rattle.desk_responses.specs.ResponseValues.{Allowed, RespondsWithTables}
use Rattle.desk_designs.specs.Decompositions.{WithPlanInForm}
use Rattle.desk_designs.specs.Joins.{WithoutLoss}
use Rattle.desk_tables.specs.Legality.{WithLegal}
use Rattle.desk_tables.specs.Tidiness.{IsKeyedDesign, WithTidy}
use Rattle.desk_texts.specs.Texts.{line}

-- ---- texts
-- a table: its name, how many rows it has, and its columns
abbrev pub table_line : Naming → TableValue → List ℕ
table_line naming table = line (table.name ++ codes " " ++ decimal (length table.rows) ++ codes " rows:"
    ++ words_text (map (spelling naming) table.columns))

-- how many rows were read, and the tables that they became
abbrev pub migrated_text : Naming → Relation → List TableValue → List ℕ
migrated_text naming rows tables =
    line (codes "read " ++ decimal (length rows) ++ codes " rows") ++ flat_map (table_line naming) tables

-- ---- answers
-- the tables of a plan, in the order of a design and with the names that are given in it, hold the ordered
-- projections of the rows that miss no value of their keys; where they can be read back, exactly the rows are, and
-- where each row has its own in each table, this is their natural join
pub record AreTablesOf (schema : Schema) (names : GivenNames) (plan : List Attributes) (rows : Relation)
    (tables : List TableValue) : Type 0 where
  pub design : List KeyedScheme
  pub keyed : IsKeyedDesign schema plan design
  pub projections : tables ≡ tables_of_migration schema names design rows
  pub reads_back : CanBeReadBack (width_of schema) (theory_of schema) (nullable_of schema) design
      → ReadsBack (width_of schema) (nullable_of schema) design tables rows
  pub joins : All (λ table. is_optional (nullable_of schema) table ≡ false) design
      → JoinIs (width_of schema) (schemes_of_tables design) tables rows

-- yes, with the tables of a plan, which the destinations are given
abbrev pub GivesTables : Schema → GivenNames → List Attributes → Relation → Allowed
GivesTables schema names plan rows response =
    (tables : List TableValue) × AreTablesOf schema names plan rows tables
    × RespondsWithTables (migrated_text (naming_of schema) rows tables) tables response

-- legal rows as tables, where no table loses a value
abbrev pub MigratesRows : Schema → GivenNames → List Attributes → Relation → Allowed
MigratesRows schema names plan rows =
    WithLegal schema rows (WithTidy schema plan rows (GivesTables schema names plan rows))

-- rows as tables of a plan, where it loses nothing
abbrev pub MigratesPlan : Schema → GivenNames → List Attributes → Relation → Allowed
MigratesPlan schema names plan rows = WithoutLoss schema plan (MigratesRows schema names plan rows)

-- the schema of the sample, which is one of bare names
pub record IsSampleSchema (schema : Schema) : Type 0 where
  pub bare : naming_of schema ≡ Bare
  pub names : names_of schema ≡ sample_names
  pub theory : theory_of schema ≡ sample_theory

-- the rows of so many invented persons, as tables in fourth normal form
abbrev pub Samples : ℕ → Allowed
Samples persons response =
    (schema : Schema) × IsSampleSchema schema
    × WithPlanInForm schema Fourth
    (λ plan. MigratesRows schema [] (schemes_of plan) (sample_relation persons)) response
