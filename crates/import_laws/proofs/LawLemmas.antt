-- The laws of what is read of a design that is printed.
use Rattle.std.proofs.Common.{◌≡◌, ℕ, List, Some, Ok}
use Rattle.std.specs.Prelude.{slice_get}
use Rattle.attr_sets.specs.declared.set.AttrSet.{AttrSet}
use Rattle.schema_model.specs.Schemas.{Schema}
use Rattle.table_names.specs.TableNames.{GivenNames}
use Rattle.ddl_text.specs.Ddl.{ddl_text}
use Rattle.ddl_text.specs.declared.table.TableDesign.{TableDesign}
use Rattle.sql_lexemes.specs.declared.dialect.Dialect.{Dialect}
use Rattle.sql_definitions.specs.Definitions.{definition_of}
use Rattle.sql_definitions.specs.Facts.{Facts}
use Rattle.schema_grammar.specs.Schemas.{MeansSchema}
use Rattle.sql_schemas.specs.Texts.{imported_text}
use Rattle.import_laws.specs.ImportedTables.{imported_table}
use Rattle.import_laws.specs.PrintedDesigns.{IsPrintedDesign}
use Rattle.import_laws.specs.ReadTables.{StatesTable, named}
use Rattle.import_laws.proofs.ApartLemmas.{tables_apart}
use Rattle.import_laws.proofs.DefinitionLemmas.{table_defined}
use Rattle.import_laws.proofs.FitLemmas.{fit_readable, some_columns, table_fits}
use Rattle.import_laws.proofs.ImportedLemmas.{facts_imported}

pub design_defined : (d : Dialect) (s : Schema) (given : GivenNames) (schemes : List AttrSet)
    (tables : List TableDesign)
    (k : ℕ) (table : TableDesign) → IsPrintedDesign d s given schemes tables → slice_get tables k ≡ Some table
    → (f : Facts) × (definition_of d (named table.name) (ddl_text s tables) ≡ Ok f) × StatesTable d s table f
design_defined d s given schemes tables k table is here =
    let fit = table_fits d s given schemes tables k table is here in
    table_defined d s tables k table (record { names = is.names; types = is.types })
    (tables_apart s given schemes tables is.design is.apart is.limit) here (fit_readable s table fit)
    (some_columns d s table fit)

pub table_imported : (d : Dialect) (s : Schema) (given : GivenNames) (schemes : List AttrSet)
    (tables : List TableDesign)
    (k : ℕ) (table : TableDesign) → IsPrintedDesign d s given schemes tables
    → slice_get tables k ≡ Some table
    → (printed : List ℕ) × (lines : List ℕ) × (imported_text d (named table.name) (ddl_text s tables) ≡ Ok printed)
    × MeansSchema printed (imported_table d s table lines)
table_imported d s given schemes tables k table is here =
    let (f, defined, states) = design_defined d s given schemes tables k table is here in
    facts_imported s table (table_fits d s given schemes tables k table is here) d
    (named table.name)
    (ddl_text s tables) f defined states
