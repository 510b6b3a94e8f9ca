-- The SQL of a design defines each table of it: its columns and its keys.
use Rattle.std.proofs.Common.{◌≡◌, ◌<◌, ◌==◌, ℕ, false, IsTrue, AllPairs, List, length, refl, ap, ◌∙◌, arith, Some, Ok}
use Rattle.std.specs.Prelude.{slice_get}
use Rattle.std.proofs.lemmas.Bool.Decides.{nat_tests}
use Rattle.std.proofs.lemmas.List.Elements.{All-weaker}
use Rattle.schema_model.specs.Names.{same_name}
use Rattle.schema_model.specs.Schemas.{types_of}
use Rattle.schema_model.specs.Schemas.{Schema}
use Rattle.ddl_text.specs.Ddl.{ddl_text}
use Rattle.ddl_text.specs.declared.table.TableDesign.{TableDesign}
use Rattle.ddl_pieces.proofs.Statements.{design_created}
use Rattle.ddl_pieces.specs.Pieces.{is_sound_type}
use Rattle.sql_lexemes.specs.declared.dialect.Dialect.{Dialect}
use Rattle.sql_lexemes.specs.Statements.{scan_from, statements_of}
use Rattle.sql_lexemes.specs.declared.piece.Before.TheVariants.{LineStart}
use Rattle.sql_definitions.specs.Definitions.{definition_of, is_there}
use Rattle.sql_definitions.specs.Facts.{Facts, Outcome, StatedColumn, then_read}
use Rattle.import_laws.specs.ReadTables.{StatesTable, named, read_columns, read_keys}
use Rattle.import_laws.specs.StatedTypes.{states_a_type}
use Rattle.import_laws.proofs.StatementLemmas.{statements_read}
use Rattle.import_laws.proofs.TableLemmas.{IsPrinted, IsReadable, known_by, table_leads}
use Rattle.import_laws.proofs.TypeLemmas.{stated_sound}

pub table_defined : (d : Dialect) (s : Schema) (tables : List TableDesign) (k : ℕ) (table : TableDesign) → IsPrinted d s
    → AllPairs (λ a b. same_name a.name b.name ≡ false) tables → slice_get tables k ≡ Some table
    → IsReadable s table
    → 0 < length (read_columns d s table)
    → (f : Facts) × (definition_of d (named table.name) (ddl_text s tables) ≡ Ok f) × StatesTable d s table f
table_defined d s tables k table is apart here readable some =
    let created = design_created d (scan_from LineStart 0) s tables is.names
    (All-weaker (λ column. IsTrue (states_a_type d column)) (λ column. IsTrue (is_sound_type d column))
    (stated_sound d) (types_of s) is.types)
    refl refl in
    let known = known_by (read_columns d s table) (read_keys s table) in
    let (f, read, states) = statements_read d s tables tables
    (statements_of d (ddl_text s tables)) k table known created apart here
    (table_leads d s tables table is readable) some in
    let same : length f.columns ≡ length known.columns = ap (λ (cs : List StatedColumn). length cs) states.columns in
    let any : (length f.columns == 0) ≡ false = grind (arith, nat_tests, same, some) in (
      f,
      ap (λ (o : Outcome). then_read o is_there) read ∙ rw any refl,
      record { found = states.found; columns = states.columns; keys = states.keys },
    )
