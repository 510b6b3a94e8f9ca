-- What an engine has after a run of the script of `sql migrate` that ended without an error: for the laws of the
-- script, and for the script itself (`sql_scripts`).
use Rattle.std.specs.Prelude.{◌≡◌, ℕ, Bool, false, not, ◌&&◌, if◌then◌else◌, Option, Some, None}
use Rattle.std.specs.Prelude.{List, map, filter, Contains}
use Rattle.std.specs.List.{list_all}
use Rattle.attr_sets.specs.Attributes.{Attributes}
use Rattle.attr_sets.specs.Sets.{attributes}
use Rattle.schema_model.specs.Schemas.{Schema}
use Rattle.schema_model.specs.Columns.{is_plain_type}
use Rattle.dep_model.specs.Projections.{members_below}
use Rattle.schema_model.specs.Schemas.{width_of, universe_of, nullable_of}
use Rattle.dep_model.specs.Tuples.{Tuple, Relation, value_at}
use Rattle.optional_tables.specs.LookUps.{Missing}
use Rattle.schema_printer.specs.Printing.{is_integer}
use Rattle.ddl_text.specs.declared.table.TableDesign.{TableDesign}
use Rattle.sql_syntax.specs.Names.{quoted_name}
use Rattle.sql_check.specs.Columns.{type_at}
use Rattle.sql_check_laws.specs.HeldRelations.{compared_cell}
use Rattle.sql_evaluation.specs.Cells.{Cell, integer_of, is_none}
use Rattle.sql_evaluation.specs.Values.{each}
use Rattle.sql_evaluation.specs.Evaluation.{Rows, evaluate}
use Rattle.sql_evaluation.specs.Running.{Held, table, State, Cast, engine_at}
use Rattle.sql_migrate.specs.Script.{copy_name, view_name, test_name, viewed_rows}

-- ---- rows that miss no value of a key
-- which values are missing, as they stand in the user's table: of an attribute of which a value may be missing
abbrev pub missing_cells : Schema → (ℕ → List ℕ → Cell) → Missing
missing_cells s cell k v = nullable_of s k && is_none (cell k v)

-- a tuple misses no value of a key
abbrev pub is_complete : Schema → (ℕ → List ℕ → Cell) → Attributes → Tuple → Bool
is_complete s cell key t = list_all (λ k. not (missing_cells s cell k (value_at t k))) (members_below (width_of s) key)

-- the tuples that are complete for a table of a design
abbrev pub complete_for : Schema → (ℕ → List ℕ → Cell) → TableDesign → Relation → Relation
complete_for s cell design r = filter (is_complete s cell (attributes design.key)) r

-- ---- rows of tables
-- a value as it is copied: a text or an integer by its text, any other value as it is
abbrev pub copied_cell : Schema → (ℕ → List ℕ → Cell) → ℕ → List ℕ → Cell
copied_cell s cell k v = if is_plain_type (type_at s k) then compared_cell cell k v else cell k v

-- a value as a table of the design has it: as it is copied, but in an integer column the integer
abbrev pub entered_cell : Schema → Cast → (ℕ → List ℕ → Cell) → ℕ → List ℕ → Option Cell
entered_cell s cast cell k v =
    if is_integer (type_at s k) then integer_of cast (copied_cell s cell k v) else Some (copied_cell s cell k v)

-- a row has the values of a tuple on a scheme
abbrev pub IsRowOf : Schema → Cast → (ℕ → List ℕ → Cell) → Attributes → Tuple → List Cell → Type 0
IsRowOf s cast cell scheme t row =
    each (λ k. entered_cell s cast cell k (value_at t k)) (members_below (width_of s) scheme) ≡ Some row

-- rows are the projection of a relation on a scheme, as a set
pub record AreProjection (s : Schema) (cast : Cast) (cell : ℕ → List ℕ → Cell) (scheme : Attributes) (r : Relation)
    (rows : List (List Cell)) : Type 0 where
  pub all : (t : Tuple) → Contains r t → (row : List Cell) × Contains rows row × IsRowOf s cast cell scheme t row
  pub no_more : (row : List Cell) → Contains rows row → (t : Tuple) × Contains r t × IsRowOf s cast cell scheme t row

-- a table of a design holds that of the tuples that are complete for it
pub record HoldsProjection (s : Schema) (cast : Cast) (cell : ℕ → List ℕ → Cell) (r : Relation) (state : State)
    (design : TableDesign) : Type 0 where
  pub found : Rows
  pub held : state (quoted_name design.name) ≡ Some (table false found)
  pub projection : AreProjection s cast cell (attributes design.scheme) (complete_for s cell design r) found.rows

-- the values of a tuple, as they are compared
abbrev pub compared_row : Schema → (ℕ → List ℕ → Cell) → Tuple → List Cell
compared_row s cell t = map (λ k. compared_cell cell k (value_at t k)) (members_below (width_of s) (universe_of s))

-- the view has exactly the rows of a relation, as they are compared
pub record ViewHolds (s : Schema) (cast : Cast) (cell : ℕ → List ℕ → Cell) (r : Relation) (state : State) : Type 0 where
  pub found : Rows
  pub evaluates : evaluate (engine_at cast state) (viewed_rows s) ≡ Some found
  pub all : (t : Tuple) → Contains r t → Contains found.rows (compared_row s cell t)
  pub no_more : (row : List Cell) → Contains found.rows row → (t : Tuple) × Contains r t × (compared_row s cell t ≡ row)

-- the tables of a design hold the projections of a relation, and the view on their join holds the relation
pub record HasMoved (s : Schema) (cast : Cast) (cell : ℕ → List ℕ → Cell) (r : Relation) (designs : List TableDesign)
    (state : State) : Type 0 where
  pub tables : (design : TableDesign) → Contains designs design → HoldsProjection s cast cell r state design
  pub view : ViewHolds s cast cell r state

-- what a run leaves under the names that it does not give: what stood there, the user's table with it, and nothing
-- else; the copy and the table of the test are gone
pub record LeavesOthers (designs : List TableDesign) (start last : State) : Type 0 where
  pub kept : (name : List ℕ) (held : Held) → start name ≡ Some held → last name ≡ Some held
  pub nothing_more : (name : List ℕ) → start name ≡ None → (name ≡ view_name → ⊥)
      → ((design : TableDesign) → Contains designs design → name ≡ quoted_name design.name → ⊥) → last name ≡ None
  pub copy_gone : last copy_name ≡ None
  pub test_gone : last test_name ≡ None
