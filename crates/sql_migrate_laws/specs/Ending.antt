-- When a run of the script of `sql migrate` ends without an error: for the law of such runs, and for the script
-- itself (`sql_scripts`).
use Rattle.std.specs.Prelude.{◌≡◌, ◌<◌, ℕ, Bool, Some, None, List, length, map, AllPairs, Contains, slice_get}
use Rattle.attr_sets.specs.Attributes.{Attributes, IsSubset}
use Rattle.attr_sets.specs.Sets.{attributes}
use Rattle.optional_tables.specs.LookUps.{IsTidyFor}
use Rattle.optional_tables.specs.Order.{always_filled, look_up_order, members_at, HomesComeFirst}
use Rattle.optional_tables.specs.Readable.{IsReadable}
use Rattle.schema_model.specs.declared.column_type.ColumnType.TheVariants.{Integer}
use Rattle.schema_model.specs.Schemas.{Schema}
use Rattle.dep_model.specs.Projections.{IsLossless}
use Rattle.schema_model.specs.Schemas.{width_of, universe_of, theory_of, nullable_of, LegalFor}
use Rattle.dep_model.specs.Tuples.{Tuple, Relation, value_at}
use Rattle.ddl_text.specs.declared.table.TableDesign.{TableDesign}
use Rattle.ddl_text.specs.Designs.{keyed, known_keys, ReferToEarlier}
use Rattle.ddl_text.specs.Laws.{KeysHold, OtherKeysHold}
use Rattle.sql_syntax.specs.Names.{quoted_name}
use Rattle.sql_check.specs.Columns.{type_at}
use Rattle.sql_check_laws.specs.HeldRelations.{compared_cell, Holds, CastsIntegers}
use Rattle.sql_check_laws.specs.CheckedRules.{NoneMissing, AreIntegers}
use Rattle.sql_evaluation.specs.Cells.{Cell, equal}
use Rattle.sql_evaluation.specs.Running.{State, Cast, Fails, engine_at}
use Rattle.sql_evaluation.specs.Rules.{RefusesBroken}
use Rattle.sql_migrate.specs.Script.{copy_name, view_name, test_name, migration}
use Rattle.sql_migrate_laws.specs.Moved.{missing_cells, copied_cell}

-- ---- a design
-- each optional table of a design is looked up after its home
abbrev pub HomesStandFirst : Schema → List TableDesign → Type 0
HomesStandFirst s designs =
    HomesComeFirst (nullable_of s)
    (members_at (map keyed designs) (always_filled (nullable_of s) (map keyed designs)))
    (members_at (map keyed designs) (look_up_order (nullable_of s) (map keyed designs)))

-- tables that a legal relation fits: references to earlier tables by keys that lie within, keys that hold, and each
-- optional table can be looked up, after its home
pub record FitsRelations (s : Schema) (designs : List TableDesign) : Type 0 where
  pub within : (t : TableDesign) → Contains designs t → IsSubset (attributes t.scheme) (universe_of s)
  pub key_within : (t : TableDesign) → Contains designs t → IsSubset (attributes t.key) (attributes t.scheme)
  pub other_keys_within : (t : TableDesign) → Contains designs t → (key : Attributes)
      → Contains (known_keys t.other_keys) key → IsSubset key (attributes t.scheme)
  pub earlier : ReferToEarlier designs
  pub refers_within : (t other : TableDesign) (j : ℕ) → Contains designs t → Contains t.refs.items j
      → slice_get designs j ≡ Some other → IsSubset (attributes other.key) (attributes t.scheme)
  pub keys_hold : KeysHold s designs
  pub other_keys_hold : OtherKeysHold s designs
  pub readable : IsReadable (nullable_of s) (map keyed designs)
  pub homes_first : HomesStandFirst s designs

-- ---- names
-- two tables have two names
abbrev pub NamesDiffer : TableDesign → TableDesign → Type 0
NamesDiffer t u = quoted_name t.name ≡ quoted_name u.name → ⊥

-- the names that a script gives are free, and differ
pub record AreFree (start : State) (designs : List TableDesign) : Type 0 where
  pub copy : start copy_name ≡ None
  pub view : start view_name ≡ None
  pub test : start test_name ≡ None
  pub each : (t : TableDesign) → Contains designs t → start (quoted_name t.name) ≡ None
  pub not_copy : (t : TableDesign) → Contains designs t → quoted_name t.name ≡ copy_name → ⊥
  pub not_view : (t : TableDesign) → Contains designs t → quoted_name t.name ≡ view_name → ⊥
  pub not_test : (t : TableDesign) → Contains designs t → quoted_name t.name ≡ test_name → ⊥
  pub differ : AllPairs NamesDiffer designs

-- ---- values
-- any two values of a column of the copy can be compared
abbrev pub AreComparable : Schema → (ℕ → List ℕ → Cell) → Relation → Type 0
AreComparable s cell r =
    (k : ℕ) → k < width_of s → (t u : Tuple) → Contains r t → Contains r u
    → (b : Bool) × (equal (copied_cell s cell k (value_at t k)) (copied_cell s cell k (value_at u k)) ≡ Some b)

-- ---- a run
-- an engine holds a legal relation as a table without other columns, in which no value is missing that may not be and
-- the integers are integers; a tuple that is not complete for a table misses all that the table has beside its key; the
-- engine casts integers, and refuses nothing but what breaks a rule of a table; a design without loss fits
pub record IsSoundRun (fails : Fails) (cast : Cast) (s : Schema) (name : List ℕ) (cell : ℕ → List ℕ → Cell)
    (r : Relation) (designs : List TableDesign) (start : State) : Type 0 where
  pub holds : Holds (engine_at cast start) name s cell r
  pub whole : length holds.given.names ≡ width_of s
  pub legal : LegalFor s r
  pub none_missing : NoneMissing s cell r
  pub integers : (k : ℕ) → k < width_of s → type_at s k ≡ Integer → AreIntegers (compared_cell cell) r k
  pub tidy : (design : TableDesign) → Contains designs design → IsTidyFor (missing_cells s cell) r (keyed design)
  pub comparable : AreComparable s cell r
  pub casts : CastsIntegers cast
  pub refuses : RefusesBroken cast (migration s name designs) fails
  pub free : AreFree start designs
  pub fits : FitsRelations s designs
  pub lossless : IsLossless (width_of s) (theory_of s) (map (λ design. attributes design.scheme) designs)
