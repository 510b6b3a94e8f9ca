-- What is known of a table while its SQL is read, and how reading goes on: for all that reads statements.
use Rattle.std.specs.Prelude.{◌≡◌, ℕ, ◌≤◌, Bool, true, false, nat_lt, Option, Result, Ok, Err, List, [], ◌∷◌, ◌++◌, length, All, AllPairs, IsTrue, if◌then◌else◌}
use Rattle.attr_sets.specs.declared.set.TheConstants.{MOST_ATTRIBUTES}
use Rattle.dep_model.specs.declared.failure.Failure.{Failure}
use Rattle.dep_model.specs.declared.failure.Failure.TheVariants.{Refused, OutOfMemory}
use Rattle.dep_model.specs.declared.theory.TheConstants.{MOST_DEPENDENCIES}
use Rattle.schema_model.specs.Columns.{is_column_type}
use Rattle.schema_model.specs.Names.{IsName, same_name}
use Rattle.schema_model.specs.declared.column_type.ColumnType.{ColumnType}
use Rattle.sql_definitions.specs.declared.definition.KeyKind.{KeyKind}
use Rattle.sql_definitions.specs.declared.refusal.Reason.{Reason}
use Rattle.sql_definitions.specs.declared.refusal.Reason.TheVariants as reason
use Rattle.sql_definitions.specs.declared.refusal.Refusal.{Refusal}

-- a column: its name and type; it says itself that no value is missing
pub record StatedColumn : Type 0 where
  pub name : List ℕ
  pub kind : ColumnType
  pub never_missing : Bool

-- a column of a key: its place, and its name, where it is one of a schema
pub record StatedPart : Type 0 where
  pub place : ℕ
  pub name : Option (List ℕ)

-- what states a key: PRIMARY KEY, UNIQUE, or UNIQUE with NULLS NOT DISTINCT, for which missing values are compared
-- (`KeyKind`); and the columns of a key that is stated
pub record StatedKey : Type 0 where
  pub kind : KeyKind
  pub parts : List StatedPart

-- a statement creates the table; its columns; and the keys that are stated
pub record Facts : Type 0 where
  pub found : Bool
  pub columns : List StatedColumn
  pub keys : List StatedKey

abbrev pub no_facts : Facts
no_facts = record { found = false; columns = []; keys = [] }

abbrev pub with_column : Facts → StatedColumn → Facts
with_column f column = record { found = f.found; columns = f.columns ++ column ∷ []; keys = f.keys }

abbrev pub with_key : Facts → KeyKind → List StatedPart → Facts
with_key f kind parts = record {
  found = f.found;
  columns = f.columns;
  keys = f.keys ++ record { kind = kind; parts = parts } ∷ [];
}

abbrev pub as_found : Facts → Facts
as_found f = record { found = true; columns = f.columns; keys = f.keys }

-- the columns can be those of a schema: not too many, with names, which differ, and types of columns
pub record AreColumns (columns : List StatedColumn) : Type 0 where
  pub within_limit : length columns ≤ MOST_ATTRIBUTES
  pub names : All (λ c. IsName c.name) columns
  pub names_differ : AllPairs (λ a b. same_name a.name b.name ≡ false) columns
  pub types : All (λ c. IsTrue (is_column_type c.kind)) columns

-- what reading comes to: the facts then known, or a refusal
abbrev pub Outcome : Type 0
Outcome = Result Facts Refusal

abbrev pub refused : {T : Type 0} → Reason → ℕ → Result T Refusal
refused reason place = Err (record { reason = reason; place = place })

abbrev pub then_read : {T : Type 0} → Result T Refusal → (T → Outcome) → Outcome
then_read (Err refusal) next = Err refusal
then_read (Ok value) next = next value

-- a key is stated, where there are not too many, by the word at a place
abbrev pub state_key : KeyKind → ℕ → List StatedPart → Facts → Outcome
state_key kind place parts f =
    if nat_lt (length f.keys) MOST_DEPENDENCIES then Ok (with_key f kind parts)
    else refused reason.TooManyDependencies place

-- a call answers with what a definition says, or memory ran out
abbrev pub Fails : {T : Type 0} → Failure Refusal → Result T Refusal → Type 0
Fails (Refused refusal) said = said ≡ Err refusal
Fails OutOfMemory said = Unit {0}
