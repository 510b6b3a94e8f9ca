-- What a command may answer, and the steps of which commands are made: for all of them.
use Rattle.std.specs.Prelude.{◌≡◌, ◌⊎◌, ℕ, List, ◌∷◌, ◌++◌, Option, Some, None, option_map, All}
use Rattle.attr_sets.specs.Attributes.{Attributes}
use Rattle.named_tables.specs.Tables.{TableValue}
use Rattle.desk_responses.specs.declared.status.Status.{Status}
use Rattle.desk_responses.specs.declared.status.Status.TheVariants.{Yes}

-- a folder that tables are to have for themselves: its name, and the statements that make them
pub record OwnFolder : Type 0 where
  pub name : List ℕ
  pub script : List ℕ

-- a status, a text, and tables, if any: for the destinations, or for a folder of their own
pub record ResponseValue : Type 0 where
  pub status : Status
  pub text : List ℕ
  pub tables : Option (List TableValue)
  pub own : Option OwnFolder

-- which answers may be given
abbrev pub Allowed : Type 1
Allowed = ResponseValue → Type 0

-- a status with a text, and no tables
abbrev pub text_only : Status → List ℕ → ResponseValue
text_only s t = record { status = s; text = t; tables = None; own = None }

-- yes with a text, and these tables for the destinations
abbrev pub yes_with_tables : List ℕ → List TableValue → ResponseValue
yes_with_tables t tables = record { status = Yes; text = t; tables = Some tables; own = None }

-- the same answer, where its tables, if it has any, are for a folder of their own
abbrev pub in_own_folder : OwnFolder → ResponseValue → ResponseValue
in_own_folder folder response = record response { own = option_map (λ _. folder) response.tables }

-- just this status with this text
abbrev pub Says : Status → List ℕ → Allowed
Says s t response = response ≡ text_only s t

-- just these tables with this text
abbrev pub RespondsWithTables : List ℕ → List TableValue → Allowed
RespondsWithTables t tables response = response ≡ yes_with_tables t tables

-- a test of a command: it stops, or the test is passed and the rest follows
abbrev pub Unless : Allowed → Type 0 → Allowed → Allowed
Unless stops passed rest response = stops response ⊎ (passed × rest response)

-- a step of a command: it stops, or what is found there goes on
abbrev pub With : {T : Type 0} → Allowed → (T → Type 0) → (T → Allowed) → Allowed
With {T} stops is rest response = stops response ⊎ ((x : T) × is x × rest x response)

-- the first scheme of a plan that does not pass a test
pub record IsFirstFailing (Passes : Attributes → Type 0) (plan : List Attributes) (scheme : Attributes) : Type 0 where
  pub earlier : List Attributes
  pub later : List Attributes
  pub list : plan ≡ earlier ++ scheme ∷ later
  pub passed : All Passes earlier
