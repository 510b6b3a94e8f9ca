-- What the queries of `sql check` tell of a relation: for the laws of these queries, and for the script
-- (`sql_scripts`).
use Rattle.std.specs.Prelude.{◌≡◌, ◌↔◌, ℕ, ◌<◌, true, false, Option, Some, List, [], All, Contains, MatchOption, ⊤, codes}
use Rattle.schema_model.specs.declared.column_type.ColumnType.TheVariants.{Integer}
use Rattle.schema_model.specs.Schemas.{Schema}
use Rattle.dep_model.specs.Dependencies.{Dependency, Obeys}
use Rattle.schema_model.specs.Integers.{IsIntegerText}
use Rattle.schema_model.specs.Schemas.{width_of, LegalFor}
use Rattle.dep_model.specs.Tuples.{Tuple, Relation, value_at}
use Rattle.sql_syntax.specs.Syntax.{Query}
use Rattle.sql_check.specs.Columns.{type_at, column_at}
use Rattle.sql_check.specs.Checks.{required_of, required_query, integer_query, rules_of, check_query}
use Rattle.sql_evaluation.specs.Cells.{Cell, missing, text, number, is_none}
use Rattle.sql_evaluation.specs.Evaluation.{Rows, Engine, evaluate}

-- a query ends without an error, and gives no row exactly where this is so
pub record GivesNoRowWhere (e : Engine) (q : Query) (P : Type 0) : Type 0 where
  pub result : Rows
  pub evaluates : evaluate e q ≡ Some result
  pub exact : (result.rows ≡ []) ↔ P

-- it ends without an error and gives no row
abbrev pub GivesNoRow : Engine → Query → Type 0
GivesNoRow e q = (result : Rows) × (evaluate e q ≡ Some result) × (result.rows ≡ [])

-- a query that may not be there tells whether this is so; where it is not there, this is so
abbrev pub Tells : Engine → Option Query → Type 0 → Type 0
Tells e found P = MatchOption found P (λ q. GivesNoRowWhere e q P)

abbrev pub ShowsNothing : Engine → Option Query → Type 0
ShowsNothing e found = MatchOption found ⊤ (λ q. GivesNoRow e q)

-- ---- values
-- no value is missing of an attribute of which none may be
abbrev pub NoneMissing : Schema → (ℕ → List ℕ → Cell) → Relation → Type 0
NoneMissing s cell r =
    (k : ℕ) → required_of s k ≡ true → (t : Tuple) → Contains r t → is_none (cell k (value_at t k)) ≡ false

-- what stands in a column is an integer or the text of one, where it is not missing
abbrev pub IsIntegerCell : Cell → Type 0
IsIntegerCell missing = ⊤
IsIntegerCell (text t) = IsIntegerText t
IsIntegerCell (number n) = ⊤

abbrev pub AreIntegers : (ℕ → List ℕ → Cell) → Relation → ℕ → Type 0
AreIntegers cell r k = (t : Tuple) → Contains r t → IsIntegerCell (cell k (value_at t k))

-- the query of an attribute ends without an error and gives no row
abbrev pub ShowsIntegers : Engine → Schema → List ℕ → ℕ → Type 0
ShowsIntegers e s table k = GivesNoRow e (integer_query table (column_at s (codes "r") k))

-- ---- dependencies
-- the query of the dependency of a line says whether a relation obeys it
abbrev pub TellsDependency : Engine → Schema → List ℕ → Relation → ℕ → Dependency → Type 0
TellsDependency e s table r line d = Tells e (check_query s table line d) (Obeys (width_of s) d r)

abbrev pub TellsDependencies : Engine → Schema → List ℕ → Relation → Type 0
TellsDependencies e s table r = All (λ rule. TellsDependency e s table r rule.0 rule.1) (rules_of s)

-- no query of a dependency gives a row, and none ends with an error
abbrev pub NoBreachShown : Engine → Schema → List ℕ → Type 0
NoBreachShown e s table = All (λ rule. ShowsNothing e (check_query s table rule.0 rule.1)) (rules_of s)

-- ---- all of them
-- the rules of a schema hold: no value is missing that may not be, the integers are integers, and the
-- relation is legal
pub record RulesHold (s : Schema) (cell : ℕ → List ℕ → Cell) (r : Relation) : Type 0 where
  pub none_missing : NoneMissing s cell r
  pub integers : (k : ℕ) → k < width_of s → type_at s k ≡ Integer → AreIntegers cell r k
  pub legal : LegalFor s r

-- no query gives a row, and none ends with an error
pub record NothingShown (e : Engine) (s : Schema) (table : List ℕ) : Type 0 where
  pub none_missing : ShowsNothing e (required_query s table)
  pub integers : (k : ℕ) → k < width_of s → type_at s k ≡ Integer → ShowsIntegers e s table k
  pub legal : NoBreachShown e s table
