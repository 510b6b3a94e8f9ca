-- The tables of a migration joined again: for the laws of `rejoined`. `Desk` does not cite it.
use Rattle.std.specs.Prelude.{◌≡◌, ◌⊎◌, ◌↔◌, ℕ, false, List, All, Contains, IsPermutation}
use Rattle.attr_sets.specs.Attributes.{Attributes}
use Rattle.csv_migrate.specs.Migration.{relations_of}
use Rattle.csv_text.specs.Rows.{rows_text}
use Rattle.optional_tables.specs.Homes.{is_optional}
use Rattle.optional_tables.specs.declared.keyed.KeyedScheme.{KeyedScheme}
use Rattle.schema_model.specs.Schemas.{names_of, nullable_of, width_of, theory_of}
use Rattle.dep_model.specs.Tuples.{Relation, SameRelation}
use Rattle.schema_model.specs.Schemas.{Schema}
use Rattle.design_order.specs.Order.{IsInDesignOrder}
use Rattle.named_tables.specs.Tables.{TableValue}
use Rattle.schema_printer.specs.Spelling.{printed_names_of}
use Rattle.table_join.specs.Answers.{IsOnceEach}
use Rattle.table_join.specs.Tables.{PartialRelation, plan_of_tables, rows_of_tables}
use Rattle.table_join.specs.declared.refusal.JoinRefusal.TheVariants.{TooManyRows}
use Rattle.desk_responses.specs.declared.status.Status.TheVariants.{Yes, Refused}
use Rattle.desk_responses.specs.ResponseValues.{ResponseValue, Says}
use Rattle.desk_tables.specs.Rejoining.{JoinsTables, join_refusal_text}
use Rattle.desk_tables.specs.Tidiness.{IsKeyedDesign}

-- no table of a plan is optional
abbrev pub HasNoOptional : Schema → List Attributes → Type 0
HasNoOptional schema plan =
    (design : List KeyedScheme) × IsKeyedDesign schema plan design
    × All (λ table. is_optional (nullable_of schema) table ≡ false) design

-- parts have the rows of the tables of a migration, over the schemes of its plan in the order of a design
pub record HaveRowsOf (schema : Schema) (plan : List Attributes) (tables : List TableValue)
    (parts : List PartialRelation) : Type 0 where
  pub order : IsInDesignOrder (width_of schema) (theory_of schema) plan (plan_of_tables parts)
  pub rows : rows_of_tables parts ≡ relations_of tables

-- parts are those of the tables of a migration in any order, each once or more often
pub record HaveRowsInAnyOrder (schema : Schema) (plan : List Attributes) (tables : List TableValue)
    (parts : List PartialRelation) : Type 0 where
  pub in_order : List PartialRelation
  pub are : HaveRowsOf schema plan tables in_order
  pub same : (part : PartialRelation) → Contains parts part ↔ Contains in_order part

-- parts are those of the tables of a migration in any order, each once
pub record HaveRowsOnceEach (schema : Schema) (plan : List Attributes) (tables : List TableValue)
    (parts : List PartialRelation) : Type 0 where
  pub in_order : List PartialRelation
  pub are : HaveRowsOf schema plan tables in_order
  pub moved : IsPermutation in_order parts

-- an answer says a relation, each of its tuples once, or refuses a join of too many tuples
abbrev pub SaysTheRows : Schema → Relation → ResponseValue → Type 0
SaysTheRows schema rows response =
    ((found : Relation) × SameRelation found rows × IsOnceEach found
    × Says Yes (rows_text (names_of schema) found) response)
    ⊎ ((k : ℕ) × Says Refused (join_refusal_text (printed_names_of schema) (TooManyRows k)) response)

-- so `rejoin` answers of parts
abbrev pub GivesTheRows : Schema → List PartialRelation → Relation → Type 0
GivesTheRows schema parts rows =
    (response : ResponseValue) → JoinsTables schema parts response → SaysTheRows schema rows response
