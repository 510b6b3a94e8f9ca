-- The natural join of the tables of files, and what is looked up in those that may lack a row: for `rejoin`.
use Rattle.std.specs.Prelude.{◌≡◌, ◌⊎◌, ℕ, ◌+◌, true, List, ◌++◌, codes}
use Rattle.std.specs.Fmt.{decimal}
use Rattle.std.specs.List.{AllZip, list_any}
use Rattle.attr_sets.specs.Sets.{attributes}
use Rattle.csv_text.specs.Rows.{rows_text}
use Rattle.dep_model.specs.Projections.{Covers}
use Rattle.design_order.specs.Order.{DeterminesSoMany, grouped_below}
use Rattle.optional_tables.specs.Homes.{is_optional}
use Rattle.optional_tables.specs.Order.{always_filled, look_up_order, members_at}
use Rattle.optional_tables.specs.Readable.{IsReadable}
use Rattle.optional_tables.specs.declared.keyed.KeyedScheme.{KeyedScheme}
use Rattle.schema_model.specs.Schemas.{names_of, nullable_of, width_of, theory_of}
use Rattle.dep_model.specs.Tuples.{Relation}
use Rattle.schema_model.specs.Schemas.{Schema}
use Rattle.table_join.specs.declared.refusal.JoinRefusal.{JoinRefusal}
use Rattle.table_join.specs.Answers.{GivesBack, IsNaturalJoin, IsOnceEach, IsOrderedJoin, RefusesJoin}
use Rattle.table_join.specs.LookUps.{AreJoinedAndLookedUp, RefusesLookUps}
use Rattle.table_join.specs.RefusalTexts.{join_reason_text, join_refusal_number}
use Rattle.table_join.specs.Tables.{PartialRelation, plan_of_tables}
use Rattle.desk_tables.specs.Tidiness.{HasPrimaryKey}
use Rattle.desk_tables.specs.declared.rejoining.TheConstants.{MOST_JOINED_ROWS}
use Rattle.desk_responses.specs.declared.status.Status.TheVariants.{Yes, Refused}
use Rattle.desk_responses.specs.ResponseValues.{Allowed, Says}
use Rattle.desk_texts.specs.Texts.{line}
use Rattle.schema_printer.specs.Spelling.{printed_names_of}

-- ---- texts
-- a refusal of the join of files
abbrev pub join_refusal_text : List (List ℕ) → JoinRefusal → List ℕ
join_refusal_text names why =
    line (codes "refused: join " ++ decimal (join_refusal_number why) ++ codes ": "
    ++ join_reason_text names MOST_JOINED_ROWS why)

-- ---- all joined
-- the join of tables, in their own order where it keeps within the limit, else from the last; it is their natural join,
-- each tuple once; of the ordered projections of a legal relation on the schemes of a lossless plan it is that relation
pub record IsJoinOf (schema : Schema) (tables : List PartialRelation) (rows : Relation) : Type 0 where
  pub join : IsOrderedJoin (width_of schema) MOST_JOINED_ROWS tables rows
  pub natural : IsNaturalJoin (width_of schema) tables rows
  pub gives_back : GivesBack (width_of schema) (theory_of schema) tables rows
  pub covered : Covers (width_of schema) (plan_of_tables tables)

-- yes, with the join; refused where an attribute is in no table, or in either order the join of the first tables is too
-- large
abbrev pub JoinsAll : Schema → List PartialRelation → Allowed
JoinsAll schema tables response =
    ((rows : Relation) × IsJoinOf schema tables rows × Says Yes (rows_text (names_of schema) rows) response)
    ⊎ ((why : JoinRefusal) × RefusesJoin (width_of schema) MOST_JOINED_ROWS tables why
    × Says Refused (join_refusal_text (printed_names_of schema) why) response)

-- ---- some looked up
-- a table with its primary key
pub record IsKeyedTable (schema : Schema) (table : PartialRelation) (keyed : KeyedScheme) : Type 0 where
  pub scheme : attributes keyed.scheme ≡ table.scheme
  pub key : HasPrimaryKey schema keyed

-- those beside tables, in the order of the design of these, in which each determines so many attributes
abbrev pub in_order : {X : Type 0} → Schema → List ℕ → List X → List X
in_order schema counts xs = grouped_below (width_of schema + 1) xs counts

-- tables with their keys, whose schemes determine so many attributes, are a readable design that has an optional one
pub record HaveLookUps (schema : Schema) (tables : List PartialRelation) (keyed : List KeyedScheme) (counts : List ℕ)
    : Type 0 where
  pub keys : AllZip (IsKeyedTable schema) tables keyed
  pub determined : AllZip (DeterminesSoMany (width_of schema) (theory_of schema)) (plan_of_tables tables) counts
  pub readable : IsReadable (nullable_of schema) (in_order schema counts keyed)
  pub optional : list_any (is_optional (nullable_of schema)) (in_order schema counts keyed) ≡ true

-- of tables with their keys those that are not optional, in their own order
abbrev pub joined_tables : Schema → List PartialRelation → List KeyedScheme → List PartialRelation
joined_tables schema tables keyed = members_at tables (always_filled (nullable_of schema) keyed)

-- the others, in the order in which they are looked up
abbrev pub looked_up_tables : Schema → List PartialRelation → List KeyedScheme → List ℕ → List PartialRelation
looked_up_tables schema tables keyed counts =
    members_at (in_order schema counts tables) (look_up_order (nullable_of schema) (in_order schema counts keyed))

-- the join of tables in which others are looked up: over all attributes, each tuple once
pub record AreRowsOf (schema : Schema) (tables others : List PartialRelation) (rows : Relation) : Type 0 where
  pub joined : AreJoinedAndLookedUp (width_of schema) (nullable_of schema) MOST_JOINED_ROWS tables others rows
  pub once : IsOnceEach rows
  pub covered : Covers (width_of schema) (plan_of_tables (tables ++ others))

-- yes, with these rows; refused where an attribute is in none of all tables, or there are too many tuples
abbrev pub LooksUp : Schema → List PartialRelation → List PartialRelation → Allowed
LooksUp schema tables others response =
    ((rows : Relation) × AreRowsOf schema tables others rows × Says Yes (rows_text (names_of schema) rows) response)
    ⊎ ((why : JoinRefusal) × RefusesLookUps (width_of schema) (nullable_of schema) MOST_JOINED_ROWS tables others why
    × Says Refused (join_refusal_text (printed_names_of schema) why) response)

-- ---- answers
-- where tables are a readable design that has an optional one, the others are joined and these are looked up; else all are
-- joined
abbrev pub JoinsTables : Schema → List PartialRelation → Allowed
JoinsTables schema tables response =
    ((keyed : List KeyedScheme) × ((counts : List ℕ) × HaveLookUps schema tables keyed counts
    × LooksUp schema (joined_tables schema tables keyed) (looked_up_tables schema tables keyed counts) response))
    ⊎ (((keyed : List KeyedScheme) (counts : List ℕ) → HaveLookUps schema tables keyed counts → ⊥)
    × JoinsAll schema tables response)
