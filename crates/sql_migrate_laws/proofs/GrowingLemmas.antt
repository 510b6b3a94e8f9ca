-- What a query gives where tables are added to those that there are: the same. And states that keep what was there.
use Rattle.std.proofs.Common.{◌≡◌, ℕ, List, [], ◌∷◌, map, Some, None, Option, refl, sym, ap, ◌∙◌}
use Rattle.std.specs.Prelude.{option_and_then}
use Rattle.schema_model.specs.Schemas.{Schema}
use Rattle.dep_model.specs.Tuples.{Relation}
use Rattle.sql_syntax.specs.Syntax.{Link, by_columns, left_by_columns, crosswise, Query, stored, select, union_all, except, joined, all_columns, one_row}
use Rattle.sql_evaluation.specs.Cells.{Cell}
use Rattle.sql_evaluation.specs.Values.{bytes_of}
use Rattle.sql_evaluation.specs.Evaluation.{Rows, Engine, selected, appended, excepted, joined_by, left_joined_by, columns_of, linked, all_linked, evaluate}
use Rattle.sql_evaluation.specs.Running.{Held, table, view, State, Cast, rows_of_table, rows_found, engine_at}
use Rattle.sql_check_laws.specs.HeldRelations.{Holds}
use Rattle.sql_check_laws.proofs.RowLemmas.{none_is_not_some}
use Rattle.sql_migrate_laws.proofs.StepLemmas.{bind_some, Keeps}

abbrev Tables : Type 0
Tables = List ℕ → Option Rows

abbrev with_tables : Cast → Tables → Engine
with_tables cast tables = record { tables = tables; cast = cast }

-- the second has what the first has
abbrev Within : Tables → Tables → Type 0
Within a b = (name : List ℕ) (rows : Rows) → a name ≡ Some rows → b name ≡ Some rows

-- ---- queries
module _ (cast : Cast) (a b : Tables) (within : Within a b) where
  linked-still : (x : Rows) (l : Link) (y : Rows) → linked (with_tables cast a) x l ≡ Some y → linked (with_tables cast b) x l ≡ Some y
  linked-still x (by_columns name columns) y e =
      let found = bind_some (joined_by (map bytes_of columns) x) (a name) y e in
      ap (option_and_then (joined_by (map bytes_of columns) x)) (within name found.0 found.1) ∙ found.2
  linked-still x (left_by_columns name columns) y e =
      let found = bind_some (left_joined_by (map bytes_of columns) x) (a name) y e in
      ap (option_and_then (left_joined_by (map bytes_of columns) x)) (within name found.0 found.1) ∙ found.2
  linked-still x (crosswise name) y e =
      let found = bind_some (joined_by [] x) (a name) y e in
      ap (option_and_then (joined_by [] x)) (within name found.0 found.1) ∙ found.2

  links-still : (ls : List Link) (x y : Rows) → all_linked (with_tables cast a) ls x ≡ Some y → all_linked (with_tables cast b) ls x ≡ Some y
  links-still [] x y e = e
  links-still (l ∷ ls) x y e =
      let found = bind_some (all_linked (with_tables cast a) ls) (linked (with_tables cast a) x l) y e in
      ap (option_and_then (all_linked (with_tables cast b) ls)) (linked-still x l found.0 found.1) ∙ links-still ls found.0 y found.2

  gives-still : (q : Query) (rows : Rows) → evaluate (with_tables cast a) q ≡ Some rows → evaluate (with_tables cast b) q ≡ Some rows
  gives-still (stored name) rows e = within name rows e
  gives-still (select distinct items source alias clause) rows e =
      let found = bind_some (selected cast distinct items alias clause) (evaluate (with_tables cast a) source) rows e in
      ap (option_and_then (selected cast distinct items alias clause)) (gives-still source found.0 found.1) ∙ found.2
  gives-still (union_all p q) rows e =
      let first = bind_some (λ (x : Rows). option_and_then (appended x) (evaluate (with_tables cast a) q)) (evaluate (with_tables cast a) p) rows e in
      let second = bind_some (appended first.0) (evaluate (with_tables cast a) q) rows first.2 in
      ap (option_and_then (λ (x : Rows). option_and_then (appended x) (evaluate (with_tables cast b) q))) (gives-still p first.0 first.1)
      ∙ ap (option_and_then (appended first.0)) (gives-still q second.0 second.1) ∙ second.2
  gives-still (except p q) rows e =
      let first = bind_some (λ (x : Rows). option_and_then (excepted x) (evaluate (with_tables cast a) q)) (evaluate (with_tables cast a) p) rows e in
      let second = bind_some (excepted first.0) (evaluate (with_tables cast a) q) rows first.2 in
      ap (option_and_then (λ (x : Rows). option_and_then (excepted x) (evaluate (with_tables cast b) q))) (gives-still p first.0 first.1)
      ∙ ap (option_and_then (excepted first.0)) (gives-still q second.0 second.1) ∙ second.2
  gives-still (joined names first links) rows e =
      let select_names = columns_of (map bytes_of names) in
      let all = bind_some select_names (option_and_then (all_linked (with_tables cast a) links) (a first)) rows e in
      let one = bind_some (all_linked (with_tables cast a) links) (a first) all.0 all.1 in
      ap (λ (found : Option Rows). option_and_then select_names (option_and_then (all_linked (with_tables cast b) links) found)) (within first one.0 one.1)
      ∙ ap (option_and_then select_names) (links-still links one.0 all.0 one.2) ∙ all.2
  gives-still (all_columns source alias) rows e = gives-still source rows e
  gives-still (one_row values) rows e = e

-- ---- states
tables-still : (start z : State) → Keeps start z → Within (λ name. rows_of_table (start name)) (λ name. rows_of_table (z name))
tables-still start z keeps name rows e = by_held (start name) refl e
  where
    by_held : (held : Option Held) → start name ≡ held → rows_of_table held ≡ Some rows → rows_of_table (z name) ≡ Some rows
    by_held None is e' = absurd (none_is_not_some rows e')
    by_held (Some (table zeros found)) is e' = ap rows_of_table (keeps name (table zeros found) is) ∙ e'
    by_held (Some (view q)) is e' = absurd (none_is_not_some rows e')

found-still : (cast : Cast) (start z : State) → Keeps start z
    → Within (λ name. rows_found cast start (start name)) (λ name. rows_found cast z (z name))
found-still cast start z keeps name rows e = by_held (start name) refl e
  where
    by_held : (held : Option Held) → start name ≡ held → rows_found cast start held ≡ Some rows → rows_found cast z (z name) ≡ Some rows
    by_held None is e' = absurd (none_is_not_some rows e')
    by_held (Some (table zeros found)) is e' = ap (rows_found cast z) (keeps name (table zeros found) is) ∙ e'
    by_held (Some (view q)) is e' =
        ap (rows_found cast z) (keeps name (view q) is)
        ∙ gives-still cast (λ other. rows_of_table (start other)) (λ other. rows_of_table (z other)) (tables-still start z keeps) q rows e'

-- the user's table is still there, with its rows
pub still-known : (cast : Cast) (name : List ℕ) (start z : State) (given : Rows) → Keeps start z
    → (engine_at cast start).tables name ≡ Some given → (engine_at cast z).tables name ≡ Some given
still-known cast name start z given keeps known = found-still cast start z keeps name given known

pub still-holds : (cast : Cast) (name : List ℕ) (s : Schema) (cell : ℕ → List ℕ → Cell) (r : Relation) (start z : State) → Keeps start z
    → Holds (engine_at cast start) name s cell r → Holds (engine_at cast z) name s cell r
still-holds cast name s cell r start z keeps holds = record {
  given = holds.given;
  known = found-still cast start z keeps name holds.given holds.known;
  held = holds.held;
  apart = holds.apart;
}

-- ---- what is kept
pub keeps_both : (a b c : State) → Keeps a b → Keeps b c → Keeps a c
keeps_both a b c first second name held is = second name held (first name held is)

-- what is free was free
pub was_free : (start z : State) (name : List ℕ) → Keeps start z → z name ≡ None → start name ≡ None
was_free start z name keeps free = by_held (start name) refl
  where
    by_held : (held : Option Held) → start name ≡ held → start name ≡ None
    by_held None is = is
    by_held (Some held) is = absurd (none_is_not_some held (sym free ∙ keeps name held is))

-- nothing is lost under a name that was free
pub keeps_past : (start z next : State) (name : List ℕ) → Keeps start z → start name ≡ None
    → ((other : List ℕ) → (other ≡ name → ⊥) → next other ≡ z other) → Keeps start next
keeps_past start z next name keeps free others other held is =
    others other (λ same. none_is_not_some held (sym free ∙ ap start (sym same) ∙ is)) ∙ keeps other held is
