-- The tables of a design that are not optional, one more at the end.
use Rattle.std.proofs.Common.{◌≡◌, ◌<◌, ◌+◌, ℕ, Bool, true, false, cond, not, List, [], ◌∷◌, ◌++◌, length, get_or, map, take, Some, refl, sym, ap, ◌∙◌, inl, inr, append_assoc, append-nil}
use Rattle.std.specs.Prelude.{filter, slice_get}
use Rattle.std.proofs.lemmas.Bool.{cases_Bool}
use Rattle.std.proofs.lemmas.List.{length-append, map-append}
use Rattle.std.proofs.lemmas.List.Elements.{filter_more}
use Rattle.optional_tables.specs.Homes.{is_optional}
use Rattle.optional_tables.specs.Order.{members_at, positions_from}
use Rattle.optional_tables.specs.declared.keyed.KeyedScheme.{KeyedScheme}
use Rattle.schema_model.specs.Schemas.{Schema}
use Rattle.schema_model.specs.Schemas.{nullable_of}
use Rattle.ddl_text.specs.Designs.{keyed}
use Rattle.ddl_text.specs.declared.table.TableDesign.{TableDesign}
use Rattle.sql_migrate.specs.declared.joining.JoinedTable.{JoinedTable}
use Rattle.sql_migrate.specs.Script.{filled_tables, joined_tables}

-- ---- members at the positions of those that pass a test
at_front : {X : Type 0} (front : List X) (y : X) (ys : List X) → slice_get (front ++ y ∷ ys) (length front) ≡ Some y
at_front [] y ys = refl
at_front (x ∷ front) y ys = at_front front y ys

positions_map : {X Y : Type 0} (test : Y → Bool) (f : X → Y) (k : ℕ) (xs : List X)
    → positions_from test k (map f xs) ≡ positions_from (λ x. test (f x)) k xs
positions_map test f k [] = refl
positions_map test f k (x ∷ xs) = rw (positions_map test f (k + 1) xs) refl

members_passing : {X : Type 0} (test : X → Bool) (front ys : List X)
    → members_at (front ++ ys) (positions_from test (length front) ys) ≡ filter test ys
members_passing test front [] = refl
members_passing {X} test front (y ∷ ys) = step (members_passing test (front ++ y ∷ []) ys)
  where
    long : length (front ++ y ∷ []) ≡ length front + 1
    long = length-append front (y ∷ [])

    step : members_at ((front ++ y ∷ []) ++ ys) (positions_from test (length (front ++ y ∷ [])) ys) ≡ filter test ys
        → members_at (front ++ y ∷ ys) (positions_from test (length front) (y ∷ ys)) ≡ filter test (y ∷ ys)
    step later =
        let rest : members_at (front ++ y ∷ ys) (positions_from test (length front + 1) ys) ≡ filter test ys =
        ap (λ (k : ℕ). members_at (front ++ y ∷ ys) (positions_from test k ys)) (sym long)
        ∙ ap (λ (xs : List X). members_at xs (positions_from test (length (front ++ y ∷ [])) ys)) (sym (append_assoc front (y ∷ []) ys))
        ∙ later in
        elim (cases_Bool (test y)) [
          | inl passes ↦ rw passes (rw (at_front front y ys) (ap (λ (zs : List X). y ∷ zs) rest))
          | inr fails ↦ rw fails rest
        ]

-- ---- tables that are not optional
-- whether a table of a design has a row for each of the whole
abbrev pub is_filled : Schema → TableDesign → Bool
is_filled s table = not (is_optional (nullable_of s) (keyed table))

pub filled_are : (s : Schema) (tables : List TableDesign) → filled_tables s tables ≡ filter (is_filled s) tables
filled_are s tables =
    ap (members_at tables) (positions_map (λ (t : KeyedScheme). not (is_optional (nullable_of s) t)) keyed 0 tables)
    ∙ members_passing (is_filled s) [] tables

-- one table more
filled_next : (s : Schema) (tables : List TableDesign) (i : ℕ) (table : TableDesign) → i < length tables → table ≡ get_or tables i table
    → filter (is_filled s) (take (i + 1) tables) ≡ filter (is_filled s) (take i tables) ++ cond (is_filled s table) (table ∷ []) []
filled_next s tables i table lt at =
    filter_more (is_filled s) tables i table lt
    ∙ ap (λ (t : TableDesign). filter (is_filled s) (take i tables) ++ cond (is_filled s t) (t ∷ []) []) (sym at)

pub filled_more : (s : Schema) (tables : List TableDesign) (i : ℕ) (table : TableDesign) (so_far next : List JoinedTable)
    → i < length tables → table ≡ get_or tables i table → is_filled s table ≡ true
    → so_far ≡ joined_tables (filter (is_filled s) (take i tables))
    → next ≡ so_far ++ record { name = table.name; scheme = table.scheme } ∷ []
    → next ≡ joined_tables (filter (is_filled s) (take (i + 1) tables))
filled_more s tables i table so_far next lt at passes is pushed =
    pushed ∙ ap (λ (ts : List JoinedTable). ts ++ record { name = table.name; scheme = table.scheme } ∷ []) is
    ∙ sym (map-append (λ (t : TableDesign). record { name = t.name; scheme = t.scheme }) (filter (is_filled s) (take i tables)) (table ∷ []))
    ∙ ap joined_tables (sym (filled_next s tables i table lt at
    ∙ ap (λ (b : Bool). filter (is_filled s) (take i tables) ++ cond b (table ∷ []) []) passes))

pub filled_passed : (s : Schema) (tables : List TableDesign) (i : ℕ) (table : TableDesign) (so_far : List JoinedTable)
    → i < length tables → table ≡ get_or tables i table → is_filled s table ≡ false
    → so_far ≡ joined_tables (filter (is_filled s) (take i tables))
    → so_far ≡ joined_tables (filter (is_filled s) (take (i + 1) tables))
filled_passed s tables i table so_far lt at fails is =
    is ∙ ap joined_tables (sym (filled_next s tables i table lt at
    ∙ ap (λ (b : Bool). filter (is_filled s) (take i tables) ++ cond b (table ∷ []) []) fails
    ∙ append-nil (filter (is_filled s) (take i tables))))
