-- The rows that the queries of the script give over the user's table and its copy.
use Rattle.std.proofs.Common.{◌≡◌, ℕ, Bool, true, false, not, List, [], ◌∷◌, ◌++◌, length, map, filter, replicate, Some, None, Option, refl, sym, ap, subst, ◌∙◌, inl, inr, ⊎_elim, arith}
use Rattle.std.proofs.lemmas.Bool.{cases_Bool, eqb-true}
use Rattle.std.proofs.lemmas.List.{length-map, length-replicate}
use Rattle.std.proofs.lemmas.Bool.Decides.{Decides-int_eq, nat_tests}
use Rattle.std.proofs.lemmas.Map.Views.{Contains-from_any}
use Rattle.std.specs.Ordering.{int_eq}
use Rattle.std.specs.Prelude.{ℤ, pos, negsuc, Contains, ◌&&◌, ◌==◌, if◌then◌else◌, option_map, option_and_then, codes}
use Rattle.attr_sets.specs.Attributes.{Attributes}
use Rattle.schema_model.specs.Schemas.{Schema}
use Rattle.schema_model.specs.Columns.{is_plain_type}
use Rattle.dep_model.specs.Projections.{members_below}
use Rattle.schema_model.specs.Schemas.{width_of, universe_of}
use Rattle.dep_model.specs.Tuples.{Tuple, Relation, value_at}
use Rattle.dep_model.proofs.ListLemmas.{Contains-head, Contains-later, Contains-cases}
use Rattle.schema_printer.specs.Printing.{is_integer}
use Rattle.sql_check_laws.proofs.CountLemmas.{in_unique}
use Rattle.dep_model.proofs.DistinctLemmas.{filter-keeps}
use Rattle.sql_syntax.specs.Syntax.{Scalar, number_zero, number_one, missing_value, count, equals, unnamed, each_row, rows_where, groups_by, Query, stored, union_all, all_columns, one_row}
use Rattle.sql_check.specs.Columns.{name_at, type_at, compared_at, compared_on}
use Rattle.sql_evaluation.specs.Cells.{Cell, number, same_row, integer_of}
use Rattle.sql_evaluation.specs.Values.{each, look_at, View, value, named_cell}
use Rattle.sql_evaluation.specs.Evaluation.{Rows, Engine, row_view, item_name, item_value, with_items, selected, no_view, row_of_values, appended, is_among, without, excepted, evaluate}
use Rattle.sql_evaluation.specs.Running.{table, State, Cast, all_zeros}
use Rattle.sql_check_laws.specs.HeldRelations.{compared_cell, Holds}
use Rattle.sql_check_laws.proofs.EachLemmas.{each-map, map-known, map-map}
use Rattle.sql_check_laws.proofs.ColumnLemmas.{named_cell-member}
use Rattle.sql_check_laws.proofs.CellLemmas.{same_row-decides, names_on_apart, member_of, is_member_of}
use Rattle.sql_check_laws.proofs.RowLemmas.{some_is}
use Rattle.sql_check_laws.proofs.ValuesLemmas.{cells_on, names_on, ShowsOf, item-known, rows-shown, rows-known}
use Rattle.sql_migrate.specs.declared.moving.Move.TheVariants.{Entering}
use Rattle.sql_migrate.specs.Moving.{copied_column, copied_at, copied_on, moved, moved_at, moved_on}
use Rattle.sql_migrate.specs.Script.{copy_name, copy_query, width_query, table_rows, count_of}
use Rattle.sql_migrate_laws.specs.Moved.{copied_cell, entered_cell}
use Rattle.sql_migrate_laws.proofs.StepLemmas.{bind_some, map_some, when_some}

abbrev Cells : Type 0
Cells = ℕ → List ℕ → Cell

-- ---- a function of each member
pub each-all : {X Y : Type 0} (f : X → Option Y) (xs : List X) (ys : List Y) (x : X) → each f xs ≡ Some ys → Contains xs x
    → (y : Y) × Contains ys y × (f x ≡ Some y)
each-all f [] ys x e h = absurd (omega (arith, h.1))
each-all {X} {Y} f (z ∷ xs) ys x e h =
    let first = bind_some (λ (y : Y). option_map (λ rest. y ∷ rest) (each f xs)) (f z) ys e in
    let rest = map_some (λ (zs : List Y). first.0 ∷ zs) (each f xs) ys first.2 in
    subst (λ (all : List Y). (y : Y) × Contains all y × (f x ≡ Some y)) rest.2
    (⊎_elim
    (λ (same : x ≡ z). (first.0, Contains-head first.0 rest.0, ap f same ∙ first.1))
    (λ later. let found = each-all f xs rest.0 x rest.1 later in (found.0, Contains-later first.0 rest.0 found.0 found.1, found.2))
    (Contains-cases z xs x h))

pub each-from : {X Y : Type 0} (f : X → Option Y) (xs : List X) (ys : List Y) (y : Y) → each f xs ≡ Some ys → Contains ys y
    → (x : X) × Contains xs x × (f x ≡ Some y)
each-from {X} {Y} f [] ys y e h = let none = subst (λ (zs : List Y). Contains zs y) (sym (some_is [] ys e)) h in absurd (omega (arith, none.1))
each-from {X} {Y} f (z ∷ xs) ys y e h =
    let first = bind_some (λ (v : Y). option_map (λ rest. v ∷ rest) (each f xs)) (f z) ys e in
    let rest = map_some (λ (zs : List Y). first.0 ∷ zs) (each f xs) ys first.2 in
    ⊎_elim
    (λ (same : y ≡ first.0). (z, Contains-head z xs, first.1 ∙ ap (λ (v : Y). Some v) (sym same)))
    (λ later. let found = each-from f xs rest.0 y rest.1 later in (found.0, Contains-later z xs found.0 found.1, found.2))
    (Contains-cases first.0 rest.0 y (subst (λ (zs : List Y). Contains zs y) (sym rest.2) h))

each-same : {X Y : Type 0} (f g : X → Option Y) (xs : List X) → ((x : X) → Contains xs x → f x ≡ g x) → each f xs ≡ each g xs
each-same f g [] same = refl
each-same {X} {Y} f g (x ∷ xs) same =
    ap (λ (found : Option Y). option_and_then (λ (y : Y). option_map (λ (ys : List Y). y ∷ ys) (each f xs)) found) (same x (Contains-head x xs))
    ∙ ap (λ (rest : Option (List Y)). option_and_then (λ (y : Y). option_map (λ (ys : List Y). y ∷ ys) rest) (g x))
    (each-same f g xs (λ z h. same z (Contains-later x xs z h)))

-- ---- the copy
-- the values of a tuple on a set, as they are copied
abbrev pub copied_on_set : Schema → Cells → Attributes → Tuple → List Cell
copied_on_set s cell w t = map (λ k. copied_cell s cell k (value_at t k)) (members_below (width_of s) w)

-- the rows of the copy
abbrev pub copied : Schema → Cells → Relation → Rows
copied s cell r = record { names = names_on s (universe_of s); rows = map (copied_on_set s cell (universe_of s)) r }

item-copied : (s : Schema) (cast : Cast) (cell : Cells) → ShowsOf s cast cell (copied_at s) (copied_cell s cell)
item-copied s cast cell names row t k known = by_type (is_plain_type (type_at s k))
  where
    by_type : (plain : Bool) → item_value cast (row_view (look_at (codes "r") names row)) (copied_column plain (name_at s k))
        ≡ Some (if plain then compared_cell cell k (value_at t k) else cell k (value_at t k))
    by_type true = item-known s cast cell names row t k known
    by_type false = known

copied-name : (plain : Bool) (name : List ℕ) → item_name (copied_column plain name) ≡ name
copied-name true name = refl
copied-name false name = refl

pub copy-known : (e : Engine) (name : List ℕ) (s : Schema) (cell : Cells) (r : Relation) → Holds e name s cell r
    → evaluate e (copy_query s name) ≡ Some (copied s cell r)
unfolding copy_query
copy-known e name s cell r holds =
    let w = universe_of s in
    ap (option_and_then (selected e.cast false (copied_on s w) (codes "r") each_row)) holds.known
    ∙ ap (option_map (with_items false (copied_on s w)))
    (rows-shown s e.cast cell (copied_at s) (copied_cell s cell) (item-copied s e.cast cell) w holds.given.names holds.given.rows r holds.held)
    ∙ ap (λ (names : List (List ℕ)). Some (record { names = names; rows = map (copied_on_set s cell w) r }))
    (map-map item_name (copied_at s) (members_below (width_of s) w)
    ∙ map-known (λ (k : ℕ). item_name (copied_at s k)) (name_at s) (members_below (width_of s) w)
    (λ k h. copied-name (is_plain_type (type_at s k)) (name_at s k)))

-- a row of the copy, as it is looked at
abbrev pub row_of_copy : Schema → Cells → Tuple → View
row_of_copy s cell t = row_view (look_at (codes "o") (names_on s (universe_of s)) (copied_on_set s cell (universe_of s) t))

pub cell-known : (s : Schema) (cell : Cells) (t : Tuple) (k : ℕ) → Contains (members_below (width_of s) (universe_of s)) k
    → named_cell (names_on s (universe_of s)) (copied_on_set s cell (universe_of s) t) (name_at s k) ≡ Some (copied_cell s cell k (value_at t k))
cell-known s cell t k h =
    named_cell-member (name_at s) (λ (j : ℕ). copied_cell s cell j (value_at t j)) (members_below (width_of s) (universe_of s)) k
    (names_on_apart s (universe_of s)) h

pub in_universe : (s : Schema) (x : Attributes) (k : ℕ) → Contains (members_below (width_of s) x) k → Contains (members_below (width_of s) (universe_of s)) k
in_universe s x k h =
    let m = member_of (width_of s) x k h in
    is_member_of (width_of s) (universe_of s) k m.0 (grind (arith, nat_tests, m))

-- ---- the rows of a table
entered-known : (s : Schema) (cast : Cast) (cell : Cells) (t : Tuple) (k : ℕ) → Contains (members_below (width_of s) (universe_of s)) k
    → item_value cast (row_of_copy s cell t) (moved_at s Entering k) ≡ entered_cell s cast cell k (value_at t k)
entered-known s cast cell t k h = by_type (is_integer (type_at s k))
  where
    by_type : (b : Bool) → item_value cast (row_of_copy s cell t) (moved Entering (name_at s k) b)
        ≡ (if b then integer_of cast (copied_cell s cell k (value_at t k)) else Some (copied_cell s cell k (value_at t k)))
    by_type true = ap (option_and_then (integer_of cast)) (cell-known s cell t k h)
    by_type false = cell-known s cell t k h

pub entered-row : (s : Schema) (cast : Cast) (cell : Cells) (x : Attributes) (t : Tuple)
    → each (item_value cast (row_of_copy s cell t)) (moved_on s Entering x)
    ≡ each (λ k. entered_cell s cast cell k (value_at t k)) (members_below (width_of s) x)
entered-row s cast cell x t =
    each-map (item_value cast (row_of_copy s cell t)) (moved_at s Entering) (members_below (width_of s) x)
    ∙ each-same (λ (k : ℕ). item_value cast (row_of_copy s cell t) (moved_at s Entering k)) (λ (k : ℕ). entered_cell s cast cell k (value_at t k))
    (members_below (width_of s) x) (λ k h. entered-known s cast cell t k (in_universe s x k h))

-- the rows of the copy, as they are looked at
pub copy_views : (s : Schema) (cell : Cells) (r : Relation)
    → map row_view (map (look_at (codes "o") (names_on s (universe_of s))) (map (copied_on_set s cell (universe_of s)) r)) ≡ map (row_of_copy s cell) r
copy_views s cell r =
    ap (map row_view) (map-map (look_at (codes "o") (names_on s (universe_of s))) (copied_on_set s cell (universe_of s)) r)
    ∙ map-map row_view (λ (t : Tuple). look_at (codes "o") (names_on s (universe_of s)) (copied_on_set s cell (universe_of s) t)) r

-- the copy is in a state
abbrev pub IsCopied : State → Schema → Cells → Relation → Type 0
IsCopied state s cell r = state copy_name ≡ Some (table false (copied s cell r))

-- ---- the rows of the user's table
pub table-gives : (e : Engine) (name : List ℕ) (s : Schema) (cell : Cells) (r : Relation) → Holds e name s cell r
    → evaluate e (table_rows s name) ≡ Some (record { names = names_on s (universe_of s); rows = map (cells_on s cell (universe_of s)) r })
unfolding table_rows
table-gives e name s cell r holds =
    let w = universe_of s in
    ap (option_and_then (selected e.cast false (compared_on s w) (codes "r") each_row)) holds.known
    ∙ ap (option_map (with_items false (compared_on s w))) (rows-known s e.cast cell w holds.given.names holds.given.rows r holds.held)
    ∙ ap (λ (names : List (List ℕ)). Some (record { names = names; rows = map (cells_on s cell w) r }))
    (map-map item_name (compared_at s) (members_below (width_of s) w)
    ∙ map-known (λ (k : ℕ). item_name (compared_at s k)) (name_at s) (members_below (width_of s) w) (λ k h. refl))

pub table-known : (e : Engine) (name : List ℕ) (s : Schema) (cell : Cells) (r : Relation) (rows : Rows) → Holds e name s cell r
    → evaluate e (table_rows s name) ≡ Some rows → rows.rows ≡ map (cells_on s cell (universe_of s)) r
table-known e name s cell r rows holds is =
    let given : Rows = record { names = names_on s (universe_of s); rows = map (cells_on s cell (universe_of s)) r } in
    ap (λ (z : Rows). z.rows) (some_is rows given (sym is ∙ table-gives e name s cell r holds))

-- ---- as many columns as attributes
pub width-known : (e : Engine) (name : List ℕ) (s : Schema) (given found : Rows) → e.tables name ≡ Some given
    → evaluate e (width_query s name) ≡ Some found → length given.names ≡ width_of s
unfolding width_query
width-known e name s given found known is =
    let values = replicate (width_of s) missing_value in
    let both = union_all (all_columns (stored name) (codes "r")) (one_row values) in
    let all = bind_some (selected e.cast false (unnamed number_zero ∷ []) (codes "d") (rows_where (equals number_one number_zero))) (evaluate e both) found is in
    let first = bind_some (λ (a : Rows). option_and_then (appended a) (row_of_values e.cast values)) (e.tables name) all.0 all.1 in
    let second = bind_some (appended first.0) (row_of_values e.cast values) all.0 first.2 in
    let fits = when_some (length first.0.names == length second.0.names)
    (Some (record { names = first.0.names; rows = first.0.rows ++ second.0.rows })) all.0 second.2 in
    let row = map_some (λ (cells : List Cell). record { names = map (λ (x : Scalar). []) values; rows = cells ∷ [] }) (each (value e.cast no_view) values) second.0 second.1 in
    ap (λ (z : Rows). length z.names) (some_is given first.0 (sym known ∙ first.1))
    ∙ eqb-true (length first.0.names) (length second.0.names) fits.0
    ∙ ap (λ (z : Rows). length z.names) (sym row.2)
    ∙ length-map values (λ (x : Scalar). []) ∙ length-replicate (width_of s) missing_value

-- ---- a count that is zero
nat_of : ℤ → ℕ
nat_of (pos n) = n
nat_of (negsuc n) = 0

both_true : (b : Bool) → ((b && true) && true) ≡ true → b ≡ true
both_true true e = refl
both_true false e = e

no_rows : {X Y : Type 0} (f : X → Y) (xs : List X) → length (map f xs) ≡ 0 → xs ≡ []
no_rows f [] e = refl
no_rows f (x ∷ xs) e = absurd (omega (arith, e))

pub none_counted : (e : Engine) (q : Query) (new : Rows) → evaluate e (count_of q) ≡ Some new → all_zeros new.rows ≡ true
    → (given : Rows) × (evaluate e q ≡ Some given) × (given.rows ≡ [])
unfolding count_of nat_of
none_counted e q new is zero =
    let given = bind_some (selected e.cast false (unnamed count ∷ []) (codes "d") (groups_by [] None)) (evaluate e q) new is in
    let looks = map (look_at (codes "d") given.0.names) given.0.rows in
    let counted : record { names = [] ∷ []; rows = (number (pos (length looks)) ∷ []) ∷ [] } ≡ new = some_is _ new given.2 in
    let zeros : all_zeros ((number (pos (length looks)) ∷ []) ∷ []) ≡ true = ap (λ (z : Rows). all_zeros z.rows) counted ∙ zero in
    let same : pos (length looks) ≡ pos 0 = (Decides-int_eq (pos (length looks)) (pos 0)).0 (both_true (int_eq (pos (length looks)) (pos 0)) zeros) in
    (given.0, given.1, no_rows (look_at (codes "d") given.0.names) given.0.rows (ap nat_of same))

-- ---- a difference that is empty
pub nothing_beyond : (a b rows : Rows) → excepted a b ≡ Some rows → rows.rows ≡ [] → (row : List Cell) → Contains a.rows row → Contains b.rows row
nothing_beyond a b rows e none row h =
    let fits = when_some (length a.names == length b.names) (Some (record { names = a.names; rows = without a.rows b.rows })) rows e in
    let empty : without a.rows b.rows ≡ [] = ap (λ (z : Rows). z.rows) (some_is _ rows fits.1) ∙ none in
    elim (cases_Bool (is_among b.rows row)) [
      | inl among ↦ Contains-from_any (λ x y same. (same_row-decides x y).0 same) row b.rows among
      | inr not_there ↦
          let kept = filter-keeps (λ (z : List Cell). not (is_among b.rows z)) a.rows row h (ap not not_there) in
          let there = subst (λ (all : List (List Cell)). Contains all row) empty
          (in_unique same_row same_row-decides (filter (λ z. not (is_among b.rows z)) a.rows) row kept) in
          absurd (omega (arith, there.1))
    ]
