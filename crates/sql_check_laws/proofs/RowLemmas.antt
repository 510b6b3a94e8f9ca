-- The rows of a table that holds a relation: their tuples, and what tests of rows take.
use Rattle.std.proofs.Common.{◌≡◌, ℕ, Bool, true, false, List, [], ◌∷◌, map, filter, Some, None, Option, refl, sym, ap, subst, ◌∙◌, ⊎_elim, arith}
use Rattle.std.specs.Prelude.{◌↔◌, Contains, if◌then◌else◌, option_map, option_and_then, codes}
use Rattle.schema_model.specs.Schemas.{Schema}
use Rattle.dep_model.specs.Tuples.{Tuple, Relation}
use Rattle.dep_model.proofs.ListLemmas.{Contains-head, Contains-later, Contains-cases, Contains-map, map-member}
use Rattle.sql_syntax.specs.Syntax.{Condition, Item, rows_where, stored, select}
use Rattle.sql_evaluation.specs.Cells.{Cell}
use Rattle.sql_evaluation.specs.Values.{each, look_at, View, holds}
use Rattle.sql_evaluation.specs.Evaluation.{Engine, Rows, taken, row_view, item_value, with_items, selected, evaluate}
use Rattle.sql_check_laws.specs.HeldRelations.{RowHolds, RowsHold}
use Rattle.sql_check_laws.specs.CheckedRules.{GivesNoRow}
use Rattle.sql_check_laws.proofs.EachLemmas.{taken-known}
use Rattle.sql_check_laws.proofs.GroupLemmas.{Cells}
use Rattle.sql_check_laws.proofs.SeveralLemmas.{shows_none}

-- ---- tuples
pub row-tuple : (s : Schema) (cell : Cells) (names : List (List ℕ)) (rows : List (List Cell)) (r : Relation) (row : List Cell)
    → RowsHold s cell names rows r → Contains rows row → (t : Tuple) × Contains r t × RowHolds s cell names row t
row-tuple s cell names [] [] row held h = absurd (omega (arith, h.1))
row-tuple s cell names [] (t ∷ r) row held h = absurd held
row-tuple s cell names (first ∷ rows) [] row held h = absurd held
row-tuple s cell names (first ∷ rows) (t ∷ r) row held h = ⊎_elim
    (λ (is : row ≡ first). (t, Contains-head t r, subst (λ (x : List Cell). RowHolds s cell names x t) (sym is) held.0))
    (λ later. let found = row-tuple s cell names rows r row held.1 later in (found.0, Contains-later t r found.0 found.1, found.2))
    (Contains-cases first rows row h)

pub tuple-row : (s : Schema) (cell : Cells) (names : List (List ℕ)) (rows : List (List Cell)) (r : Relation) (t : Tuple)
    → RowsHold s cell names rows r → Contains r t → (row : List Cell) × Contains rows row × RowHolds s cell names row t
tuple-row s cell names [] [] t held h = absurd (omega (arith, h.1))
tuple-row s cell names [] (u ∷ r) t held h = absurd held
tuple-row s cell names (row ∷ rows) [] t held h = absurd held
tuple-row s cell names (row ∷ rows) (u ∷ r) t held h = ⊎_elim
    (λ (is : t ≡ u). (row, Contains-head row rows, subst (λ (x : Tuple). RowHolds s cell names row x) (sym is) held.0))
    (λ later. let found = tuple-row s cell names rows r t held.1 later in (found.0, Contains-later row rows found.0 found.1, found.2))
    (Contains-cases u r t h)

-- ---- rows as they are looked at
abbrev pub row_look : List (List ℕ) → List Cell → View
row_look names row = row_view (look_at (codes "r") names row)

abbrev pub views_of_rows : List (List ℕ) → List (List Cell) → List View
views_of_rows names rows = map row_view (map (look_at (codes "r") names) rows)

pub view-row : (names : List (List ℕ)) (rows : List (List Cell)) (v : View) → Contains (views_of_rows names rows) v
    → (row : List Cell) × Contains rows row × (row_look names row ≡ v)
view-row names rows v h =
    let looked = map-member row_view (map (look_at (codes "r") names) rows) v h in
    let row = map-member (look_at (codes "r") names) rows looked.0 looked.1 in
    (row.0, row.1, ap row_view row.2 ∙ looked.2)

pub row-looked : (names : List (List ℕ)) (rows : List (List Cell)) (row : List Cell) → Contains rows row
    → Contains (views_of_rows names rows) (row_look names row)
row-looked names rows row h =
    Contains-map row_view (map (look_at (codes "r") names) rows) (look_at (codes "r") names row)
    (Contains-map (look_at (codes "r") names) rows row h)

-- ---- errors
is_error : {X : Type 0} → Option X → Type 0
is_error None = Unit {0}
is_error (Some x) = ⊥

pub none_is_not_some : {X : Type 0} (x : X) → None ≡ Some x → ⊥
unfolding is_error
none_is_not_some {X} x e = subst (λ (found : Option X). is_error found) e tt

some_or : {X : Type 0} → X → Option X → X
some_or x None = x
some_or x (Some y) = y

pub some_is : {X : Type 0} (x y : X) → Some x ≡ Some y → x ≡ y
unfolding some_or
some_is {X} x y e = ap (λ (found : Option X). some_or x found) e

-- ---- which rows are taken
pub filter-none : {X : Type 0} (xs : List X) → filter (λ x. false) xs ≡ []
filter-none [] = refl
filter-none (x ∷ xs) = filter-none xs

-- where each member has a value, so has the list
pub each-some : {X Y : Type 0} (f : X → Option Y) (xs : List X) → ((x : X) → Contains xs x → (y : Y) × (f x ≡ Some y))
    → (ys : List Y) × (each f xs ≡ Some ys) × ((ys ≡ []) ↔ (xs ≡ []))
each-some f [] known = ([], refl, (λ e. refl, λ e. refl))
each-some {X} {Y} f (x ∷ xs) known =
    let first = known x (Contains-head x xs) in
    let rest = each-some f xs (λ z h. known z (Contains-later x xs z h)) in (
      first.0 ∷ rest.0,
      ap (option_and_then (λ (y : Y). option_map (λ (ys : List Y). y ∷ ys) (each f xs))) first.1
          ∙ ap (option_map (λ (ys : List Y). first.0 ∷ ys)) rest.1,
      (λ e. absurd (shows_none (first.0 ∷ rest.0) first.0 e (Contains-head first.0 rest.0)), λ e. absurd (shows_none (x ∷ xs) x e (Contains-head x xs))),
    )

-- where nothing is shown, nothing was taken
none_of_two : {Y : Type 0} (first : Option Y) (rest : Option (List Y))
    → option_and_then (λ (y : Y). option_map (λ (ys : List Y). y ∷ ys) rest) first ≡ Some [] → ⊥
none_of_two {Y} None rest e = none_is_not_some {X = List Y} [] e
none_of_two {Y} (Some y) None e = none_is_not_some {X = List Y} [] e
none_of_two (Some y) (Some ys) e = shows_none (y ∷ ys) y (some_is (y ∷ ys) [] e) (Contains-head y ys)

each-none : {X Y : Type 0} (f : X → Option Y) (xs : List X) → each f xs ≡ Some [] → xs ≡ []
each-none f [] e = refl
each-none f (x ∷ xs) e = absurd (none_of_two (f x) (each f xs) e)

shown-none : (items : List Item) (f : View → Option (List Cell)) (found : Option (List View)) (result : Rows)
    → option_map (with_items false items) (option_and_then (each f) found) ≡ Some result → result.rows ≡ [] → found ≡ Some []
shown-none items f None result e empty = absurd (none_is_not_some result e)
shown-none items f (Some views) result e empty = ap (λ (vs : List View). Some vs) (each-none f views (shown_as (each f views) e))
  where
    shown_as : (rows : Option (List (List Cell))) → option_map (with_items false items) rows ≡ Some result → rows ≡ Some []
    shown_as None same = absurd (none_is_not_some result same)
    shown_as (Some rows) same = ap (λ (rs : List (List Cell)). Some rs)
        (ap (λ (given : Rows). given.rows) (some_is (with_items false items rows) result same) ∙ empty)

untaken_step : {X : Type 0} (x : X) (test : Option Bool) (rest : Option (List X))
    → option_and_then (λ (b : Bool). option_map (λ (xs : List X). if b then x ∷ xs else xs) rest) test ≡ Some []
    → (test ≡ Some false) × (rest ≡ Some [])
untaken_step {X} x None rest e = absurd (none_is_not_some {X = List X} [] e)
untaken_step {X} x (Some b) None e = absurd (none_is_not_some {X = List X} [] e)
untaken_step {X} x (Some true) (Some xs) e = absurd (shows_none (x ∷ xs) x (some_is (x ∷ xs) [] e) (Contains-head x xs))
untaken_step {X} x (Some false) (Some xs) e = (refl, e)

-- where none is taken, no test is true, and none has an error
pub taken-none : {X : Type 0} (f : X → Option Bool) (xs : List X) → taken f xs ≡ Some [] → (x : X) → Contains xs x → f x ≡ Some false
taken-none f [] e x h = absurd (omega (arith, h.1))
taken-none f (first ∷ xs) e x h =
    let step = untaken_step first (f first) (taken f xs) e in
    ⊎_elim (λ (is : x ≡ first). ap f is ∙ step.0) (λ later. taken-none f xs step.1 x later) (Contains-cases first xs x h)

-- ---- a query for rows of a table
pub found-of_table : (e : Engine) (table : List ℕ) (items : List Item) (p : Condition) (given : Rows) → e.tables table ≡ Some given
    → evaluate e (select false items (stored table) (codes "r") (rows_where p))
    ≡ option_map (with_items false items) (option_and_then (each (λ (v : View). each (item_value e.cast v) items))
    (taken (λ (v : View). holds e.cast v p) (views_of_rows given.names given.rows)))
found-of_table e table items p given known =
    ap (option_and_then (selected e.cast false items (codes "r") (rows_where p))) known

-- it ends without an error and gives no row exactly where no test is true and none has an error
pub none-of_table : (e : Engine) (table : List ℕ) (items : List Item) (p : Condition) (given : Rows) → e.tables table ≡ Some given
    → GivesNoRow e (select false items (stored table) (codes "r") (rows_where p))
    ↔ ((row : List Cell) → Contains given.rows row → holds e.cast (row_look given.names row) p ≡ Some false)
none-of_table e table items p given known = (to, from)
  where
    views : List View
    views = views_of_rows given.names given.rows

    test : View → Option Bool
    test v = holds e.cast v p

    shown : View → Option (List Cell)
    shown v = each (item_value e.cast v) items

    law : evaluate e (select false items (stored table) (codes "r") (rows_where p))
        ≡ option_map (with_items false items) (option_and_then (each shown) (taken test views))
    law = found-of_table e table items p given known

    to : GivesNoRow e (select false items (stored table) (codes "r") (rows_where p))
        → (row : List Cell) → Contains given.rows row → test (row_look given.names row) ≡ Some false
    to none row h =
        taken-none test views (shown-none items shown (taken test views) none.0 (sym law ∙ none.1) none.2)
        (row_look given.names row) (row-looked given.names given.rows row h)

    from : ((row : List Cell) → Contains given.rows row → test (row_look given.names row) ≡ Some false)
        → GivesNoRow e (select false items (stored table) (codes "r") (rows_where p))
    from none = (
      with_items false items [],
      law ∙ ap (λ (found : Option (List View)). option_map (with_items false items) (option_and_then (each shown) found))
          (taken-known test (λ v. false) views (λ v h. let at = view-row given.names given.rows v h in ap test (sym at.2) ∙ none at.0 at.1)
          ∙ ap (λ (vs : List View). Some vs) (filter-none views)),
      refl,
    )
