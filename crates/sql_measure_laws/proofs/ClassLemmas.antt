-- What the query of a functional dependency gives.
use Rattle.std.proofs.Common.{◌≡◌, ℕ, Bool, true, List, [], ◌∷◌, ◌++◌, length, map, filter, Some, Option, refl, sym, ap, subst, ◌∙◌}
use Rattle.std.proofs.lemmas.Bool.{true≢false}
use Rattle.std.proofs.lemmas.List.{length-map}
use Rattle.std.specs.Prelude.{ℤ, pos, ◌-ℤ◌, nat_lt, Contains, if◌then◌else◌, option_map, option_and_then, codes}
use Rattle.std.specs.Set.{unique_keys}
use Rattle.attr_sets.specs.Attributes.{Attributes, IsSubset}
use Rattle.schema_model.specs.Schemas.{Schema}
use Rattle.dep_model.specs.Projections.{members_below}
use Rattle.schema_model.specs.Schemas.{width_of}
use Rattle.dep_model.specs.Tuples.{Tuple, Relation, value_at}
use Rattle.dep_model.proofs.DistinctLemmas.{filter-member}
use Rattle.sql_syntax.specs.Names.{is_not_empty}
use Rattle.sql_syntax.specs.Syntax.{helper, Column, column, number_one, count, sum, greatest, less_sum, exceeds, Item, named}
use Rattle.sql_check.specs.Columns.{columns_on, group_name, groups_made}
use Rattle.sql_measure.specs.Measures.{keys_on, class_count, classes_query, groups_query, group_count, change_query, rows_query}
use Rattle.sql_evaluation.specs.Cells.{Cell, missing, number, same_row, subtracted}
use Rattle.sql_evaluation.specs.Values.{each, of_both, Look, look_at, View, value, sum_of}
use Rattle.sql_evaluation.specs.Evaluation.{Rows, Engine, one_group, key_cell, item_value, evaluate}
use Rattle.sql_check_laws.specs.HeldRelations.{compared_cell, Holds}
use Rattle.sql_check_laws.proofs.CountsLemmas.{number_name}
use Rattle.sql_check_laws.proofs.GroupLemmas.{Cells, pick, pick-cells, value-row, row-value, key-known, keys-known, class_of}
use Rattle.sql_check_laws.proofs.ValuesLemmas.{cells_on, names_on, values_of}
use Rattle.sql_measure_laws.proofs.SumLemmas.{sum_over, max_over, times}
use Rattle.sql_measure_laws.proofs.GroupedLemmas.{keys_by, view_of, grouped-known, sum_cell, max_cell, sum-value, max-value, IsThirdName, rows_if, totals-known}
use Rattle.sql_measure_laws.proofs.KeyLemmas.{stored-known, keys_of, keys-are, KeyOn, made-shown, counted-keys, counted-cell, made-names, passing-keys}

-- ---- classes
-- how many tuples have these values on w
abbrev pub stands : Schema → Cells → Attributes → Relation → List Cell → ℕ
stands s cell w r row = times same_row (cells_on s cell w) r row

abbrev pub class_names : Schema → Attributes → List (List ℕ)
class_names s x = map (number_name x) (members_below (width_of s) x) ++ codes "n" ∷ []

abbrev pub class_row : Schema → Cells → Attributes → Attributes → Relation → List Cell → List Cell
class_row s cell x w r row = pick s w x row ++ number (pos (stands s cell w r row)) ∷ []

keyed-by : (s : Schema) (cell : Cells) (w : Attributes) (r : Relation) (t : Tuple) → Contains r t
    → each (look_at (codes "d") (names_on s w) (cells_on s cell w t)) (columns_on s (codes "d") w) ≡ Some (cells_on s cell w t)
keyed-by s cell w r t h =
    key-known s cell w w r (cells_on s cell w t) (λ k m. m) (row-value s cell w r t h)
    ∙ ap (λ (row : List Cell). Some row) (pick-cells s cell w w t (λ k m. m))

keys-some : (columns : List Column) (given : List (List Cell)) → is_not_empty columns ≡ true → keys_by columns given ≡ unique_keys same_row given
keys-some columns given some = ap (λ (b : Bool). if b then unique_keys same_row given else [] ∷ []) some

-- what is shown of a class
class-shown : (s : Schema) (cast : List ℕ → Option ℤ) (cell : Cells) (r : Relation) (x w : Attributes) (row : List Cell) → IsSubset x w → Contains (values_of s cell w r) row
    → each (item_value cast (view_of (columns_on s (codes "d") w) (λ (t : Tuple). look_at (codes "d") (names_on s w) (cells_on s cell w t)) (cells_on s cell w) r row))
    (groups_made s x ++ named count (helper (codes "n")) ∷ []) ≡ Some (class_row s cell x w r row)
class-shown s cast cell r x w row within h =
    let v = value-row s cell w r row h in
    let shown = λ (k : ℕ). compared_cell cell k (value_at v.0 k) in
    let look = λ (t : Tuple). look_at (codes "d") (names_on s w) (cells_on s cell w t) in
    let class = λ (z : List Cell). filter (λ (t : Tuple). same_row (cells_on s cell w t) z) r in
    let items = groups_made s x ++ named count (helper (codes "n")) ∷ [] in
    let own = cells_on s cell w v.0 in
    let at_own : each (item_value cast (view_of (columns_on s (codes "d") w) look (cells_on s cell w) r own)) items
    ≡ Some (cells_on s cell x v.0 ++ number (pos (length (map look (class own)))) ∷ []) =
    made-shown s cast w x shown (Some (map look (class own))) (named count (helper (codes "n")) ∷ []) (number (pos (length (map look (class own)))) ∷ []) within refl in
    subst (λ (z : List Cell). each (item_value cast (view_of (columns_on s (codes "d") w) look (cells_on s cell w) r z)) items ≡ Some (class_row s cell x w r z)) v.2
    (at_own
    ∙ ap (λ (n : ℕ). Some (cells_on s cell x v.0 ++ number (pos n) ∷ [])) (length-map (class own) look)
    ∙ ap (λ (key : List Cell). Some (key ++ number (pos (stands s cell w r own)) ∷ [])) (sym (pick-cells s cell w x v.0 within)))

pub classes-known : (e : Engine) (table : List ℕ) (s : Schema) (cell : Cells) (r : Relation) (x w : Attributes) → Holds e table s cell r → IsSubset x w
    → is_not_empty (columns_on s (codes "d") w) ≡ true
    → evaluate e (classes_query s table x w) ≡ Some (record { names = class_names s x; rows = map (class_row s cell x w r) (values_of s cell w r) })
unfolding classes_query
classes-known e table s cell r x w held within some =
    let columns = columns_on s (codes "d") w in
    let items = groups_made s x ++ named count (helper (codes "n")) ∷ [] in
    let keys = keys-some columns (map (cells_on s cell w) r) some in
    grouped-known e (rows_query s table w) (codes "d") (names_on s w) (cells_on s cell w) r columns (cells_on s cell w) items (class_row s cell x w r)
    (stored-known e table s cell r w held)
    (keyed-by s cell w r)
    (λ row h. class-shown s e.cast cell r x w row within (subst (λ (ks : List (List Cell)). Contains ks row) keys h))
    ∙ ap (λ (names : List (List ℕ)). Some (record { names = names; rows = map (class_row s cell x w r) (keys_by columns (map (cells_on s cell w) r)) })) (made-names s x (named count (helper (codes "n")) ∷ []))
    ∙ ap (λ (ks : List (List Cell)). Some (record { names = class_names s x; rows = map (class_row s cell x w r) ks })) keys

-- ---- groups
abbrev pub group_row : Schema → Cells → Attributes → Attributes → Relation → List Cell → List Cell
group_row s cell x w r key =
    sum_cell (stands s cell w r) (class_of s cell w x r key) ∷ max_cell (stands s cell w r) (class_of s cell w x r key)
    ∷ number (pos (length (class_of s cell w x r key))) ∷ []

abbrev pub group_names : List (List ℕ)
group_names = codes "n" ∷ codes "m" ∷ codes "k" ∷ []

abbrev look_of_class : Schema → Cells → Attributes → Attributes → Relation → List Cell → Look
look_of_class s cell x w r row = look_at (codes "c") (class_names s x) (class_row s cell x w r row)

-- a row of a class has the values of a tuple on x
row-on : (s : Schema) (cell : Cells) (x w : Attributes) (r : Relation) (row : List Cell) → IsSubset x w → Contains (values_of s cell w r) row → KeyOn s x (pick s w x row)
row-on s cell x w r row within h =
    let v = value-row s cell w r row h in
    (λ (k : ℕ). compared_cell cell k (value_at v.0 k), sym (pick-cells s cell w x v.0 within) ∙ ap (pick s w x) v.2)

class-key : (s : Schema) (cell : Cells) (x w : Attributes) (r : Relation) (row : List Cell) → IsSubset x w → Contains (values_of s cell w r) row
    → each (look_of_class s cell x w r row) (keys_on s (codes "c") x) ≡ Some (pick s w x row)
class-key s cell x w r row within h =
    let on = row-on s cell x w r row within h in
    let cells = number (pos (stands s cell w r row)) ∷ [] in
    subst (λ (key : List Cell). each (look_at (codes "c") (class_names s x) (key ++ cells)) (keys_on s (codes "c") x) ≡ Some key) on.1
    (counted-keys s x (codes "c") on.0 (codes "n" ∷ []) cells)

class-number : (s : Schema) (cell : Cells) (x w : Attributes) (r : Relation) (row : List Cell) → IsSubset x w → Contains (values_of s cell w r) row
    → look_of_class s cell x w r row class_count ≡ Some (number (pos (stands s cell w r row)))
class-number s cell x w r row within h =
    let on = row-on s cell x w r row within h in
    let cells = number (pos (stands s cell w r row)) ∷ [] in
    subst (λ (key : List Cell). look_at (codes "c") (class_names s x) (key ++ cells) class_count ≡ Some (number (pos (stands s cell w r row)))) on.1
    (counted-cell x (codes "c") on.0 (members_below (width_of s) x) (codes "n" ∷ []) cells (codes "n") (λ k. refl))

abbrev group_items : List Item
group_items = named (sum class_count) (helper (codes "n")) ∷ named (greatest class_count) (helper (codes "m")) ∷ named count (helper (codes "k")) ∷ []

group-shown : (s : Schema) (cast : List ℕ → Option ℤ) (cell : Cells) (r : Relation) (x w : Attributes) (own : Look) (key : List Cell) → IsSubset x w
    → each (item_value cast (record { own = own; rows = Some (map (look_of_class s cell x w r) (class_of s cell w x r key)) })) group_items ≡ Some (group_row s cell x w r key)
group-shown s cast cell r x w own key within =
    let rows = class_of s cell w x r key in
    let look = look_of_class s cell x w r in
    let view : View = record { own = own; rows = Some (map look rows) } in
    let known = λ (row : List Cell) (h : Contains rows row). class-number s cell x w r row within (filter-member (λ (z : List Cell). same_row (pick s w x z) key) (values_of s cell w r) row h).0 in
    let tail = each (item_value cast view) (named count (helper (codes "k")) ∷ []) in
    ap (λ (found : Option Cell). option_and_then (λ (y : Cell). option_map (λ (ys : List Cell). y ∷ ys) (each (item_value cast view) (named (greatest class_count) (helper (codes "m")) ∷ named count (helper (codes "k")) ∷ []))) found)
    (sum-value own look class_count (stands s cell w r) rows known)
    ∙ ap (λ (found : Option Cell). option_map (λ (ys : List Cell). sum_cell (stands s cell w r) rows ∷ ys) (option_and_then (λ (y : Cell). option_map (λ (ys : List Cell). y ∷ ys) tail) found))
    (max-value own look class_count (stands s cell w r) rows known)
    ∙ ap (λ (n : ℕ). Some (sum_cell (stands s cell w r) rows ∷ max_cell (stands s cell w r) rows ∷ number (pos n) ∷ [])) (length-map rows look)

pub groups-known : (e : Engine) (table : List ℕ) (s : Schema) (cell : Cells) (r : Relation) (x w : Attributes) → Holds e table s cell r → IsSubset x w
    → is_not_empty (columns_on s (codes "d") w) ≡ true
    → evaluate e (groups_query s table x w) ≡ Some (record { names = group_names; rows = map (group_row s cell x w r) (keys_of s cell x r) })
unfolding groups_query
groups-known e table s cell r x w held within some =
    let columns = keys_on s (codes "c") x in
    let rows = values_of s cell w r in
    grouped-known e (classes_query s table x w) (codes "c") (class_names s x) (class_row s cell x w r) rows columns (pick s w x) group_items (group_row s cell x w r)
    (classes-known e table s cell r x w held within some)
    (λ row h. class-key s cell x w r row within h)
    (λ key h. group-shown s e.cast cell r x w (key_cell columns key) key within)
    ∙ ap (λ (ks : List (List Cell)). Some (record { names = group_names; rows = map (group_row s cell x w r) ks }))
    (keys-are s cell x r (λ (k : ℕ). record { alias = codes "c"; name = group_name x k }) (map (pick s w x) rows) (λ some. keys-known s cell w x r within))

-- ---- the three numbers
-- more than one class
abbrev pub is_broken : Schema → Cells → Attributes → Attributes → Relation → List Cell → Bool
is_broken s cell x w r key = nat_lt 1 (length (class_of s cell w x r key))

abbrev pub rows_in : Schema → Cells → Attributes → Attributes → Relation → List Cell → ℕ
rows_in s cell x w r key = sum_over (stands s cell w r) (class_of s cell w x r key)

abbrev pub largest_in : Schema → Cells → Attributes → Attributes → Relation → List Cell → ℕ
largest_in s cell x w r key = max_over (stands s cell w r) (class_of s cell w x r key)

some-cells : {X : Type 0} (f : X → ℕ) (xs : List X) → nat_lt 1 (length xs) ≡ true
    → (sum_cell f xs ≡ number (pos (sum_over f xs))) × (max_cell f xs ≡ number (pos (max_over f xs)))
some-cells f [] more = absurd (true≢false (sym more))
some-cells f (x ∷ xs) more = (refl, refl)

abbrev broken_keys : Schema → Cells → Attributes → Attributes → Relation → List (List Cell)
broken_keys s cell x w r = filter (is_broken s cell x w r) (keys_of s cell x r)

abbrev look_of_group : Schema → Cells → Attributes → Attributes → Relation → List Cell → Look
look_of_group s cell x w r key = look_at (codes "g") group_names (group_row s cell x w r key)

broken-cell : (s : Schema) (cell : Cells) (x w : Attributes) (r : Relation) (key : List Cell) → Contains (broken_keys s cell x w r) key
    → (look_of_group s cell x w r key (group_count (codes "n")) ≡ Some (number (pos (rows_in s cell x w r key))))
    × (look_of_group s cell x w r key (group_count (codes "m")) ≡ Some (number (pos (largest_in s cell x w r key))))
broken-cell s cell x w r key h =
    let at = filter-member (is_broken s cell x w r) (keys_of s cell x r) key h in
    let cells = some-cells (stands s cell w r) (class_of s cell w x r key) at.1 in
    (ap (λ (c : Cell). Some c) cells.0, ap (λ (c : Cell). Some c) cells.1)

-- a sum less another, of no groups a missing value
abbrev less_cell : List (List Cell) → ℕ → ℕ → Cell
less_cell [] m n = missing
less_cell (k ∷ ks) m n = number (pos m -ℤ pos n)

less-known : (f g : List Cell → ℕ) (ks : List (List Cell))
    → of_both subtracted (Some (sum_cell f ks)) (Some (sum_cell g ks)) ≡ Some (less_cell ks (sum_over f ks) (sum_over g ks))
less-known f g [] = refl
less-known f g (k ∷ ks) = refl

-- a row where there is a group, of none of which a cell is missing
rows-some : (f : List Cell → ℕ) (ks : List (List Cell)) (m n : ℕ)
    → rows_if (length ks) (sum_cell f ks) (less_cell ks m n) ≡ rows_if (length ks) (number (pos (sum_over f ks))) (number (pos m -ℤ pos n))
rows-some f [] m n = refl
rows-some f (k ∷ ks) m n = refl

change_named : IsThirdName (codes "change")
change_named = record { not_groups = refl; not_rows = refl; itself = refl }

-- the values on x beside which more than one on w stands
abbrev pub broken_values : Schema → Cells → Attributes → Attributes → Relation → List (List Cell)
broken_values s cell x w r = filter (is_broken s cell x w r) (values_of s cell x r)

-- what the query shows of such values
abbrev pub change_rows : (List Cell → ℕ) → (List Cell → ℕ) → List (List Cell) → List (List Cell)
change_rows f g keys = rows_if (length keys) (number (pos (sum_over f keys))) (number (pos (sum_over f keys) -ℤ pos (sum_over g keys)))

pub change-known : (e : Engine) (table : List ℕ) (s : Schema) (cell : Cells) (r : Relation) (x w : Attributes) → Holds e table s cell r → IsSubset x w
    → is_not_empty (columns_on s (codes "d") w) ≡ true
    → (result : Rows) × (evaluate e (change_query s table x w) ≡ Some result)
    × (result.rows ≡ change_rows (rows_in s cell x w r) (largest_in s cell x w r) (broken_values s cell x w r))
change-known e table s cell r x w held within some =
    let f = rows_in s cell x w r in
    let g = largest_in s cell x w r in
    let chosen = broken_keys s cell x w r in
    let look = look_of_group s cell x w r in
    let group = one_group (map look chosen) in
    let of_n = sum-value (key_cell [] []) look (group_count (codes "n")) f chosen (λ key h. (broken-cell s cell x w r key h).0) in
    let of_m = sum-value (key_cell [] []) look (group_count (codes "m")) g chosen (λ key h. (broken-cell s cell x w r key h).1) in
    let amount : value e.cast group (less_sum (sum (group_count (codes "n"))) (group_count (codes "m"))) ≡ Some (less_cell chosen (sum_over f chosen) (sum_over g chosen)) =
    ap (λ (found : Option Cell). of_both subtracted found (sum_of group (group_count (codes "m")))) of_n
    ∙ ap (λ (found : Option Cell). of_both subtracted (Some (sum_cell f chosen)) found) of_m
    ∙ less-known f g chosen in
    let known = totals-known e (groups_query s table x w) group_names (group_row s cell x w r) (keys_of s cell x r)
    (exceeds (column (group_count (codes "k"))) number_one) (is_broken s cell x w r) (group_count (codes "n"))
    (less_sum (sum (group_count (codes "n"))) (group_count (codes "m"))) (codes "change") (sum_cell f chosen) (less_cell chosen (sum_over f chosen) (sum_over g chosen))
    change_named (groups-known e table s cell r x w held within some) (λ key h. refl) of_n amount in
    let same = passing-keys s cell x r (is_broken s cell x w r) (λ none. ap (λ (q : Relation). is_broken s cell x w q []) none) in (
      known.0,
      known.1,
      known.2 ∙ rows-some f chosen (sum_over f chosen) (sum_over g chosen)
          ∙ ap (change_rows f g) same,
    )
