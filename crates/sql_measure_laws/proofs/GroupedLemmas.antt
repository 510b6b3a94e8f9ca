-- What a query that groups its source gives, whatever the source is.
use Rattle.std.proofs.Common.{◌≡◌, ◌+◌, ◌==◌, ℕ, Bool, true, false, List, [], ◌∷◌, length, map, filter, Some, None, Option, refl, sym, ap, ◌∙◌, inl, inr, arith}
use Rattle.std.proofs.lemmas.Bool.{cases_Bool, lt-ltb}
use Rattle.std.proofs.lemmas.List.{length-map}
use Rattle.std.proofs.lemmas.Bool.Decides.{nat_tests}
use Rattle.std.specs.Prelude.{◌↔◌, ℤ, pos, ◌-ℤ◌, nat_lt, Contains, if◌then◌else◌, option_map, option_and_then, codes, unwrap_or}
use Rattle.std.specs.Set.{unique_keys}
use Rattle.std.specs.Str.{bytes_eq}
use lib.IntN.{pos-+ℤ-pos, +ℤ-neg_ℤ_cancel}
use Rattle.dep_model.proofs.ListLemmas.{Contains-head, Contains-later}
use Rattle.sql_syntax.specs.Names.{is_not_empty}
use Rattle.sql_syntax.specs.Syntax.{attribute, Column, column, Scalar, number_zero, count, sum, Condition, exceeds, Item, own, named, Query, select, rows_where, group_where, groups_by}
use Rattle.sql_measure.specs.Measures.{shown_column, totals_query}
use Rattle.sql_evaluation.specs.Cells.{Cell, missing, number, same_row, added, total, greater, greatest_of}
use Rattle.sql_evaluation.specs.Values.{each, Look, look_at, View, value, holds, sum_of, maximum_of}
use Rattle.sql_evaluation.specs.Evaluation.{Rows, Engine, row_view, key_cell, is_key, in_group, group_view, one_group, group_views, having_true, taken, item_name, item_value, with_items, selected, evaluate}
use Rattle.sql_check_laws.proofs.CellLemmas.{same_row-decides}
use Rattle.sql_check_laws.proofs.EachLemmas.{each-known, each-map, map-map, map-known, filter-known, filter-map, taken-known}
use Rattle.sql_check_laws.proofs.GroupLemmas.{group_views-some, taken-map}
use Rattle.sql_check_laws.proofs.SeveralLemmas.{shows_none}
use Rattle.sql_measure_laws.specs.Measured.{rows_of_measure}
use Rattle.sql_measure_laws.proofs.SumLemmas.{sum_over, max_over, larger}

-- ---- keys
-- the keys of groups by columns, of rows with these values in them; by no column there is one
abbrev pub keys_by : List Column → List (List Cell) → List (List Cell)
keys_by columns given = if is_not_empty columns then unique_keys same_row given else [] ∷ []

-- a group by its key, of things that look like rows
abbrev pub view_of : {E : Type 0} → List Column → (E → Look) → (E → List Cell) → List E → List Cell → View
view_of columns look key_of es key = record {
  own = key_cell columns key;
  rows = Some (map look (filter (λ p. same_row (key_of p) key) es));
}

some_inj : {X : Type 0} (v w : X) → Some v ≡ Some w → v ≡ w
some_inj {X} v w e = ap (λ (o : Option X). unwrap_or o v) e

filter-all : {X : Type 0} (p : X → Bool) (xs : List X) → ((x : X) → Contains xs x → p x ≡ true) → filter p xs ≡ xs
filter-all p [] all = refl
filter-all {X} p (x ∷ xs) all =
    rw (all x (Contains-head x xs)) (ap (λ (zs : List X). x ∷ zs) (filter-all p xs (λ z h. all z (Contains-later x xs z h))))

-- all rows are of the one group by no column
views-none : {E : Type 0} (look : E → Look) (key_of : E → List Cell) (es : List E) → ((p : E) → Contains es p → each (look p) [] ≡ Some (key_of p))
    → group_views [] (map look es) ≡ Some (view_of [] look key_of es [] ∷ [])
views-none {E} look key_of es known =
    let all : filter (λ (p : E). same_row (key_of p) []) es ≡ es =
    filter-all (λ (p : E). same_row (key_of p) []) es
    (λ p h. (same_row-decides (key_of p) []).1 (sym (some_inj [] (key_of p) (known p h)))) in
    ap (λ (ps : List E). Some (one_group (map look ps) ∷ [])) (sym all)

views-some : {E : Type 0} (columns : List Column) (look : E → Look) (key_of : E → List Cell) (es : List E) → is_not_empty columns ≡ true
    → ((p : E) → Contains es p → each (look p) columns ≡ Some (key_of p))
    → group_views columns (map look es) ≡ Some (map (view_of columns look key_of es) (unique_keys same_row (map key_of es)))
views-some {E} columns look key_of es not_empty known =
    let looks = map look es in
    group_views-some columns looks not_empty
    ∙ ap (option_map (λ (keys : List (List Cell)). map (group_view columns looks) (unique_keys same_row keys)))
    (each-map (λ (l : Look). each l columns) look es ∙ each-known (λ (p : E). each (look p) columns) key_of es known)
    ∙ ap (λ (views : List View). Some views)
    (map-known (group_view columns looks) (view_of columns look key_of es) (unique_keys same_row (map key_of es)) (λ key h.
    ap (λ (rows : List Look). record { own = key_cell columns key; rows = Some rows })
    (filter-map (in_group columns key) look es
    ∙ ap (map look) (filter-known (λ (p : E). in_group columns key (look p)) (λ (p : E). same_row (key_of p) key) es (λ p m. ap (is_key key) (known p m))))))

views-known : {E : Type 0} (columns : List Column) (look : E → Look) (key_of : E → List Cell) (es : List E)
    → ((p : E) → Contains es p → each (look p) columns ≡ Some (key_of p))
    → group_views columns (map look es) ≡ Some (map (view_of columns look key_of es) (keys_by columns (map key_of es)))
views-known [] look key_of es known = views-none look key_of es known
views-known (c ∷ cs) look key_of es known = views-some (c ∷ cs) look key_of es refl known

-- ---- a query that groups
pub grouped-known : {E : Type 0} (e : Engine) (q : Query) (alias : List ℕ) (names : List (List ℕ)) (row_of : E → List Cell) (es : List E)
    (columns : List Column) (key_of : E → List Cell) (items : List Item) (shown : List Cell → List Cell)
    → evaluate e q ≡ Some (record { names = names; rows = map row_of es })
    → ((p : E) → Contains es p → each (look_at alias names (row_of p)) columns ≡ Some (key_of p))
    → ((key : List Cell) → Contains (keys_by columns (map key_of es)) key
    → each (item_value e.cast (view_of columns (λ p. look_at alias names (row_of p)) key_of es key)) items ≡ Some (shown key))
    → evaluate e (select false items q alias (groups_by columns None))
    ≡ Some (record { names = map item_name items; rows = map shown (keys_by columns (map key_of es)) })
grouped-known {E} e q alias names row_of es columns key_of items shown given keyed shows =
    let look = λ (p : E). look_at alias names (row_of p) in
    let keys = keys_by columns (map key_of es) in
    let each_shown = λ (v : View). each (item_value e.cast v) items in
    ap (option_and_then (selected e.cast false items alias (groups_by columns None))) given
    ∙ ap (λ (looks : List Look). option_map (with_items false items) (option_and_then (each each_shown) (option_and_then (having_true e.cast None) (group_views columns looks))))
    (map-map (look_at alias names) row_of es)
    ∙ ap (λ (views : Option (List View)). option_map (with_items false items) (option_and_then (each each_shown) (option_and_then (having_true e.cast None) views)))
    (views-known columns look key_of es keyed)
    ∙ ap (option_map (with_items false items))
    (each-map each_shown (view_of columns look key_of es) keys
    ∙ each-known (λ (key : List Cell). each_shown (view_of columns look key_of es key)) shown keys shows)

-- ---- values of a group
-- a sum and a greatest value, of no rows a missing value
abbrev pub sum_cell : {E : Type 0} → (E → ℕ) → List E → Cell
sum_cell f [] = missing
sum_cell f (p ∷ ps) = number (pos (sum_over f (p ∷ ps)))

abbrev pub max_cell : {E : Type 0} → (E → ℕ) → List E → Cell
max_cell f [] = missing
max_cell f (p ∷ ps) = number (pos (max_over f (p ∷ ps)))

-- one more number
added-number : (m n : ℕ) → added (number (pos m)) (number (pos n)) ≡ Some (number (pos (m + n)))
added-number m n = ap (λ (z : ℤ). Some (number z)) (pos-+ℤ-pos m n)

larger-pos : (b : Bool) (m n : ℕ) → Some (number (if b then pos n else pos m)) ≡ Some (number (pos (if b then n else m)))
larger-pos true m n = refl
larger-pos false m n = refl

larger-zero : (n : ℕ) → n ≡ larger n 0
larger-zero n = grind (arith, nat_tests)

pub total-cells : {E : Type 0} (f : E → ℕ) (ps : List E) → total (map (λ p. number (pos (f p))) ps) ≡ Some (sum_cell f ps)
total-cells f [] = refl
total-cells f (p ∷ []) = ap (λ (n : ℕ). Some (number (pos n))) (omega arith)
total-cells {E} f (p ∷ q ∷ ps) =
    ap (option_and_then (added (number (pos (f p))))) (total-cells f (q ∷ ps)) ∙ added-number (f p) (sum_over f (q ∷ ps))

pub greatest-cells : {E : Type 0} (f : E → ℕ) (ps : List E) → greatest_of (map (λ p. number (pos (f p))) ps) ≡ Some (max_cell f ps)
greatest-cells f [] = refl
greatest-cells f (p ∷ []) = ap (λ (n : ℕ). Some (number (pos n))) (larger-zero (f p))
greatest-cells {E} f (p ∷ q ∷ ps) =
    ap (option_and_then (greater (number (pos (f p))))) (greatest-cells f (q ∷ ps))
    ∙ larger-pos (nat_lt (f p) (max_over f (q ∷ ps))) (f p) (max_over f (q ∷ ps))

-- rows as a group, whatever its columns have
abbrev pub group_of : {E : Type 0} → Look → (E → Look) → List E → View
group_of held look ps = record { own = held; rows = Some (map look ps) }

cells-known : {E : Type 0} (look : E → Look) (c : Column) (f : E → ℕ) (ps : List E) → ((p : E) → Contains ps p → look p c ≡ Some (number (pos (f p))))
    → each (λ (l : Look). l c) (map look ps) ≡ Some (map (λ p. number (pos (f p))) ps)
cells-known {E} look c f ps known =
    each-map (λ (l : Look). l c) look ps ∙ each-known (λ (p : E). look p c) (λ (p : E). number (pos (f p))) ps known

pub sum-value : {E : Type 0} (held : Look) (look : E → Look) (c : Column) (f : E → ℕ) (ps : List E)
    → ((p : E) → Contains ps p → look p c ≡ Some (number (pos (f p)))) → sum_of (group_of held look ps) c ≡ Some (sum_cell f ps)
sum-value held look c f ps known = ap (option_and_then total) (cells-known look c f ps known) ∙ total-cells f ps

pub max-value : {E : Type 0} (held : Look) (look : E → Look) (c : Column) (f : E → ℕ) (ps : List E)
    → ((p : E) → Contains ps p → look p c ≡ Some (number (pos (f p)))) → maximum_of (group_of held look ps) c ≡ Some (max_cell f ps)
max-value held look c f ps known = ap (option_and_then greatest_of) (cells-known look c f ps known) ∙ greatest-cells f ps

-- ---- three numbers
-- a row of three numbers, where there is a group
abbrev pub rows_if : ℕ → Cell → Cell → List (List Cell)
rows_if n b c = if nat_lt 0 n then (number (pos n) ∷ b ∷ c ∷ []) ∷ [] else []

abbrev total_names : List ℕ → List (List ℕ)
total_names name = codes "groups" ∷ codes "rows" ∷ name ∷ []

abbrev total_items : List ℕ → List Item
total_items name = own (shown_column (codes "groups")) ∷ own (shown_column (codes "rows")) ∷ own (shown_column name) ∷ []

abbrev some_groups : Condition
some_groups = exceeds (column (shown_column (codes "groups"))) number_zero

-- the name of the third number is not that of another
pub record IsThirdName (name : List ℕ) : Type 0 where
  pub not_groups : bytes_eq (codes "groups") name ≡ false
  pub not_rows : bytes_eq (codes "rows") name ≡ false
  pub itself : bytes_eq name name ≡ true

third-shown : (name : List ℕ) (a b c : Cell) → IsThirdName name
    → look_at (codes "h") (total_names name) (a ∷ b ∷ c ∷ []) (shown_column name) ≡ Some c
third-shown name a b c third =
    ap (λ (t : Bool). if t then Some a else if bytes_eq (codes "rows") name then Some b else if bytes_eq name name then Some c else None) third.not_groups
    ∙ ap (λ (t : Bool). if t then Some b else if bytes_eq name name then Some c else None) third.not_rows
    ∙ ap (λ (t : Bool). if t then Some c else None) third.itself

totals-shown : (cast : List ℕ → Option ℤ) (name : List ℕ) (a b c : Cell) → IsThirdName name
    → each (item_value cast (row_view (look_at (codes "h") (total_names name) (a ∷ b ∷ c ∷ [])))) (total_items name) ≡ Some (a ∷ b ∷ c ∷ [])
totals-shown cast name a b c third =
    ap (λ (found : Option Cell). option_map (λ (ys : List Cell). a ∷ ys) (option_map (λ (ys : List Cell). b ∷ ys) (option_and_then (λ (y : Cell). option_map (λ (ys : List Cell). y ∷ ys) (Some [])) found)))
    (third-shown name a b c third)

totals-cases : (cast : List ℕ → Option ℤ) (name : List ℕ) (n : ℕ) (b c : Cell) (some : Bool) → IsThirdName name
    → option_map (with_items false (total_items name))
    (option_and_then (each (λ (v : View). each (item_value cast v) (total_items name)))
    (option_and_then (λ (t : Bool). option_map (λ (rest : List View). if t then row_view (look_at (codes "h") (total_names name) (number (pos n) ∷ b ∷ c ∷ [])) ∷ rest else rest) (Some [])) (Some some)))
    ≡ Some (record { names = map item_name (total_items name); rows = if some then (number (pos n) ∷ b ∷ c ∷ []) ∷ [] else [] })
totals-cases cast name n b c true third =
    ap (λ (found : Option (List Cell)). option_map (with_items false (total_items name)) (option_and_then (λ (y : List Cell). option_map (λ (ys : List (List Cell)). y ∷ ys) (Some [])) found))
    (totals-shown cast name (number (pos n)) b c third)
totals-cases cast name n b c false third = refl

shown-known : (e : Engine) (inner : Query) (name : List ℕ) (n : ℕ) (b c : Cell) → IsThirdName name
    → evaluate e inner ≡ Some (record { names = total_names name; rows = (number (pos n) ∷ b ∷ c ∷ []) ∷ [] })
    → evaluate e (select false (total_items name) inner (codes "h") (rows_where some_groups))
    ≡ Some (record { names = map item_name (total_items name); rows = rows_if n b c })
shown-known e inner name n b c third given =
    ap (option_and_then (selected e.cast false (total_items name) (codes "h") (rows_where some_groups))) given
    ∙ totals-cases e.cast name n b c (nat_lt 0 n) third

-- the groups that pass a test, as one group
pub chosen-known : {K : Type 0} (e : Engine) (q : Query) (names : List (List ℕ)) (row_of : K → List Cell) (ks : List K) (p : Condition) (b : K → Bool) (items : List Item) (row : List Cell)
    → evaluate e q ≡ Some (record { names = names; rows = map row_of ks })
    → ((k : K) → Contains ks k → holds e.cast (row_view (look_at (codes "g") names (row_of k))) p ≡ Some (b k))
    → each (item_value e.cast (one_group (map (λ k. look_at (codes "g") names (row_of k)) (filter b ks)))) items ≡ Some row
    → evaluate e (select false items q (codes "g") (group_where p)) ≡ Some (record { names = map item_name items; rows = row ∷ [] })
chosen-known {K} e q names row_of ks p b items row given tested shows =
    let look = λ (k : K). look_at (codes "g") names (row_of k) in
    let test = λ (l : Look). holds e.cast (row_view l) p in
    let each_shown = λ (v : View). each (item_value e.cast v) items in
    ap (option_and_then (selected e.cast false items (codes "g") (group_where p))) given
    ∙ ap (λ (looks : List Look). option_map (with_items false items) (option_and_then (each each_shown) (option_map (λ (rows : List Look). one_group rows ∷ []) (taken test looks))))
    (map-map (look_at (codes "g") names) row_of ks)
    ∙ ap (λ (found : Option (List Look)). option_map (with_items false items) (option_and_then (each each_shown) (option_map (λ (rows : List Look). one_group rows ∷ []) found)))
    (taken-map test look ks ∙ ap (option_map (map look)) (taken-known (λ (k : K). test (look k)) b ks tested))
    ∙ ap (λ (found : Option (List Cell)). option_map (with_items false items) (option_and_then (λ (y : List Cell). option_map (λ (ys : List (List Cell)). y ∷ ys) (Some [])) found)) shows

pub totals-known : {K : Type 0} (e : Engine) (q : Query) (names : List (List ℕ)) (row_of : K → List Cell) (ks : List K) (p : Condition) (b : K → Bool)
    (rows : Column) (amount : Scalar) (name : List ℕ) (second third : Cell) → IsThirdName name
    → evaluate e q ≡ Some (record { names = names; rows = map row_of ks })
    → ((k : K) → Contains ks k → holds e.cast (row_view (look_at (codes "g") names (row_of k))) p ≡ Some (b k))
    → sum_of (one_group (map (λ k. look_at (codes "g") names (row_of k)) (filter b ks))) rows ≡ Some second
    → value e.cast (one_group (map (λ k. look_at (codes "g") names (row_of k)) (filter b ks))) amount ≡ Some third
    → (result : Rows) × (evaluate e (totals_query rows amount name p q) ≡ Some result) × (result.rows ≡ rows_if (length (filter b ks)) second third)
unfolding totals_query
totals-known {K} e q names row_of ks p b rows amount name second third is_third given tested summed counted =
    let look = λ (k : K). look_at (codes "g") names (row_of k) in
    let chosen = filter b ks in
    let group = one_group (map look chosen) in
    let items = named count (attribute (codes "groups")) ∷ named (sum rows) (attribute (codes "rows")) ∷ named amount (attribute name) ∷ [] in
    let n = length chosen in
    let shows : each (item_value e.cast group) items ≡ Some (number (pos n) ∷ second ∷ third ∷ []) =
    ap (λ (m : ℕ). option_map (λ (ys : List Cell). number (pos m) ∷ ys) (each (item_value e.cast group) (named (sum rows) (attribute (codes "rows")) ∷ named amount (attribute name) ∷ []))) (length-map chosen look)
    ∙ ap (λ (found : Option Cell). option_map (λ (ys : List Cell). number (pos n) ∷ ys) (option_and_then (λ (y : Cell). option_map (λ (ys : List Cell). y ∷ ys) (each (item_value e.cast group) (named amount (attribute name) ∷ []))) found)) summed
    ∙ ap (λ (found : Option Cell). option_map (λ (ys : List Cell). number (pos n) ∷ ys) (option_map (λ (ys : List Cell). second ∷ ys) (option_and_then (λ (y : Cell). option_map (λ (ys : List Cell). y ∷ ys) (Some [])) found))) counted in (
      _,
      shown-known e (select false items q (codes "g") (group_where p)) name n second third is_third
          (chosen-known e q names row_of ks p b items (number (pos n) ∷ second ∷ third ∷ []) given tested shows),
      refl,
    )

-- a number less another
pub pos-less : (m n d : ℕ) → m ≡ n + d → pos m -ℤ pos n ≡ pos d
pos-less m n d is =
    let turned : m ≡ d + n = omega (arith, is) in
    ap (λ (k : ℕ). pos k -ℤ pos n) turned ∙ ap (λ (z : ℤ). z -ℤ pos n) (sym (pos-+ℤ-pos d n)) ∙ +ℤ-neg_ℤ_cancel (pos d) (pos n)

-- the rows of three numbers are those of the measure
pub rows-stated : (n m d : ℕ) → rows_if n (number (pos m)) (number (pos d)) ≡ rows_of_measure (record { groups = n; rows = m; amount = d })
rows-stated n m d =
    let row : List Cell = number (pos n) ∷ number (pos m) ∷ number (pos d) ∷ [] in
    elim (cases_Bool (nat_lt 0 n)) [
      | inl some ↦
          let more : (n == 0) ≡ false = grind (arith, nat_tests, some) in
          ap (λ (b : Bool). if b then row ∷ [] else []) some ∙ ap (λ (b : Bool). if b then [] else row ∷ []) (sym more)
      | inr none ↦
          let zero : (n == 0) ≡ true = grind (arith, nat_tests, none) in
          ap (λ (b : Bool). if b then row ∷ [] else []) none ∙ ap (λ (b : Bool). if b then [] else row ∷ []) (sym zero)
    ]

-- there is none exactly where no group is
pub no-rows : {X : Type 0} (xs : List X) (b c : Cell) → (rows_if (length xs) b c ≡ []) ↔ (xs ≡ [])
no-rows [] b c = (λ e. refl, λ e. refl)
no-rows (x ∷ xs) b c =
    let row : List Cell = number (pos (length (x ∷ xs))) ∷ b ∷ c ∷ [] in
    let some : nat_lt 0 (length (x ∷ xs)) ≡ true = lt-ltb 0 (length (x ∷ xs)) (omega arith) in (
      λ e. absurd (shows_none (row ∷ []) row (sym (ap (λ (t : Bool). if t then row ∷ [] else []) some) ∙ e) (Contains-head row [])),
      λ e. absurd (shows_none (x ∷ xs) x e (Contains-head x xs)),
    )
