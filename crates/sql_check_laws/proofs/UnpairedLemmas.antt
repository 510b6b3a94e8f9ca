-- The query of a multivalued dependency.
use Rattle.std.proofs.Common.{◌≡◌, ◌+◌, ◌*◌, ℕ, Bool, true, false, not, List, [], ◌∷◌, length, map, filter, Some, Option, refl, sym, ap, subst, ◌∙◌, inl, inr, arith}
use Rattle.std.proofs.lemmas.Bool.{cases_Bool, true≢false}
use Rattle.std.proofs.lemmas.Bool.Decides.{Decides-int_eq, same_from_decides}
use Rattle.std.specs.Ordering.{int_eq}
use Rattle.std.specs.Prelude.{◌↔◌, ℤ, pos, ◌*ℤ◌, Contains, option_map, option_and_then, codes}
use Rattle.std.specs.Set.{distinct_count, is_member}
use Rattle.std.specs.Str.{bytes_eq}
use lib.IntN.{pos-*ℤ-pos}
use Rattle.attr_sets.specs.Attributes.{Attributes, union, IsSubset}
use Rattle.schema_model.specs.Schemas.{Schema}
use Rattle.dep_model.specs.Projections.{members_below, project_tuple}
use Rattle.schema_model.specs.Schemas.{width_of, universe_of}
use Rattle.dep_model.specs.Tuples.{Tuple, Relation, value_at, AgreeOn, IsOver}
use Rattle.dep_model.proofs.DistinctLemmas.{filter-member, filter-keeps}
use Rattle.dep_model.proofs.ListLemmas.{Contains-map, map-member}
use Rattle.dep_model.proofs.TupleLemmas.{IsOver-length}
use Rattle.dep_model.proofs.TwoRowLemmas.{AgreeOn-refl, AgreeOn-sym, AgreeOn-trans, AgreeOn-union}
use Rattle.sql_check_laws.proofs.CountLemmas.{told_member, member_told, count-alike, filter-unique_map}
use Rattle.sql_check_laws.proofs.PairLemmas.{Pair, pair, pair_eq, pair_eq-decides, ArePaired, pairs_counted}
use Rattle.sql_syntax.specs.Names.{is_not_empty}
use Rattle.sql_syntax.specs.Syntax.{column, named, attribute, Condition, differs, sum, groups_by}
use Rattle.relation_queries.specs.Queries.{unpaired}
use Rattle.relation_queries.specs.Meanings.{GivesNone}
use Rattle.sql_check.specs.Columns.{name_at, columns_on, group_at, groups_on, groups_shown}
use Rattle.sql_check.specs.Checks.{line_item, sum_column, product_of_counts, groups_of_unpaired}
use Rattle.sql_evaluation.specs.Cells.{Cell, number, same_row, multiplied, differ, total}
use Rattle.sql_evaluation.specs.Values.{each, of_both, named_cell, Look, look_at, View, sum_of, holds}
use Rattle.sql_evaluation.specs.Evaluation.{Engine, group_view, group_views, having_true, item_name, item_value, with_items, selected, evaluate}
use Rattle.sql_check_laws.specs.HeldRelations.{compared_cell, Holds}
use Rattle.sql_check_laws.proofs.EachLemmas.{each-known, each-map, map-map, taken-known, filter-known}
use Rattle.sql_check_laws.proofs.ColumnLemmas.{key_cell-member}
use Rattle.sql_check_laws.proofs.CellLemmas.{same_row-decides}
use Rattle.sql_check_laws.proofs.ValuesLemmas.{cells_on, values_of}
use Rattle.sql_check_laws.proofs.GroupLemmas.{Cells, pick, pick-cells, value-row, row-value, taken-map}
use Rattle.sql_check_laws.proofs.SeveralLemmas.{after_line, agree-cells, cells-agree, nil_from_none, shows_none}
use Rattle.sql_check_laws.proofs.CountsLemmas.{number_name, number_names_apart, count_names, all_names, in_first, in_second, in_third}
use Rattle.sql_check_laws.proofs.ThreeLemmas.{size_on, entry, all_entries, row_of_entry, three-known, look_in, looks_in, groups-again, group-rows, sum_of_three, count-cell}

-- ---- sums of a group
each-three : {X Y : Type 0} (f : X → Option Y) (a b c : X) (u v w : Y) → f a ≡ Some u → f b ≡ Some v → f c ≡ Some w
    → each f (a ∷ b ∷ c ∷ []) ≡ Some (u ∷ v ∷ w ∷ [])
each-three {X} {Y} f a b c u v w first second third =
    ap (option_and_then (λ (y : Y). option_map (λ (ys : List Y). y ∷ ys) (each f (b ∷ c ∷ [])))) first
    ∙ ap (option_map (λ (ys : List Y). u ∷ ys))
    (ap (option_and_then (λ (y : Y). option_map (λ (ys : List Y). y ∷ ys) (each f (c ∷ [])))) second
    ∙ ap (option_map (λ (ys : List Y). v ∷ ys)) (ap (option_and_then (λ (y : Y). option_map (λ (ys : List Y). y ∷ ys) (Some []))) third))

abbrev IsNoNumber : Attributes → List ℕ → Type 0
IsNoNumber x name = (k : ℕ) → bytes_eq (number_name x k) name ≡ false

group-sum : (s : Schema) (cell : Cells) (x : Attributes) (r : Relation) (w1 w2 w3 : Attributes) (key : List Cell) (name : List ℕ) (a b c : ℕ)
    → Contains (values_of s cell x r) key → IsNoNumber x name
    → named_cell count_names (in_first (size_on s cell x r w1 key)) name ≡ Some (number (pos a))
    → named_cell count_names (in_second (size_on s cell x r w2 key)) name ≡ Some (number (pos b))
    → named_cell count_names (in_third (size_on s cell x r w3 key)) name ≡ Some (number (pos c))
    → sum_of (group_view (groups_on s x) (looks_in s cell x r w1 w2 w3) key) (sum_column name) ≡ Some (number (pos (a + (b + c))))
group-sum s cell x r w1 w2 w3 key name a b c h apart first second third =
    let f = λ (l : Look). l (sum_column name) in
    ap (λ (rows : List Look). option_and_then total (each f rows)) (group-rows s cell x r w1 w2 w3 key h)
    ∙ ap (option_and_then total)
    (each-three f (look_in s x (entry s cell x r w1 in_first key)) (look_in s x (entry s cell x r w2 in_second key)) (look_in s x (entry s cell x r w3 in_third key))
    (number (pos a)) (number (pos b)) (number (pos c))
    (count-cell s cell x r name key (in_first (size_on s cell x r w1 key)) h apart ∙ first)
    (count-cell s cell x r name key (in_second (size_on s cell x r w2 key)) h apart ∙ second)
    (count-cell s cell x r name key (in_third (size_on s cell x r w3 key)) h apart ∙ third))
    ∙ sum_of_three a b c

-- ---- the test
abbrev test_of_unpaired : Condition
test_of_unpaired = differs product_of_counts (sum (sum_column (codes "n")))

-- the product of the first two counts is not the third
abbrev pub uneven : ℕ → ℕ → ℕ → Bool
uneven a b c = not (int_eq (pos (a * b)) (pos c))

abbrev pub uneven_at : Schema → Cells → Attributes → Relation → Attributes → Attributes → Attributes → List Cell → Bool
uneven_at s cell x r w1 w2 w3 key =
    uneven (size_on s cell x r w1 key) (size_on s cell x r w2 key) (size_on s cell x r w3 key)

group-tested : (s : Schema) (cast : List ℕ → Option ℤ) (cell : Cells) (x : Attributes) (r : Relation) (w1 w2 w3 : Attributes) (key : List Cell)
    → Contains (values_of s cell x r) key
    → holds cast (group_view (groups_on s x) (looks_in s cell x r w1 w2 w3) key) test_of_unpaired ≡ Some (uneven_at s cell x r w1 w2 w3 key)
group-tested s cast cell x r w1 w2 w3 key h =
    let v = group_view (groups_on s x) (looks_in s cell x r w1 w2 w3) key in
    let a = size_on s cell x r w1 key in
    let b = size_on s cell x r w2 key in
    let c = size_on s cell x r w3 key in
    let in_y : sum_of v (sum_column (codes "y")) ≡ Some (number (pos a)) =
    group-sum s cell x r w1 w2 w3 key (codes "y") a 0 0 h (λ k. refl) refl refl refl ∙ ap (λ (n : ℕ). Some (number (pos n))) (omega arith) in
    let in_z : sum_of v (sum_column (codes "z")) ≡ Some (number (pos b)) =
    group-sum s cell x r w1 w2 w3 key (codes "z") 0 b 0 h (λ k. refl) refl refl refl ∙ ap (λ (n : ℕ). Some (number (pos n))) (omega arith) in
    let in_n : sum_of v (sum_column (codes "n")) ≡ Some (number (pos c)) =
    group-sum s cell x r w1 w2 w3 key (codes "n") 0 0 c h (λ k. refl) refl refl refl ∙ ap (λ (n : ℕ). Some (number (pos n))) (omega arith) in
    ap (λ (y : Option Cell). of_both differ (of_both multiplied y (sum_of v (sum_column (codes "z")))) (sum_of v (sum_column (codes "n")))) in_y
    ∙ ap (λ (z : Option Cell). of_both differ (of_both multiplied (Some (number (pos a))) z) (sum_of v (sum_column (codes "n")))) in_z
    ∙ ap (λ (n : Option Cell). of_both differ (Some (number (pos a *ℤ pos b))) n) in_n
    ∙ ap (λ (n : ℤ). Some (not (int_eq n (pos c)))) (pos-*ℤ-pos a b)

-- ---- what is shown
items-shown : (s : Schema) (cast : List ℕ → Option ℤ) (cell : Cells) (x : Attributes) (looks : List Look) (r : Relation) (key : List Cell) → Contains (values_of s cell x r) key
    → each (item_value cast (group_view (groups_on s x) looks key)) (groups_shown s x) ≡ Some key
items-shown s cast cell x looks r key h =
    let v = value-row s cell x r key h in
    let columns = groups_on s x in
    subst (λ (z : List Cell). each (item_value cast (group_view columns looks z)) (groups_shown s x) ≡ Some z) v.2
    (each-map (item_value cast (group_view columns looks (cells_on s cell x v.0))) (λ (k : ℕ). named (column (group_at x k)) (attribute (name_at s k))) (members_below (width_of s) x)
    ∙ each-known (λ (k : ℕ). item_value cast (group_view columns looks (cells_on s cell x v.0)) (named (column (group_at x k)) (attribute (name_at s k)))) (λ (k : ℕ). compared_cell cell k (value_at v.0 k)) (members_below (width_of s) x)
    (λ k m. key_cell-member (group_at x) (codes "e") (λ (j : ℕ). compared_cell cell j (value_at v.0 j)) (members_below (width_of s) x) k (λ j. refl) (number_names_apart s x) m))

looks-are : (s : Schema) (cell : Cells) (x : Attributes) (r : Relation) (w1 w2 w3 : Attributes)
    → map (look_at (codes "e") (all_names s x)) (map row_of_entry (all_entries s cell x r w1 w2 w3)) ≡ looks_in s cell x r w1 w2 w3
looks-are s cell x r w1 w2 w3 = map-map (look_at (codes "e") (all_names s x)) row_of_entry (all_entries s cell x r w1 w2 w3)

pub unpaired-known : (e : Engine) (table : List ℕ) (s : Schema) (cell : Cells) (r : Relation) (line : ℕ) (x y z : Attributes) → Holds e table s cell r
    → is_not_empty (columns_on s (codes "d") x) ≡ true → is_not_empty (groups_on s x) ≡ true
    → evaluate e (groups_of_unpaired s table line x y z)
    ≡ Some (record {
      names = codes "line" ∷ map item_name (groups_shown s x);
      rows = map (after_line line) (filter (uneven_at s cell x r (union x y) (union x z) (union x (union y z))) (values_of s cell x r));
    })
unfolding groups_of_unpaired
unpaired-known e table s cell r line x y z held not_empty not_empty' =
    let w1 = union x y in
    let w2 = union x z in
    let w3 = union x (union y z) in
    let columns = groups_on s x in
    let items = line_item line ∷ groups_shown s x in
    let looks = looks_in s cell x r w1 w2 w3 in
    let keys = values_of s cell x r in
    let test = uneven_at s cell x r w1 w2 w3 in
    let shown = λ (v : View). each (item_value e.cast v) items in
    ap (option_and_then (selected e.cast false items (codes "e") (groups_by columns (Some test_of_unpaired)))) (three-known e table s cell r x y z held not_empty)
    ∙ ap (λ (looks' : List Look). option_map (with_items false items) (option_and_then (each shown) (option_and_then (having_true e.cast (Some test_of_unpaired)) (group_views columns looks'))))
    (looks-are s cell x r w1 w2 w3)
    ∙ ap (λ (views : Option (List View)). option_map (with_items false items) (option_and_then (each shown) (option_and_then (having_true e.cast (Some test_of_unpaired)) views)))
    (groups-again s cell x r w1 w2 w3 not_empty')
    ∙ ap (λ (views : Option (List View)). option_map (with_items false items) (option_and_then (each shown) views))
    (taken-map (λ (v : View). holds e.cast v test_of_unpaired) (group_view columns looks) keys
    ∙ ap (option_map (map (group_view columns looks))) (taken-known (λ (key : List Cell). holds e.cast (group_view columns looks key) test_of_unpaired) test keys
    (λ key h. group-tested s e.cast cell x r w1 w2 w3 key h)))
    ∙ ap (option_map (with_items false items))
    (each-map shown (group_view columns looks) (filter test keys)
    ∙ each-known (λ (key : List Cell). shown (group_view columns looks key)) (after_line line) (filter test keys)
    (λ key h. ap (option_map (after_line line)) (items-shown s e.cast cell x looks r key (filter-member test keys key h).0)))

-- ---- sizes of classes
-- the tuples of a class
abbrev tuples_of : Schema → Cells → Attributes → Relation → List Cell → Relation
tuples_of s cell x r key = filter (λ t. same_row (cells_on s cell x t) key) r

size-known : (s : Schema) (cell : Cells) (x : Attributes) (r : Relation) (w : Attributes) (key : List Cell) → IsSubset x w
    → size_on s cell x r w key ≡ distinct_count same_row (map (cells_on s cell w) (tuples_of s cell x r key))
size-known s cell x r w key within =
    ap length (filter-unique_map same_row same_row-decides (λ (row : List Cell). same_row (pick s w x row) key) (cells_on s cell w) r)
    ∙ ap (λ (ts : Relation). distinct_count same_row (map (cells_on s cell w) ts))
    (filter-known (λ (t : Tuple). same_row (pick s w x (cells_on s cell w t)) key) (λ (t : Tuple). same_row (cells_on s cell x t) key) r
    (λ t h. ap (λ (row : List Cell). same_row row key) (pick-cells s cell w x t within)))

-- the values on both sets are as many as the pairs
pairs-known : (e : Engine) (table : List ℕ) (s : Schema) (cell : Cells) (r : Relation) (x y z : Attributes) (ts : Relation) → Holds e table s cell r
    → IsSubset (union x (union y z)) (universe_of s) → ((t : Tuple) → Contains ts t → Contains r t)
    → distinct_count same_row (map (cells_on s cell (union x (union y z))) ts)
    ≡ distinct_count (pair_eq same_row same_row) (map (λ t. pair (cells_on s cell (union x y) t) (cells_on s cell (union x z) t)) ts)
pairs-known e table s cell r x y z ts held low inside =
    let w1 = union x y in
    let w2 = union x z in
    let w3 = union x (union y z) in
    let low1 : IsSubset w1 (universe_of s) = λ (k : ℕ) m. low k (grind (arith, m)) in
    let low2 : IsSubset w2 (universe_of s) = λ (k : ℕ) m. low k (grind (arith, m)) in
    count-alike same_row (pair_eq same_row same_row) (cells_on s cell w3) (λ (t : Tuple). pair (cells_on s cell w1 t) (cells_on s cell w2 t)) ts
    (λ t u ht hu.
    let rt = inside t ht in
    let ru = inside u hu in
    let both = pair_eq-decides same_row same_row same_row-decides same_row-decides (pair (cells_on s cell w1 t) (cells_on s cell w2 t)) (pair (cells_on s cell w1 u) (cells_on s cell w2 u)) in
    same_from_decides (same_row (cells_on s cell w3 t) (cells_on s cell w3 u)) (pair_eq same_row same_row (pair (cells_on s cell w1 t) (cells_on s cell w2 t)) (pair (cells_on s cell w1 u) (cells_on s cell w2 u)))
    (same_row-decides (cells_on s cell w3 t) (cells_on s cell w3 u)) (
      λ equal.
          let parts = both.0 equal in
          let on_1 = cells-agree e table s cell r w1 t u held low1 rt ru (ap (λ (p : Pair (List Cell) (List Cell)). p.first) parts) in
          let on_2 = cells-agree e table s cell r w2 t u held low2 rt ru (ap (λ (p : Pair (List Cell) (List Cell)). p.second) parts) in
          agree-cells s cell w3 t u (λ (k : ℕ) m. elim (cases_Bool (w1 k)) [
            | inl first ↦ on_1 k first
            | inr second ↦ on_2 k (grind (arith, m, second))
          ]),
      λ same.
          let agree = cells-agree e table s cell r w3 t u held low rt ru same in
          both.1 (ap (λ (row : List Cell). pair row (cells_on s cell w2 t)) (agree-cells s cell w1 t u (λ (k : ℕ) m. agree k (grind (arith, m))))
          ∙ ap (λ (row : List Cell). pair (cells_on s cell w1 u) row) (agree-cells s cell w2 t u (λ (k : ℕ) m. agree k (grind (arith, m))))),
    ))

-- ---- what it shows
not_false : (b : Bool) → not b ≡ false → b ≡ true
not_false true e = refl
not_false false e = absurd (true≢false e)

natural_of : ℤ → ℕ
natural_of (pos n) = n
natural_of k = 0

pos_same : (m n : ℕ) → pos m ≡ pos n → m ≡ n
unfolding natural_of
pos_same m n e = ap natural_of e

pub even_told : (a b c : ℕ) → uneven a b c ≡ false → a * b ≡ c
even_told a b c even =
    let same : int_eq (pos (a * b)) (pos c) ≡ true = not_false (int_eq (pos (a * b)) (pos c)) even in
    pos_same (a * b) c ((Decides-int_eq (pos (a * b)) (pos c)).0 same)

pub told_even : (a b c : ℕ) → a * b ≡ c → uneven a b c ≡ false
told_even a b c equal = ap not ((Decides-int_eq (pos (a * b)) (pos c)).1 (ap pos equal))

pub unpaired-none : (e : Engine) (table : List ℕ) (s : Schema) (cell : Cells) (r : Relation) (x y z : Attributes) → Holds e table s cell r → IsOver (width_of s) r
    → IsSubset (union x (union y z)) (universe_of s)
    → (filter (uneven_at s cell x r (union x y) (union x z) (union x (union y z))) (values_of s cell x r) ≡ []) ↔ GivesNone (width_of s) (unpaired x y z) r
unpaired-none e table s cell r x y z held over low = (to, from)
  where
    w1 : Attributes
    w1 = union x y

    w2 : Attributes
    w2 = union x z

    w3 : Attributes
    w3 = union x (union y z)

    keys : List (List Cell)
    keys = values_of s cell x r

    test : List Cell → Bool
    test = uneven_at s cell x r w1 w2 w3

    low_x : IsSubset x (universe_of s)
    low_x k m = low k (grind (arith, m))

    low_1 : IsSubset w1 (universe_of s)
    low_1 k m = low k (grind (arith, m))

    low_2 : IsSubset w2 (universe_of s)
    low_2 k m = low k (grind (arith, m))

    within_class : (key : List Cell) (t : Tuple) → Contains (tuples_of s cell x r key) t → Contains r t
    within_class key t h = (filter-member (λ u. same_row (cells_on s cell x u) key) r t h).0

    -- the product is right exactly where all are paired
    paired : (key : List Cell)
        → ArePaired (cells_on s cell w1) (cells_on s cell w2) (tuples_of s cell x r key)
        ↔ (size_on s cell x r w1 key * size_on s cell x r w2 key ≡ size_on s cell x r w3 key)
    paired key =
        let ts = tuples_of s cell x r key in
        let law = pairs_counted same_row same_row same_row-decides same_row-decides (cells_on s cell w1) (cells_on s cell w2) ts in
        let size_1 = size-known s cell x r w1 key (λ (k : ℕ) m. grind (arith, m)) in
        let size_2 = size-known s cell x r w2 key (λ (k : ℕ) m. grind (arith, m)) in
        let size_3 = size-known s cell x r w3 key (λ (k : ℕ) m. grind (arith, m)) ∙ pairs-known e table s cell r x y z ts held low (within_class key) in
        let product : size_on s cell x r w1 key * size_on s cell x r w2 key
        ≡ distinct_count same_row (map (cells_on s cell w1) ts) * distinct_count same_row (map (cells_on s cell w2) ts) =
        ap (λ (n : ℕ). n * size_on s cell x r w2 key) size_1 ∙ ap (λ (n : ℕ). distinct_count same_row (map (cells_on s cell w1) ts) * n) size_2 in
        (λ all. product ∙ law.0 all ∙ sym size_3, λ equal. law.1 (sym product ∙ equal ∙ size_3))

    to : filter test keys ≡ [] → GivesNone (width_of s) (unpaired x y z) r
    to empty a given =
        let u = given.gives.0 in
        let v = given.gives.1 in
        let found = given.gives.2 in
        let key = cells_on s cell x given.tuple in
        let of_u : cells_on s cell x u ≡ key = agree-cells s cell x u given.tuple found.first_agrees in
        let of_v : cells_on s cell x v ≡ key = agree-cells s cell x v given.tuple found.second_agrees in
        let there : Contains keys key = subst (λ (row : List Cell). Contains keys row) of_u (row-value s cell x r u found.first) in
        let even : test key ≡ false = elim (cases_Bool (test key)) [
          | inl odd ↦ absurd (shows_none (filter test keys) key empty (filter-keeps test keys key there odd))
          | inr even ↦ even
        ] in
        let all = (paired key).1 (even_told (size_on s cell x r w1 key) (size_on s cell x r w2 key) (size_on s cell x r w3 key) even) in
        let in_class = λ (t : Tuple) (t_in : Contains r t) (of_t : cells_on s cell x t ≡ key). filter-keeps (λ w. same_row (cells_on s cell x w) key) r t t_in ((same_row-decides (cells_on s cell x t) key).1 of_t) in
        let w = all u v (in_class u found.first of_u) (in_class v found.second of_v) in
        let w_in = within_class key w.0 w.1 in
        let on_1 = cells-agree e table s cell r w1 w.0 u held low_1 w_in found.first w.2 in
        let on_2 = cells-agree e table s cell r w2 w.0 v held low_2 w_in found.second w.3 in
        found.no_pair w.0 w_in (λ (k : ℕ) m. on_1 k (grind (arith, m)) ∙ found.first_agrees k m) (λ (k : ℕ) m. on_1 k (grind (arith, m))) (λ (k : ℕ) m. on_2 k (grind (arith, m)))

    all_paired : GivesNone (width_of s) (unpaired x y z) r → (key : List Cell) → ArePaired (cells_on s cell w1) (cells_on s cell w2) (tuples_of s cell x r key)
    all_paired none key t u ht hu =
        let both = pair_eq-decides same_row same_row same_row-decides same_row-decides in
        let shown = λ (w : Tuple). pair (cells_on s cell w1 w) (cells_on s cell w2 w) in
        let ts = tuples_of s cell x r key in
        let wanted = pair (cells_on s cell w1 t) (cells_on s cell w2 u) in
        let t_at = filter-member (λ w. same_row (cells_on s cell x w) key) r t ht in
        let u_at = filter-member (λ w. same_row (cells_on s cell x w) key) r u hu in
        let of_t = (same_row-decides (cells_on s cell x t) key).0 t_at.1 in
        let of_u = (same_row-decides (cells_on s cell x u) key).0 u_at.1 in
        elim (cases_Bool (is_member (pair_eq same_row same_row) (map shown ts) wanted)) [
          | inl there ↦
              let w = map-member shown ts wanted (told_member (pair_eq same_row same_row) both (map shown ts) wanted there) in
              (w.0, w.1, ap (λ (p : Pair (List Cell) (List Cell)). p.first) w.2, ap (λ (p : Pair (List Cell) (List Cell)). p.second) w.2)
          | inr lacks ↦ absurd (none (project_tuple x t) (record {
            tuple = t;
            over = IsOver-length (width_of s) r t over t_at.0;
            gives = (
              t,
              u,
              record {
                first = t_at.0;
                second = u_at.0;
                first_agrees = AgreeOn-refl x t;
                second_agrees = cells-agree e table s cell r x u t held low_x u_at.0 t_at.0 (of_u ∙ sym of_t);
                no_pair = λ w w_in of_x of_y of_z.
                    let u_t = cells-agree e table s cell r x u t held low_x u_at.0 t_at.0 (of_u ∙ sym of_t) in
                    let on_1 : AgreeOn w1 w t = AgreeOn-union x y w t of_x of_y in
                    let on_2 : AgreeOn w2 w u = AgreeOn-union x z w u (AgreeOn-trans x w t u of_x (AgreeOn-sym x u t u_t)) of_z in
                    let is : shown w ≡ wanted =
                    ap (λ (row : List Cell). pair row (cells_on s cell w2 w)) (agree-cells s cell w1 w t on_1)
                    ∙ ap (λ (row : List Cell). pair (cells_on s cell w1 t) row) (agree-cells s cell w2 w u on_2) in
                    let w_class = filter-keeps (λ v. same_row (cells_on s cell x v) key) r w w_in
                    ((same_row-decides (cells_on s cell x w) key).1 (agree-cells s cell x w t of_x ∙ of_t)) in
                    true≢false (sym (member_told (pair_eq same_row same_row) both (map shown ts) wanted
                    (subst (λ (p : Pair (List Cell) (List Cell)). Contains (map shown ts) p) is (Contains-map shown ts w w_class))) ∙ lacks);
              },
            );
            values = refl;
          }))
        ]

    from : GivesNone (width_of s) (unpaired x y z) r → filter test keys ≡ []
    from none = nil_from_none (filter test keys) (λ key h.
        let at = filter-member test keys key h in
        let equal = (paired key).0 (all_paired none key) in
        true≢false (sym at.1 ∙ told_even (size_on s cell x r w1 key) (size_on s cell x r w2 key) (size_on s cell x r w3 key) equal))
