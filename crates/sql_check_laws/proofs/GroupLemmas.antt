-- The values on one set, grouped by those on a part of it.
use Rattle.std.proofs.Common.{◌≡◌, ◌<◌, ℕ, Bool, true, false, List, [], ◌∷◌, get_or, map, filter, Some, None, Option, refl, sym, ap, subst, ◌∙◌}
use Rattle.std.proofs.lemmas.Bool.{true≢false}
use Rattle.std.proofs.lemmas.List.{get_or-map}
use Rattle.std.specs.Prelude.{ℤ, Contains, if◌then◌else◌, option_map, option_and_then, codes}
use Rattle.std.specs.Set.{unique_keys}
use Rattle.attr_sets.specs.Attributes.{Attributes, count_below, IsSubset}
use Rattle.schema_model.specs.Schemas.{Schema}
use Rattle.dep_model.specs.Projections.{members_below}
use Rattle.schema_model.specs.Schemas.{width_of}
use Rattle.dep_model.specs.Tuples.{Tuple, Relation, value_at}
use Rattle.dep_model.proofs.ListLemmas.{Contains-map, map-member}
use Rattle.dep_model.proofs.SchemeLemmas.{members_below-at}
use Rattle.sql_check_laws.proofs.CountLemmas.{in_unique, from_unique, unique-map}
use Rattle.sql_syntax.specs.Names.{is_not_empty}
use Rattle.sql_syntax.specs.Syntax.{Column, own}
use Rattle.sql_check.specs.Columns.{name_at, column_at, columns_on, items_on}
use Rattle.sql_evaluation.specs.Cells.{Cell, missing, same_row}
use Rattle.sql_evaluation.specs.Values.{each, Look, look_at}
use Rattle.sql_evaluation.specs.Evaluation.{key_cell, is_key, in_group, group_view, group_views, item_value, taken}
use Rattle.sql_check_laws.specs.HeldRelations.{compared_cell}
use Rattle.sql_check_laws.proofs.EachLemmas.{each-known, each-map, map-known, map-map, filter-known, filter-map}
use Rattle.sql_check_laws.proofs.ColumnLemmas.{named_cell-member, key_cell-member}
use Rattle.sql_check_laws.proofs.CellLemmas.{same_row-decides, member_of, is_member_of, place_low, names_on_apart}
use Rattle.sql_check_laws.proofs.ValuesLemmas.{cells_on, names_on, values_of}

abbrev pub Cells : Type 0
Cells = ℕ → List ℕ → Cell

-- ---- a part of a row
-- the cells on x of a row on w
abbrev pub pick : Schema → Attributes → Attributes → List Cell → List Cell
pick s w x row = map (λ k. get_or row (count_below w k) missing) (members_below (width_of s) x)

pub pick-cells : (s : Schema) (cell : Cells) (w x : Attributes) (t : Tuple) → IsSubset x w → pick s w x (cells_on s cell w t) ≡ cells_on s cell x t
pick-cells s cell w x t within =
    map-known (λ (k : ℕ). get_or (cells_on s cell w t) (count_below w k) missing) (λ (k : ℕ). compared_cell cell k (value_at t k)) (members_below (width_of s) x)
    (λ k h.
    let m = member_of (width_of s) x k h in
    get_or-map (λ (j : ℕ). compared_cell cell j (value_at t j)) (members_below (width_of s) w) (count_below w k) k missing (place_low (width_of s) w k m.0 (within k m.1))
    ∙ ap (λ (j : ℕ). compared_cell cell j (value_at t j)) (members_below-at (width_of s) w k k m.0 (within k m.1)))

-- each row is that of a tuple
pub value-row : (s : Schema) (cell : Cells) (w : Attributes) (r : Relation) (row : List Cell) → Contains (values_of s cell w r) row
    → (t : Tuple) × Contains r t × (cells_on s cell w t ≡ row)
value-row s cell w r row h =
    map-member (cells_on s cell w) r row (from_unique same_row same_row-decides (map (cells_on s cell w) r) row h)

pub row-value : (s : Schema) (cell : Cells) (w : Attributes) (r : Relation) (t : Tuple) → Contains r t → Contains (values_of s cell w r) (cells_on s cell w t)
row-value s cell w r t h =
    in_unique same_row same_row-decides (map (cells_on s cell w) r) (cells_on s cell w t) (Contains-map (cells_on s cell w) r t h)

-- ---- its columns
look-known : (s : Schema) (cell : Cells) (w : Attributes) (t : Tuple) (k : ℕ) → k < width_of s → w k ≡ true
    → look_at (codes "d") (names_on s w) (cells_on s cell w t) (column_at s (codes "d") k) ≡ Some (compared_cell cell k (value_at t k))
look-known s cell w t k low inside =
    named_cell-member (name_at s) (λ (j : ℕ). compared_cell cell j (value_at t j)) (members_below (width_of s) w) k (names_on_apart s w) (is_member_of (width_of s) w k low inside)

abbrev pub look : Schema → Attributes → List Cell → Look
look s w row = look_at (codes "d") (names_on s w) row

pub key-known : (s : Schema) (cell : Cells) (w x : Attributes) (r : Relation) (row : List Cell) → IsSubset x w → Contains (values_of s cell w r) row
    → each (look s w row) (columns_on s (codes "d") x) ≡ Some (pick s w x row)
key-known s cell w x r row within h =
    let v = value-row s cell w r row h in
    subst (λ (z : List Cell). each (look s w z) (columns_on s (codes "d") x) ≡ Some (pick s w x z)) v.2
    (each-map (look s w (cells_on s cell w v.0)) (column_at s (codes "d")) (members_below (width_of s) x)
    ∙ each-known (λ (k : ℕ). look s w (cells_on s cell w v.0) (column_at s (codes "d") k)) (λ (k : ℕ). compared_cell cell k (value_at v.0 k)) (members_below (width_of s) x)
    (λ k m. let at = member_of (width_of s) x k m in look-known s cell w v.0 k at.0 (within k at.1))
    ∙ ap (λ (key : List Cell). Some key) (sym (pick-cells s cell w x v.0 within)))

-- ---- groups
-- the rows on w that have these cells on x
abbrev pub class_of : Schema → Cells → Attributes → Attributes → Relation → List Cell → List (List Cell)
class_of s cell w x r key = filter (λ row. same_row (pick s w x row) key) (values_of s cell w r)

abbrev pub looks_of : Schema → Cells → Attributes → Relation → List Look
looks_of s cell w r = map (look s w) (values_of s cell w r)

pub keys-known : (s : Schema) (cell : Cells) (w x : Attributes) (r : Relation) → IsSubset x w
    → unique_keys same_row (map (pick s w x) (values_of s cell w r)) ≡ values_of s cell x r
keys-known s cell w x r within =
    unique-map same_row same_row same_row-decides same_row-decides (pick s w x) (map (cells_on s cell w) r)
    ∙ ap (unique_keys same_row) (map-map (pick s w x) (cells_on s cell w) r
    ∙ map-known (λ (t : Tuple). pick s w x (cells_on s cell w t)) (cells_on s cell x) r (λ t h. pick-cells s cell w x t within))

pub group_views-some : (columns : List Column) (looks : List Look) → is_not_empty columns ≡ true
    → group_views columns looks ≡ option_map (λ keys. map (group_view columns looks) (unique_keys same_row keys)) (each (λ l. each l columns) looks)
group_views-some [] looks not_empty = absurd (true≢false (sym not_empty))
group_views-some (c ∷ cs) looks not_empty = refl

pub groups-known : (s : Schema) (cell : Cells) (w x : Attributes) (r : Relation) → IsSubset x w → is_not_empty (columns_on s (codes "d") x) ≡ true
    → group_views (columns_on s (codes "d") x) (looks_of s cell w r)
    ≡ Some (map (group_view (columns_on s (codes "d") x) (looks_of s cell w r)) (values_of s cell x r))
groups-known s cell w x r within not_empty =
    let columns = columns_on s (codes "d") x in
    let looks = looks_of s cell w r in
    group_views-some columns looks not_empty
    ∙ ap (option_map (λ (keys : List (List Cell)). map (group_view columns looks) (unique_keys same_row keys)))
    (each-map (λ (l : Look). each l columns) (look s w) (values_of s cell w r)
    ∙ each-known (λ (row : List Cell). each (look s w row) columns) (pick s w x) (values_of s cell w r) (λ row h. key-known s cell w x r row within h))
    ∙ ap (λ (keys : List (List Cell)). Some (map (group_view columns looks) keys)) (keys-known s cell w x r within)

-- the rows of a group
pub class-known : (s : Schema) (cell : Cells) (w x : Attributes) (r : Relation) (key : List Cell) → IsSubset x w
    → filter (in_group (columns_on s (codes "d") x) key) (looks_of s cell w r) ≡ map (look s w) (class_of s cell w x r key)
class-known s cell w x r key within =
    filter-map (in_group (columns_on s (codes "d") x) key) (look s w) (values_of s cell w r)
    ∙ ap (map (look s w)) (filter-known (λ (row : List Cell). in_group (columns_on s (codes "d") x) key (look s w row)) (λ (row : List Cell). same_row (pick s w x row) key) (values_of s cell w r)
    (λ row h. ap (is_key key) (key-known s cell w x r row within h)))

-- ---- what is shown of a group
pub key-shown : (s : Schema) (cell : Cells) (x : Attributes) (t : Tuple) (k : ℕ) → Contains (members_below (width_of s) x) k
    → key_cell (columns_on s (codes "d") x) (cells_on s cell x t) (column_at s (codes "d") k) ≡ Some (compared_cell cell k (value_at t k))
key-shown s cell x t k h =
    key_cell-member (column_at s (codes "d")) (codes "d") (λ (j : ℕ). compared_cell cell j (value_at t j)) (members_below (width_of s) x) k (λ m. refl) (names_on_apart s x) h

pub items-shown : (s : Schema) (cast : List ℕ → Option ℤ) (cell : Cells) (x : Attributes) (looks : List Look) (r : Relation) (key : List Cell) → Contains (values_of s cell x r) key
    → each (item_value cast (group_view (columns_on s (codes "d") x) looks key)) (items_on s (codes "d") x) ≡ Some key
items-shown s cast cell x looks r key h =
    let v = value-row s cell x r key h in
    let columns = columns_on s (codes "d") x in
    subst (λ (z : List Cell). each (item_value cast (group_view columns looks z)) (items_on s (codes "d") x) ≡ Some z) v.2
    (each-map (item_value cast (group_view columns looks (cells_on s cell x v.0))) (λ (k : ℕ). own (column_at s (codes "d") k)) (members_below (width_of s) x)
    ∙ each-known (λ (k : ℕ). item_value cast (group_view columns looks (cells_on s cell x v.0)) (own (column_at s (codes "d") k))) (λ (k : ℕ). compared_cell cell k (value_at v.0 k)) (members_below (width_of s) x)
    (λ k m. key-shown s cell x v.0 k m))

-- ---- tests of groups
taken-step : {W X : Type 0} (h : W → X) (w : W) (b : Bool) (rest : List W)
    → (if b then h w ∷ map h rest else map h rest) ≡ map h (if b then w ∷ rest else rest)
taken-step h w true rest = refl
taken-step h w false rest = refl

taken-all : {W X : Type 0} (h : W → X) (w : W) (test : Option Bool) (found : Option (List W))
    → option_and_then (λ (b : Bool). option_map (λ (rest : List X). if b then h w ∷ rest else rest) (option_map (map h) found)) test
    ≡ option_map (map h) (option_and_then (λ (b : Bool). option_map (λ (rest : List W). if b then w ∷ rest else rest) found) test)
taken-all h w None found = refl
taken-all h w (Some b) None = refl
taken-all h w (Some b) (Some rest) = ap (λ (xs : List _). Some xs) (taken-step h w b rest)

pub taken-map : {W X : Type 0} (f : X → Option Bool) (h : W → X) (ws : List W) → taken f (map h ws) ≡ option_map (map h) (taken (λ w. f (h w)) ws)
taken-map f h [] = refl
taken-map {W} {X} f h (w ∷ ws) =
    ap (λ (all : Option (List X)). option_and_then (λ (b : Bool). option_map (λ (rest : List X). if b then h w ∷ rest else rest) all) (f (h w))) (taken-map f h ws)
    ∙ taken-all h w (f (h w)) (taken (λ v. f (h v)) ws)
