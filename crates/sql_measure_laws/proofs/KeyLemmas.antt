-- The values by which rows are grouped, of a relation in a table, and the columns that show them.
use Rattle.std.proofs.Common.{◌≡◌, ℕ, Bool, true, false, List, [], ◌∷◌, ◌++◌, map, filter, Some, None, Option, refl, sym, ap, subst, ◌∙◌, inl, inr}
use Rattle.std.proofs.lemmas.Bool.{cases_Bool}
use Rattle.std.specs.Prelude.{ℤ, Contains, if◌then◌else◌, option_map, option_and_then, codes}
use Rattle.std.specs.Set.{unique_keys, is_member}
use Rattle.std.specs.Str.{bytes_eq}
use Rattle.std.proofs.lemmas.List.{map-append}
use Rattle.attr_sets.specs.Attributes.{Attributes, IsSubset}
use Rattle.schema_model.specs.Schemas.{Schema}
use Rattle.dep_model.specs.Projections.{members_below}
use Rattle.schema_model.specs.Schemas.{width_of}
use Rattle.dep_model.specs.Tuples.{Relation, value_at}
use Rattle.dep_model.proofs.ListLemmas.{Contains-head, Contains-nil, Contains-cases}
use Rattle.sql_syntax.specs.Names.{is_not_empty}
use Rattle.sql_syntax.specs.Syntax.{Column, column, Item, named, each_row}
use Rattle.sql_check.specs.Columns.{name_at, column_at, columns_on, compared_at, compared_on, group_name, groups_made}
use Rattle.sql_check.specs.Checks.{has_members}
use Rattle.sql_measure.specs.Measures.{made_column, keys_on, rows_query}
use Rattle.sql_evaluation.specs.Cells.{Cell, missing, same_row}
use Rattle.sql_evaluation.specs.Values.{each, named_cell, Look, look_at, View}
use Rattle.sql_evaluation.specs.Evaluation.{Engine, key_cell, item_name, item_value, with_items, selected, evaluate}
use Rattle.sql_check_laws.specs.HeldRelations.{compared_cell, Holds}
use Rattle.sql_check_laws.proofs.CellLemmas.{same_row-decides, member_of, is_member_of, names_on_apart}
use Rattle.sql_check_laws.proofs.ColumnLemmas.{bytes_self, key_cell-member}
use Rattle.sql_check_laws.proofs.CountLemmas.{filter-once, from_unique, member_told}
use Rattle.sql_check_laws.proofs.CountsLemmas.{each-append, number_name, number_names_apart, named-left, named-right}
use Rattle.sql_check_laws.proofs.EachLemmas.{each-known, each-map, map-map, map-known}
use Rattle.sql_check_laws.proofs.GroupLemmas.{Cells, value-row}
use Rattle.sql_check_laws.proofs.LawLemmas.{nil_not_empty}
use Rattle.sql_check_laws.proofs.ValuesLemmas.{cells_on, names_on, values_of, rows-known}
use Rattle.sql_measure_laws.proofs.GroupedLemmas.{keys_by}

-- ---- rows
-- the values of a relation on a set, as often as they stand
pub stored-known : (e : Engine) (table : List ℕ) (s : Schema) (cell : Cells) (r : Relation) (w : Attributes) → Holds e table s cell r
    → evaluate e (rows_query s table w) ≡ Some (record { names = names_on s w; rows = map (cells_on s cell w) r })
unfolding rows_query
stored-known e table s cell r w holds =
    ap (option_and_then (selected e.cast false (compared_on s w) (codes "r") each_row)) holds.known
    ∙ ap (option_map (with_items false (compared_on s w))) (rows-known s e.cast cell w holds.given.names holds.given.rows r holds.held)
    ∙ ap (λ (names : List (List ℕ)). Some (record { names = names; rows = map (cells_on s cell w) r }))
    (map-map item_name (compared_at s) (members_below (width_of s) w)
    ∙ map-known (λ (k : ℕ). item_name (compared_at s k)) (name_at s) (members_below (width_of s) w) (λ k h. refl))

-- ---- keys
-- the values on x, or the one key where x has no members
abbrev pub keys_of : Schema → Cells → Attributes → Relation → List (List Cell)
keys_of s cell x r = if has_members s x then values_of s cell x r else [] ∷ []

pub not_empty-map : {X Y : Type 0} (f : X → Y) (xs : List X) → is_not_empty (map f xs) ≡ is_not_empty xs
not_empty-map f [] = refl
not_empty-map f (x ∷ xs) = refl

-- columns of the attributes of x have these keys, where the rows have these values there
pub keys-are : (s : Schema) (cell : Cells) (x : Attributes) (r : Relation) (named_by : ℕ → Column) (given : List (List Cell))
    → (has_members s x ≡ true → unique_keys same_row given ≡ values_of s cell x r)
    → keys_by (map named_by (members_below (width_of s) x)) given ≡ keys_of s cell x r
keys-are s cell x r named_by given same =
    let by = λ (b : Bool). if b then unique_keys same_row given else [] ∷ [] in
    let values = λ (b : Bool). if b then values_of s cell x r else [] ∷ [] in
    ap by (not_empty-map named_by (members_below (width_of s) x)) ∙ elim (cases_Bool (has_members s x)) [
      | inl some ↦ ap by some ∙ same some ∙ ap values (sym some)
      | inr none ↦ ap by none ∙ ap values (sym none)
    ]

-- a key shows a value for each attribute of x
abbrev pub KeyOn : Schema → Attributes → List Cell → Type 0
KeyOn s x key = (shown : ℕ → Cell) × (map shown (members_below (width_of s) x) ≡ key)

value-on : (s : Schema) (cell : Cells) (x : Attributes) (r : Relation) (key : List Cell) → Contains (values_of s cell x r) key → KeyOn s x key
value-on s cell x r key h =
    let v = value-row s cell x r key h in
    (λ (k : ℕ). compared_cell cell k (value_at v.0 k), v.2)

only-key : (key : List Cell) → Contains ([] ∷ []) key → key ≡ []
only-key key h = elim (Contains-cases [] [] key h) [
  | inl first ↦ first
  | inr none ↦ absurd (Contains-nil key none)
]

empty-on : (s : Schema) (x : Attributes) (key : List Cell) → members_below (width_of s) x ≡ [] → Contains ([] ∷ []) key → KeyOn s x key
empty-on s x key empty h = (λ (k : ℕ). missing, ap (map (λ (k : ℕ). missing)) empty ∙ sym (only-key key h))

pub key-on : (s : Schema) (cell : Cells) (x : Attributes) (r : Relation) (key : List Cell) → Contains (keys_of s cell x r) key → KeyOn s x key
key-on s cell x r key h = elim (cases_Bool (has_members s x)) [
  | inl some ↦ value-on s cell x r key (subst (λ (b : Bool). Contains (if b then values_of s cell x r else [] ∷ []) key) some h)
  | inr none ↦ empty-on s x key (nil_not_empty (members_below (width_of s) x) none) (subst (λ (b : Bool). Contains (if b then values_of s cell x r else [] ∷ []) key) none h)
]

-- ---- the columns of a key
-- a group by the attributes of g whose key shows these values
abbrev pub made_view : Schema → Attributes → (ℕ → Cell) → Option (List Look) → View
made_view s g shown rows = record { own = key_cell (columns_on s (codes "d") g) (map shown (members_below (width_of s) g)); rows = rows }

-- it shows those of fewer attributes
pub made-shown : (s : Schema) (cast : List ℕ → Option ℤ) (g x : Attributes) (shown : ℕ → Cell) (rows : Option (List Look)) (items : List Item) (cells : List Cell)
    → IsSubset x g → each (item_value cast (made_view s g shown rows)) items ≡ Some cells
    → each (item_value cast (made_view s g shown rows)) (groups_made s x ++ items) ≡ Some (map shown (members_below (width_of s) x) ++ cells)
made-shown s cast g x shown rows items cells within rest =
    each-append (item_value cast (made_view s g shown rows)) (λ (k : ℕ). named (column (column_at s (codes "d") k)) (group_name x k)) shown (members_below (width_of s) x) items cells
    (λ k m.
    let at = member_of (width_of s) x k m in
    key_cell-member (column_at s (codes "d")) (codes "d") shown (members_below (width_of s) g) k (λ j. refl) (names_on_apart s g) (is_member_of (width_of s) g k at.0 (within k at.1)))
    rest

-- the columns by which is counted
pub counted-keys : (s : Schema) (x : Attributes) (alias : List ℕ) (shown : ℕ → Cell) (names : List (List ℕ)) (cells : List Cell)
    → each (look_at alias (map (number_name x) (members_below (width_of s) x) ++ names) (map shown (members_below (width_of s) x) ++ cells)) (keys_on s alias x)
    ≡ Some (map shown (members_below (width_of s) x))
counted-keys s x alias shown names cells =
    let members = members_below (width_of s) x in
    let all_names = map (number_name x) members ++ names in
    let all_cells = map shown members ++ cells in
    let key : ℕ → Column = λ k. record { alias = alias; name = group_name x k } in
    each-map (look_at alias all_names all_cells) key members
    ∙ each-known (λ (k : ℕ). look_at alias all_names all_cells (key k)) shown members
    (λ k m. ap (λ (b : Bool). if b then named_cell all_names all_cells (number_name x k) else None) (bytes_self alias)
    ∙ named-left (number_name x) shown members names cells k (number_names_apart s x) m)

-- a count beside a key stands under its name
pub counted-cell : (x : Attributes) (alias : List ℕ) (shown : ℕ → Cell) (members : List ℕ) (names : List (List ℕ)) (cells : List Cell) (name : List ℕ)
    → ((k : ℕ) → bytes_eq (number_name x k) name ≡ false)
    → look_at alias (map (number_name x) members ++ names) (map shown members ++ cells) (made_column alias name) ≡ named_cell names cells name
counted-cell x alias shown members names cells name apart =
    ap (λ (b : Bool). if b then named_cell (map (number_name x) members ++ names) (map shown members ++ cells) name else None) (bytes_self alias)
    ∙ named-right (number_name x) shown members names cells name apart

-- the names of counts beside those of a key
pub made-names : (s : Schema) (x : Attributes) (items : List Item)
    → map item_name (groups_made s x ++ items) ≡ map (number_name x) (members_below (width_of s) x) ++ map item_name items
made-names s x items =
    map-append item_name (groups_made s x) items
    ∙ ap (λ (names : List (List ℕ)). names ++ map item_name items)
    (map-map item_name (λ (k : ℕ). named (column (column_at s (codes "d") k)) (group_name x k)) (members_below (width_of s) x))

-- ---- where x has no members
-- each tuple has the one key, and a relation without tuples has none
one-key : {X : Type 0} (f : X → List Cell) (t : X) (r : List X) → ((u : X) → f u ≡ []) → unique_keys same_row (map f (t ∷ r)) ≡ [] ∷ []
one-key f t [] none = ap (λ (key : List Cell). key ∷ []) (none t)
one-key {X} f t (u ∷ r) none =
    let there : is_member same_row (map f (u ∷ r)) (f t) ≡ true =
    member_told same_row same_row-decides (map f (u ∷ r)) (f t) (subst (λ (key : List Cell). Contains (map f (u ∷ r)) key) (none u ∙ sym (none t)) (Contains-head (f u) (map f r))) in
    rw there (one-key f u r none)

-- groups that pass a test which no group passes of a relation without tuples are those of values
pub passing-keys : (s : Schema) (cell : Cells) (x : Attributes) (r : Relation) (p : List Cell → Bool) → (r ≡ [] → p [] ≡ false)
    → filter p (keys_of s cell x r) ≡ filter p (values_of s cell x r)
passing-keys s cell x r p none = elim (cases_Bool (has_members s x)) [
  | inl some ↦ ap (λ (b : Bool). filter p (if b then values_of s cell x r else [] ∷ [])) some
  | inr empty ↦
      ap (λ (b : Bool). filter p (if b then values_of s cell x r else [] ∷ [])) empty ∙ of_none r none (nil_not_empty (members_below (width_of s) x) empty)
]
  where
    of_none : (q : Relation) → (q ≡ [] → p [] ≡ false) → members_below (width_of s) x ≡ [] → filter p ([] ∷ []) ≡ filter p (values_of s cell x q)
    of_none [] fails empty = rw (fails refl) refl
    of_none (t ∷ q) fails empty =
        ap (filter p) (sym (one-key (cells_on s cell x) t q (λ u. ap (map (λ (k : ℕ). compared_cell cell k (value_at u k))) empty)))

-- a key stands once among the keys
pub key-once : (s : Schema) (cell : Cells) (x : Attributes) (r : Relation) (key : List Cell) → Contains (keys_of s cell x r) key
    → filter (λ k. same_row k key) (keys_of s cell x r) ≡ key ∷ []
key-once s cell x r key h = elim (cases_Bool (has_members s x)) [
  | inl some ↦
      ap (λ (b : Bool). filter (λ (k : List Cell). same_row k key) (if b then values_of s cell x r else [] ∷ [])) some
      ∙ filter-once same_row same_row-decides (map (cells_on s cell x) r) key
      (from_unique same_row same_row-decides (map (cells_on s cell x) r) key (subst (λ (b : Bool). Contains (if b then values_of s cell x r else [] ∷ []) key) some h))
  | inr none ↦
      let is = only-key key (subst (λ (b : Bool). Contains (if b then values_of s cell x r else [] ∷ []) key) none h) in
      ap (λ (b : Bool). filter (λ (k : List Cell). same_row k key) (if b then values_of s cell x r else [] ∷ [])) none
      ∙ ap (λ (z : List Cell). filter (λ (k : List Cell). same_row k z) ([] ∷ [])) is ∙ ap (λ (z : List Cell). z ∷ []) (sym is)
]
