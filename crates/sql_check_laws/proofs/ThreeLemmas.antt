-- Three counts beside each value on a set, grouped by these values again.
use Rattle.std.proofs.Common.{◌≡◌, ◌+◌, ℕ, Bool, true, false, List, [], ◌∷◌, ◌++◌, length, map, filter, Some, None, refl, sym, ap, subst, ◌∙◌, inl, inr, ⊎_elim, arith}
use Rattle.std.proofs.lemmas.Bool.{cases_Bool}
use Rattle.std.proofs.lemmas.Bool.Decides.{Decides-eqb}
use Rattle.std.proofs.lemmas.List.{map-append, map-id}
use Rattle.std.specs.Prelude.{ℤ, pos, ◌+ℤ◌, Contains, if◌then◌else◌, option_map, option_and_then, codes}
use Rattle.std.specs.Set.{unique_keys}
use Rattle.std.specs.Str.{bytes_eq}
use lib.IntN.{pos-+ℤ-pos}
use Rattle.attr_sets.specs.Attributes.{Attributes, union}
use Rattle.schema_model.specs.Schemas.{Schema}
use Rattle.dep_model.specs.Projections.{members_below}
use Rattle.schema_model.specs.Schemas.{width_of}
use Rattle.dep_model.specs.Tuples.{Relation, value_at}
use Rattle.dep_model.proofs.ListLemmas.{map-member}
use Rattle.sql_check_laws.proofs.CountLemmas.{AreWithin, from_unique, unique-append_within, unique-unique, filter-once}
use Rattle.sql_check_laws.proofs.PairLemmas.{Pair, pair, append-member}
use Rattle.sql_syntax.specs.Names.{is_not_empty}
use Rattle.sql_syntax.specs.Syntax.{Query, union_all}
use Rattle.sql_check.specs.Columns.{columns_on, group_at, groups_on}
use Rattle.sql_check.specs.Checks.{first_count, second_count, count_of_both, counts_query, three_counts, sum_column}
use Rattle.sql_evaluation.specs.Cells.{Cell, number, same_row, total}
use Rattle.sql_evaluation.specs.Values.{each, named_cell, Look, look_at}
use Rattle.sql_evaluation.specs.Evaluation.{Rows, Engine, is_key, in_group, group_view, group_views, appended, evaluate}
use Rattle.sql_check_laws.specs.HeldRelations.{compared_cell, Holds}
use Rattle.sql_check_laws.proofs.EachLemmas.{each-known, each-map, map-map, filter-known, filter-map}
use Rattle.sql_check_laws.proofs.CellLemmas.{same_row-decides}
use Rattle.sql_check_laws.proofs.ValuesLemmas.{cells_on, values_of}
use Rattle.sql_check_laws.proofs.GroupLemmas.{Cells, value-row, class_of, group_views-some}
use Rattle.sql_check_laws.proofs.CountsLemmas.{number_name, number_names_apart, count_names, all_names, named-left, named-right, in_first, in_second, in_third, count_rows, counts-known, shows_first, shows_second, shows_third}

-- ---- one after the other
appended-same : (names : List (List ℕ)) (ps qs : List (List Cell))
    → appended (record { names = names; rows = ps }) (record { names = names; rows = qs }) ≡ Some (record { names = names; rows = ps ++ qs })
appended-same names ps qs =
    ap (λ (b : Bool). if b then Some (record { names = names; rows = ps ++ qs }) else None) ((Decides-eqb (length names) (length names)).1 refl)

pub union-known : (e : Engine) (p q : Query) (names : List (List ℕ)) (ps qs : List (List Cell))
    → evaluate e p ≡ Some (record { names = names; rows = ps }) → evaluate e q ≡ Some (record { names = names; rows = qs })
    → evaluate e (union_all p q) ≡ Some (record { names = names; rows = ps ++ qs })
union-known e p q names ps qs first second =
    ap (option_and_then (λ (a : Rows). option_and_then (appended a) (evaluate e q))) first
    ∙ ap (option_and_then (appended (record { names = names; rows = ps }))) second
    ∙ appended-same names ps qs

-- ---- entries: a value on x, and its counts
abbrev pub Entry : Type 0
Entry = Pair (List Cell) (List Cell)

abbrev pub row_of_entry : Entry → List Cell
row_of_entry p = p.first ++ p.second

-- the sizes of the classes of a value
abbrev pub size_on : Schema → Cells → Attributes → Relation → Attributes → List Cell → ℕ
size_on s cell x r w key = length (class_of s cell w x r key)

abbrev pub entry : Schema → Cells → Attributes → Relation → Attributes → (ℕ → List Cell) → List Cell → Entry
entry s cell x r w cells key = pair key (cells (size_on s cell x r w key))

abbrev pub entries : Schema → Cells → Attributes → Relation → Attributes → (ℕ → List Cell) → List Entry
entries s cell x r w cells = map (entry s cell x r w cells) (values_of s cell x r)

abbrev pub all_entries : Schema → Cells → Attributes → Relation → Attributes → Attributes → Attributes → List Entry
all_entries s cell x r w1 w2 w3 =
    entries s cell x r w1 in_first ++ entries s cell x r w2 in_second ++ entries s cell x r w3 in_third

rows-entries : (s : Schema) (cell : Cells) (x : Attributes) (r : Relation) (w : Attributes) (cells : ℕ → List Cell)
    → count_rows s cell w x r cells ≡ map row_of_entry (entries s cell x r w cells)
rows-entries s cell x r w cells = sym (map-map row_of_entry (entry s cell x r w cells) (values_of s cell x r))

pub three-known : (e : Engine) (table : List ℕ) (s : Schema) (cell : Cells) (r : Relation) (x y z : Attributes) → Holds e table s cell r
    → is_not_empty (columns_on s (codes "d") x) ≡ true
    → evaluate e (three_counts s table x y z)
    ≡ Some (record { names = all_names s x; rows = map row_of_entry (all_entries s cell x r (union x y) (union x z) (union x (union y z))) })
unfolding three_counts
three-known e table s cell r x y z held not_empty =
    let w1 = union x y in
    let w2 = union x z in
    let w3 = union x (union y z) in
    let names = all_names s x in
    let first = counts-known e table s cell r x w1 first_count in_first held (λ (k : ℕ) m. grind (arith, m)) not_empty shows_first refl in
    let second = counts-known e table s cell r x w2 second_count in_second held (λ (k : ℕ) m. grind (arith, m)) not_empty shows_second refl in
    let third = counts-known e table s cell r x w3 count_of_both in_third held (λ (k : ℕ) m. grind (arith, m)) not_empty shows_third refl in
    let e1 = entries s cell x r w1 in_first in
    let e2 = entries s cell x r w2 in_second in
    let e3 = entries s cell x r w3 in_third in
    union-known e (union_all (counts_query s table x w1 first_count) (counts_query s table x w2 second_count)) (counts_query s table x w3 count_of_both) names
    (count_rows s cell w1 x r in_first ++ count_rows s cell w2 x r in_second) (count_rows s cell w3 x r in_third)
    (union-known e (counts_query s table x w1 first_count) (counts_query s table x w2 second_count) names
    (count_rows s cell w1 x r in_first) (count_rows s cell w2 x r in_second) first second)
    third
    ∙ ap (λ (rows : List (List Cell)). Some (record { names = names; rows = rows }))
    (ap (λ (rows : List (List Cell)). rows ++ count_rows s cell w2 x r in_second ++ count_rows s cell w3 x r in_third) (rows-entries s cell x r w1 in_first)
    ∙ ap (λ (rows : List (List Cell)). map row_of_entry e1 ++ rows ++ count_rows s cell w3 x r in_third) (rows-entries s cell x r w2 in_second)
    ∙ ap (λ (rows : List (List Cell)). map row_of_entry e1 ++ map row_of_entry e2 ++ rows) (rows-entries s cell x r w3 in_third)
    ∙ ap (λ (rows : List (List Cell)). rows ++ map row_of_entry e3) (sym (map-append row_of_entry e1 e2))
    ∙ sym (map-append row_of_entry (e1 ++ e2) e3))

-- ---- the columns of an entry
abbrev pub look_in : Schema → Attributes → Entry → Look
look_in s x p = look_at (codes "e") (all_names s x) (row_of_entry p)

entry-value : (s : Schema) (cell : Cells) (x : Attributes) (r : Relation) (w : Attributes) (cells : ℕ → List Cell) (p : Entry) → Contains (entries s cell x r w cells) p
    → Contains (values_of s cell x r) p.first
entry-value s cell x r w cells p h =
    let found = map-member (entry s cell x r w cells) (values_of s cell x r) p h in
    subst (λ (key : List Cell). Contains (values_of s cell x r) key) (ap (λ (q : Entry). q.first) found.2) found.1

entries-value : (s : Schema) (cell : Cells) (x : Attributes) (r : Relation) (w1 w2 w3 : Attributes) (p : Entry) → Contains (all_entries s cell x r w1 w2 w3) p
    → Contains (values_of s cell x r) p.first
entries-value s cell x r w1 w2 w3 p h =
    let e1 = entries s cell x r w1 in_first in
    let e2 = entries s cell x r w2 in_second in
    let e3 = entries s cell x r w3 in_third in
    ⊎_elim
    (λ front. ⊎_elim (λ a. entry-value s cell x r w1 in_first p a) (λ b. entry-value s cell x r w2 in_second p b) (append-member e1 e2 p front))
    (λ back. entry-value s cell x r w3 in_third p back)
    (append-member (e1 ++ e2) e3 p h)

entry-key : (s : Schema) (cell : Cells) (x : Attributes) (r : Relation) (p : Entry) → Contains (values_of s cell x r) p.first
    → each (look_in s x p) (groups_on s x) ≡ Some p.first
entry-key s cell x r p h =
    let v = value-row s cell x r p.first h in
    subst (λ (key : List Cell). each (look_at (codes "e") (all_names s x) (key ++ p.second)) (groups_on s x) ≡ Some key) v.2
    (each-map (look_at (codes "e") (all_names s x) (cells_on s cell x v.0 ++ p.second)) (group_at x) (members_below (width_of s) x)
    ∙ each-known (λ (k : ℕ). look_at (codes "e") (all_names s x) (cells_on s cell x v.0 ++ p.second) (group_at x k)) (λ (k : ℕ). compared_cell cell k (value_at v.0 k)) (members_below (width_of s) x)
    (λ k m. named-left (number_name x) (λ (j : ℕ). compared_cell cell j (value_at v.0 j)) (members_below (width_of s) x) count_names p.second k (number_names_apart s x) m))

-- ---- the groups
abbrev pub looks_in : Schema → Cells → Attributes → Relation → Attributes → Attributes → Attributes → List Look
looks_in s cell x r w1 w2 w3 = map (look_in s x) (all_entries s cell x r w1 w2 w3)

firsts : (s : Schema) (cell : Cells) (x : Attributes) (r : Relation) (w : Attributes) (cells : ℕ → List Cell)
    → map (λ (p : Entry). p.first) (entries s cell x r w cells) ≡ values_of s cell x r
firsts s cell x r w cells = map-map (λ (p : Entry). p.first) (entry s cell x r w cells) (values_of s cell x r) ∙ map-id (values_of s cell x r)

keys-again : (s : Schema) (cell : Cells) (x : Attributes) (r : Relation) (w1 w2 w3 : Attributes)
    → unique_keys same_row (map (λ (p : Entry). p.first) (all_entries s cell x r w1 w2 w3)) ≡ values_of s cell x r
keys-again s cell x r w1 w2 w3 =
    let first = λ (p : Entry). p.first in
    let keys = values_of s cell x r in
    let e1 = entries s cell x r w1 in_first in
    let e2 = entries s cell x r w2 in_second in
    let e3 = entries s cell x r w3 in_third in
    let parts : map first (e1 ++ e2 ++ e3) ≡ keys ++ keys ++ keys =
    map-append first (e1 ++ e2) e3
    ∙ ap (λ (ks : List (List Cell)). ks ++ map first e3) (map-append first e1 e2)
    ∙ ap (λ (ks : List (List Cell)). ks ++ map first e2 ++ map first e3) (firsts s cell x r w1 in_first)
    ∙ ap (λ (ks : List (List Cell)). keys ++ ks ++ map first e3) (firsts s cell x r w2 in_second)
    ∙ ap (λ (ks : List (List Cell)). keys ++ keys ++ ks) (firsts s cell x r w3 in_third) in
    let within : AreWithin (keys ++ keys) keys = λ q h. ⊎_elim (λ a. a) (λ b. b) (append-member keys keys q h) in
    ap (unique_keys same_row) parts
    ∙ unique-append_within same_row same_row-decides (keys ++ keys) keys within
    ∙ unique-unique same_row same_row-decides (map (cells_on s cell x) r)

pub groups-again : (s : Schema) (cell : Cells) (x : Attributes) (r : Relation) (w1 w2 w3 : Attributes) → is_not_empty (groups_on s x) ≡ true
    → group_views (groups_on s x) (looks_in s cell x r w1 w2 w3)
    ≡ Some (map (group_view (groups_on s x) (looks_in s cell x r w1 w2 w3)) (values_of s cell x r))
groups-again s cell x r w1 w2 w3 not_empty =
    let columns = groups_on s x in
    let looks = looks_in s cell x r w1 w2 w3 in
    let all = all_entries s cell x r w1 w2 w3 in
    group_views-some columns looks not_empty
    ∙ ap (option_map (λ (keys : List (List Cell)). map (group_view columns looks) (unique_keys same_row keys)))
    (each-map (λ (l : Look). each l columns) (look_in s x) all
    ∙ each-known (λ (p : Entry). each (look_in s x p) columns) (λ (p : Entry). p.first) all
    (λ p h. entry-key s cell x r p (entries-value s cell x r w1 w2 w3 p h)))
    ∙ ap (λ (keys : List (List Cell)). Some (map (group_view columns looks) keys)) (keys-again s cell x r w1 w2 w3)

-- ---- the rows of a group
filter-append : {X : Type 0} (p : X → Bool) (xs ys : List X) → filter p (xs ++ ys) ≡ filter p xs ++ filter p ys
filter-append p [] ys = refl
filter-append {X} p (x ∷ xs) ys = elim (cases_Bool (p x)) [
  | inl passes ↦ rw passes (ap (λ (zs : List X). x ∷ zs) (filter-append p xs ys))
  | inr fails ↦ rw fails (filter-append p xs ys)
]

one-entry : (s : Schema) (cell : Cells) (x : Attributes) (r : Relation) (w : Attributes) (cells : ℕ → List Cell) (key : List Cell) → Contains (values_of s cell x r) key
    → filter (λ (p : Entry). same_row p.first key) (entries s cell x r w cells) ≡ entry s cell x r w cells key ∷ []
one-entry s cell x r w cells key h =
    filter-map (λ (p : Entry). same_row p.first key) (entry s cell x r w cells) (values_of s cell x r)
    ∙ ap (map (entry s cell x r w cells)) (filter-once same_row same_row-decides (map (cells_on s cell x) r) key (from_unique same_row same_row-decides (map (cells_on s cell x) r) key h))

abbrev pub three_entries : Schema → Cells → Attributes → Relation → Attributes → Attributes → Attributes → List Cell → List Entry
three_entries s cell x r w1 w2 w3 key =
    entry s cell x r w1 in_first key ∷ entry s cell x r w2 in_second key ∷ entry s cell x r w3 in_third key ∷ []

pub group-rows : (s : Schema) (cell : Cells) (x : Attributes) (r : Relation) (w1 w2 w3 : Attributes) (key : List Cell) → Contains (values_of s cell x r) key
    → filter (in_group (groups_on s x) key) (looks_in s cell x r w1 w2 w3) ≡ map (look_in s x) (three_entries s cell x r w1 w2 w3 key)
group-rows s cell x r w1 w2 w3 key h =
    let all = all_entries s cell x r w1 w2 w3 in
    let e1 = entries s cell x r w1 in_first in
    let e2 = entries s cell x r w2 in_second in
    let e3 = entries s cell x r w3 in_third in
    let test = λ (p : Entry). same_row p.first key in
    filter-map (in_group (groups_on s x) key) (look_in s x) all
    ∙ ap (map (look_in s x))
    (filter-known (λ (p : Entry). in_group (groups_on s x) key (look_in s x p)) test all (λ p m. ap (is_key key) (entry-key s cell x r p (entries-value s cell x r w1 w2 w3 p m)))
    ∙ filter-append test (e1 ++ e2) e3
    ∙ ap (λ (zs : List Entry). zs ++ filter test e3) (filter-append test e1 e2)
    ∙ ap (λ (zs : List Entry). zs ++ filter test e2 ++ filter test e3) (one-entry s cell x r w1 in_first key h)
    ∙ ap (λ (zs : List Entry). entry s cell x r w1 in_first key ∷ (zs ++ filter test e3)) (one-entry s cell x r w2 in_second key h)
    ∙ ap (λ (zs : List Entry). entry s cell x r w1 in_first key ∷ entry s cell x r w2 in_second key ∷ zs) (one-entry s cell x r w3 in_third key h))

-- ---- sums
pub sum_of_three : (a b c : ℕ) → total (number (pos a) ∷ number (pos b) ∷ number (pos c) ∷ []) ≡ Some (number (pos (a + (b + c))))
sum_of_three a b c =
    ap (λ (n : ℤ). Some (number n)) (ap (λ (n : ℤ). pos a +ℤ n) (pos-+ℤ-pos b c) ∙ pos-+ℤ-pos a (b + c))

-- a count stands under its name
pub count-cell : (s : Schema) (cell : Cells) (x : Attributes) (r : Relation) (name : List ℕ) (key tail : List Cell) → Contains (values_of s cell x r) key
    → ((k : ℕ) → bytes_eq (number_name x k) name ≡ false)
    → look_in s x (pair key tail) (sum_column name) ≡ named_cell count_names tail name
count-cell s cell x r name key tail h apart =
    let v = value-row s cell x r key h in
    subst (λ (z : List Cell). look_in s x (pair z tail) (sum_column name) ≡ named_cell count_names tail name) v.2
    (named-right (number_name x) (λ (j : ℕ). compared_cell cell j (value_at v.0 j)) (members_below (width_of s) x) count_names tail name apart)
