-- Four counts beside each value on a set, and the query of a multivalued dependency.
use Rattle.std.proofs.Common.{◌≡◌, ◌*◌, ℕ, Bool, true, false, not, List, [], ◌∷◌, ◌++◌, length, map, filter, Some, Option, refl, sym, ap, subst, ◌∙◌, inl, inr, ⊎_elim, arith}
use Rattle.std.proofs.lemmas.Bool.{cases_Bool}
use Rattle.std.proofs.lemmas.Bool.Decides.{Decides-int_eq, same_from_decides}
use Rattle.std.proofs.lemmas.List.{length-map, map-append, map-id}
use Rattle.std.specs.Ordering.{int_eq}
use Rattle.std.specs.Prelude.{ℤ, pos, ◌+ℤ◌, ◌-ℤ◌, Contains, if◌then◌else◌, option_map, option_and_then, codes}
use Rattle.std.specs.Set.{unique_keys}
use Rattle.std.specs.Str.{bytes_eq}
use lib.IntN.{pos-+ℤ-pos, pos-*ℤ-pos, -ℤ-+ℤ_cancel, +ℤ_invr, +ℤ_idl, +ℤ_idr}
use Rattle.attr_sets.specs.Attributes.{Attributes, union, IsSubset}
use Rattle.schema_model.specs.Schemas.{Schema}
use Rattle.dep_model.specs.Projections.{members_below}
use Rattle.schema_model.specs.Schemas.{width_of}
use Rattle.dep_model.specs.Tuples.{Tuple, Relation, value_at}
use Rattle.dep_model.proofs.ListLemmas.{Contains-head, Contains-later, map-member}
use Rattle.dep_model.proofs.DistinctLemmas.{filter-member}
use Rattle.sql_syntax.specs.Syntax.{helper, Column, column, number_zero, sum, sum_product, less_sum, differs, Item, named, Query, each_row, union_all}
use Rattle.sql_check.specs.Columns.{columns_on, column_at, group_name, groups_made}
use Rattle.sql_check.specs.Checks.{has_members, values_query}
use Rattle.sql_measure.specs.Measures.{keys_on, marks_query, counted_rows, counts_query, rows_query, first_of_four, second_of_four, third_of_four, fourth_of_four, four_counts, sum_column, pairs_query, group_count, lack_query}
use Rattle.sql_evaluation.specs.Cells.{Cell, missing, number, same_row, added, multiplied, subtracted, total}
use Rattle.sql_evaluation.specs.Values.{each, of_both, named_cell, Look, look_at, sum_of}
use Rattle.sql_evaluation.specs.Evaluation.{Rows, Engine, row_view, key_cell, item_name, item_value, with_items, selected, evaluate}
use Rattle.sql_check_laws.specs.HeldRelations.{RowsHold, compared_cell, Holds}
use Rattle.sql_check_laws.proofs.CellLemmas.{same_row-decides}
use Rattle.sql_check_laws.proofs.CountLemmas.{AreWithin, unique-append_within, unique-unique}
use Rattle.sql_check_laws.proofs.CountsLemmas.{number_name}
use Rattle.sql_check_laws.proofs.EachLemmas.{each-known, each-map, map-map, map-known, filter-known, filter-map}
use Rattle.sql_check_laws.proofs.GroupLemmas.{Cells, look, pick, pick-cells, row-value, key-known, keys-known}
use Rattle.sql_check_laws.proofs.LawLemmas.{nil_not_empty}
use Rattle.sql_check_laws.proofs.PairLemmas.{append-member}
use Rattle.sql_check_laws.proofs.ThreeLemmas.{union-known, size_on}
use Rattle.sql_check_laws.proofs.UnpairedLemmas.{uneven, uneven_at}
use Rattle.sql_check_laws.proofs.ValuesLemmas.{cells_on, names_on, values_of, values-known}
use Rattle.sql_measure_laws.proofs.SumLemmas.{sum_over, times}
use Rattle.sql_measure_laws.proofs.GroupedLemmas.{keys_by, view_of, grouped-known, sum_cell, sum-value, group_of, IsThirdName, rows_if, totals-known}
use Rattle.sql_measure_laws.proofs.KeyLemmas.{stored-known, keys_of, keys-are, key-on, made-shown, counted-keys, counted-cell, made-names, key-once, passing-keys}

-- ---- one of the four
-- items that count show a count, whatever the group is
abbrev ShowFour : List Item → (ℕ → List Cell) → Type 0
ShowFour counts cells =
    (cast : List ℕ → Option ℤ) (own : Look) (looks : List Look)
    → each (item_value cast (record { own = own; rows = Some looks })) counts ≡ Some (cells (length looks))

abbrev size_of : {E : Type 0} → (E → List Cell) → List E → List Cell → ℕ
size_of key_of es key = length (filter (λ p. same_row (key_of p) key) es)

abbrev made_columns : Schema → Attributes → List (List ℕ)
made_columns s x = map (number_name x) (members_below (width_of s) x)

counted-shown : {E : Type 0} (s : Schema) (cast : List ℕ → Option ℤ) (cell : Cells) (x : Attributes) (r : Relation) (look : E → Look) (key_of : E → List Cell) (es : List E)
    (counts : List Item) (cells : ℕ → List Cell) (key : List Cell) → ShowFour counts cells → Contains (keys_of s cell x r) key
    → each (item_value cast (view_of (columns_on s (codes "d") x) look key_of es key)) (groups_made s x ++ counts) ≡ Some (key ++ cells (size_of key_of es key))
counted-shown {E} s cast cell x r look key_of es counts cells key shows h =
    let on = key-on s cell x r key h in
    let group = λ (z : List Cell). filter (λ (p : E). same_row (key_of p) z) es in
    let own = map on.0 (members_below (width_of s) x) in
    let at_own : each (item_value cast (view_of (columns_on s (codes "d") x) look key_of es own)) (groups_made s x ++ counts)
    ≡ Some (own ++ cells (length (map look (group own)))) =
    made-shown s cast x x on.0 (Some (map look (group own))) counts (cells (length (map look (group own)))) (λ k m. m)
    (shows cast (key_cell (columns_on s (codes "d") x) own) (map look (group own))) in
    subst (λ (z : List Cell). each (item_value cast (view_of (columns_on s (codes "d") x) look key_of es z)) (groups_made s x ++ counts) ≡ Some (z ++ cells (size_of key_of es z))) on.1
    (at_own ∙ ap (λ (n : ℕ). Some (own ++ cells n)) (length-map (group own) look))

counted-known : {E : Type 0} (e : Engine) (s : Schema) (cell : Cells) (x : Attributes) (r : Relation) (q : Query) (names : List (List ℕ)) (row_of : E → List Cell)
    (es : List E) (key_of : E → List Cell) (counts : List Item) (cells : ℕ → List Cell) → ShowFour counts cells
    → evaluate e q ≡ Some (record { names = names; rows = map row_of es })
    → ((p : E) → Contains es p → each (look_at (codes "d") names (row_of p)) (columns_on s (codes "d") x) ≡ Some (key_of p))
    → unique_keys same_row (map key_of es) ≡ values_of s cell x r
    → evaluate e (counts_query s x q counts)
    ≡ Some (record { names = made_columns s x ++ map item_name counts; rows = map (λ key. key ++ cells (size_of key_of es key)) (keys_of s cell x r) })
unfolding counts_query
counted-known {E} e s cell x r q names row_of es key_of counts cells shows given keyed same =
    let columns = columns_on s (codes "d") x in
    let items = groups_made s x ++ counts in
    let shown = λ (key : List Cell). key ++ cells (size_of key_of es key) in
    let keys = keys-are s cell x r (column_at s (codes "d")) (map key_of es) (λ some. same) in
    grouped-known e q (codes "d") names row_of es columns key_of items shown given keyed
    (λ key h. counted-shown s e.cast cell x r (λ (p : E). look_at (codes "d") names (row_of p)) key_of es counts cells key shows (subst (λ (ks : List (List Cell)). Contains ks key) keys h))
    ∙ ap (λ (ns : List (List ℕ)). Some (record { names = ns; rows = map shown (keys_by columns (map key_of es)) })) (made-names s x counts)
    ∙ ap (λ (ks : List (List Cell)). Some (record { names = made_columns s x ++ map item_name counts; rows = map shown ks })) keys

-- of the values on a set, each once
distinct-counted : (e : Engine) (table : List ℕ) (s : Schema) (cell : Cells) (r : Relation) (x w : Attributes) (counts : List Item) (cells : ℕ → List Cell) → ShowFour counts cells
    → Holds e table s cell r → IsSubset x w
    → evaluate e (counts_query s x (values_query s table w) counts)
    ≡ Some (record { names = made_columns s x ++ map item_name counts; rows = map (λ key. key ++ cells (size_on s cell x r w key)) (keys_of s cell x r) })
distinct-counted e table s cell r x w counts cells shows held within =
    let rows = values_of s cell w r in
    counted-known e s cell x r (values_query s table w) (names_on s w) (λ (row : List Cell). row) rows (pick s w x) counts cells shows
    (values-known e table s cell r w held ∙ ap (λ (rs : List (List Cell)). Some (record { names = names_on s w; rows = rs })) (sym (map-id rows)))
    (λ row h. key-known s cell w x r row within h)
    (keys-known s cell w x r within)

-- ---- rows, as often as they stand
marks-shown : (s : Schema) (cell : Cells) (cast : List ℕ → Option ℤ) (names : List (List ℕ)) (rows : List (List Cell)) (r : Relation) → RowsHold s cell names rows r
    → each (λ v. each (item_value cast v) (named number_zero (helper (codes "n")) ∷ [])) (map row_view (map (look_at (codes "r") names) rows))
    ≡ Some (map (λ (t : Tuple). number (pos 0) ∷ []) r)
marks-shown s cell cast names [] [] held = refl
marks-shown s cell cast names [] (t ∷ r) held = absurd held
marks-shown s cell cast names (row ∷ rows) [] held = absurd held
marks-shown s cell cast names (row ∷ rows) (t ∷ r) held =
    ap (option_map (λ (ys : List (List Cell)). (number (pos 0) ∷ []) ∷ ys)) (marks-shown s cell cast names rows r held.1)

marks-known : (e : Engine) (table : List ℕ) (s : Schema) (cell : Cells) (r : Relation) → Holds e table s cell r
    → evaluate e (marks_query table) ≡ Some (record { names = codes "n" ∷ []; rows = map (λ (t : Tuple). number (pos 0) ∷ []) r })
unfolding marks_query
marks-known e table s cell r held =
    let items = named number_zero (helper (codes "n")) ∷ [] in
    ap (option_and_then (selected e.cast false items (codes "r") each_row)) held.known
    ∙ ap (option_map (with_items false items)) (marks-shown s cell e.cast held.given.names held.given.rows r held.held)

stored-key : (s : Schema) (cell : Cells) (x : Attributes) (r : Relation) (t : Tuple) → Contains r t
    → each (look_at (codes "d") (names_on s x) (cells_on s cell x t)) (columns_on s (codes "d") x) ≡ Some (cells_on s cell x t)
stored-key s cell x r t h =
    key-known s cell x x r (cells_on s cell x t) (λ k m. m) (row-value s cell x r t h)
    ∙ ap (λ (row : List Cell). Some row) (pick-cells s cell x x t (λ k m. m))

no-key : (s : Schema) (cell : Cells) (x : Attributes) (look : Look) (t : Tuple) → members_below (width_of s) x ≡ []
    → each look (columns_on s (codes "d") x) ≡ Some (cells_on s cell x t)
no-key s cell x look t empty =
    subst (λ (ms : List ℕ). each look (map (column_at s (codes "d")) ms) ≡ Some (map (λ (k : ℕ). compared_cell cell k (value_at t k)) ms)) (sym empty) refl

-- how many tuples have a value on x
abbrev pub tuples_with : Schema → Cells → Attributes → Relation → List Cell → ℕ
tuples_with s cell x r key = times same_row (cells_on s cell x) r key

rows-counted : (e : Engine) (table : List ℕ) (s : Schema) (cell : Cells) (r : Relation) (x : Attributes) (counts : List Item) (cells : ℕ → List Cell) → ShowFour counts cells
    → Holds e table s cell r
    → evaluate e (counts_query s x (counted_rows s table x) counts)
    ≡ Some (record { names = made_columns s x ++ map item_name counts; rows = map (λ key. key ++ cells (tuples_with s cell x r key)) (keys_of s cell x r) })
rows-counted e table s cell r x counts cells shows held = elim (cases_Bool (has_members s x)) [
  | inl some ↦
      ap (λ (b : Bool). evaluate e (counts_query s x (if b then rows_query s table x else marks_query table) counts)) some
      ∙ counted-known e s cell x r (rows_query s table x) (names_on s x) (cells_on s cell x) r (cells_on s cell x) counts cells shows
      (stored-known e table s cell r x held) (stored-key s cell x r) refl
  | inr none ↦
      let empty = nil_not_empty (members_below (width_of s) x) none in
      ap (λ (b : Bool). evaluate e (counts_query s x (if b then rows_query s table x else marks_query table) counts)) none
      ∙ counted-known e s cell x r (marks_query table) (codes "n" ∷ []) (λ (t : Tuple). number (pos 0) ∷ []) r (cells_on s cell x) counts cells shows
      (marks-known e table s cell r held) (λ t h. no-key s cell x (look_at (codes "d") (codes "n" ∷ []) (number (pos 0) ∷ [])) t empty) refl
]

-- ---- entries: a value on x, and its counts
pub record Entry : Type 0 where
  pub key : List Cell
  pub of_y : ℕ
  pub of_z : ℕ
  pub of_n : ℕ
  pub of_r : ℕ

abbrev count_cells : Entry → List Cell
count_cells p = number (pos p.of_y) ∷ number (pos p.of_z) ∷ number (pos p.of_n) ∷ number (pos p.of_r) ∷ []

abbrev row_of_entry : Entry → List Cell
row_of_entry p = p.key ++ count_cells p

abbrev in_first : ℕ → List Cell → Entry
in_first n key = record { key = key; of_y = n; of_z = 0; of_n = 0; of_r = 0 }

abbrev in_second : ℕ → List Cell → Entry
in_second n key = record { key = key; of_y = 0; of_z = n; of_n = 0; of_r = 0 }

abbrev in_third : ℕ → List Cell → Entry
in_third n key = record { key = key; of_y = 0; of_z = 0; of_n = n; of_r = 0 }

abbrev in_fourth : ℕ → List Cell → Entry
in_fourth n key = record { key = key; of_y = 0; of_z = 0; of_n = 0; of_r = n }

module _ (s : Schema) (cell : Cells) (r : Relation) (x y z : Attributes) where
  abbrev w1 : Attributes
  w1 = union x y

  abbrev w2 : Attributes
  w2 = union x z

  abbrev w3 : Attributes
  w3 = union x (union y z)

  abbrev size_1 : List Cell → ℕ
  size_1 key = size_on s cell x r w1 key

  abbrev size_2 : List Cell → ℕ
  size_2 key = size_on s cell x r w2 key

  abbrev size_3 : List Cell → ℕ
  size_3 key = size_on s cell x r w3 key

  abbrev size_4 : List Cell → ℕ
  size_4 key = tuples_with s cell x r key

  abbrev entry_1 : List Cell → Entry
  entry_1 key = in_first (size_1 key) key

  abbrev entry_2 : List Cell → Entry
  entry_2 key = in_second (size_2 key) key

  abbrev entry_3 : List Cell → Entry
  entry_3 key = in_third (size_3 key) key

  abbrev entry_4 : List Cell → Entry
  entry_4 key = in_fourth (size_4 key) key

  abbrev keys : List (List Cell)
  keys = keys_of s cell x r

  abbrev entries : List Entry
  entries = map entry_1 keys ++ map entry_2 keys ++ map entry_3 keys ++ map entry_4 keys

  abbrev four_names : List (List ℕ)
  four_names = codes "y" ∷ codes "z" ∷ codes "n" ∷ codes "r" ∷ []

  abbrev entry_names : List (List ℕ)
  entry_names = made_columns s x ++ four_names

  four-known : (e : Engine) (table : List ℕ) → Holds e table s cell r
      → evaluate e (four_counts s table x y z) ≡ Some (record { names = entry_names; rows = map row_of_entry entries })
  unfolding four_counts
  four-known e table held =
      let first = distinct-counted e table s cell r x w1 first_of_four (λ (n : ℕ). count_cells (in_first n [])) (λ cast own looks. refl) held (λ (k : ℕ) m. grind (arith, m)) in
      let second = distinct-counted e table s cell r x w2 second_of_four (λ (n : ℕ). count_cells (in_second n [])) (λ cast own looks. refl) held (λ (k : ℕ) m. grind (arith, m)) in
      let third = distinct-counted e table s cell r x w3 third_of_four (λ (n : ℕ). count_cells (in_third n [])) (λ cast own looks. refl) held (λ (k : ℕ) m. grind (arith, m)) in
      let fourth = rows-counted e table s cell r x fourth_of_four (λ (n : ℕ). count_cells (in_fourth n [])) (λ cast own looks. refl) held in
      let q1 = counts_query s x (values_query s table w1) first_of_four in
      let q2 = counts_query s x (values_query s table w2) second_of_four in
      let q3 = counts_query s x (values_query s table w3) third_of_four in
      let q4 = counts_query s x (counted_rows s table x) fourth_of_four in
      let r1 = map (λ (key : List Cell). row_of_entry (entry_1 key)) keys in
      let r2 = map (λ (key : List Cell). row_of_entry (entry_2 key)) keys in
      let r3 = map (λ (key : List Cell). row_of_entry (entry_3 key)) keys in
      let r4 = map (λ (key : List Cell). row_of_entry (entry_4 key)) keys in
      union-known e (union_all (union_all q1 q2) q3) q4 entry_names (r1 ++ r2 ++ r3) r4
      (union-known e (union_all q1 q2) q3 entry_names (r1 ++ r2) r3 (union-known e q1 q2 entry_names r1 r2 first second) third)
      fourth
      ∙ ap (λ (rows : List (List Cell)). Some (record { names = entry_names; rows = rows })) (sym rows-are)
    where
      rows-are : map row_of_entry entries
          ≡ map (λ key. row_of_entry (entry_1 key)) keys ++ map (λ key. row_of_entry (entry_2 key)) keys ++ map (λ key. row_of_entry (entry_3 key)) keys ++ map (λ key. row_of_entry (entry_4 key)) keys
      rows-are =
          let e1 = map entry_1 keys in
          let e2 = map entry_2 keys in
          let e3 = map entry_3 keys in
          let e4 = map entry_4 keys in
          map-append row_of_entry (e1 ++ e2 ++ e3) e4
          ∙ ap (λ (rows : List (List Cell)). rows ++ map row_of_entry e4) (map-append row_of_entry (e1 ++ e2) e3)
          ∙ ap (λ (rows : List (List Cell)). rows ++ map row_of_entry e3 ++ map row_of_entry e4) (map-append row_of_entry e1 e2)
          ∙ ap (λ (rows : List (List Cell)). rows ++ map row_of_entry e2 ++ map row_of_entry e3 ++ map row_of_entry e4) (map-map row_of_entry entry_1 keys)
          ∙ ap (λ (rows : List (List Cell)). map (λ key. row_of_entry (entry_1 key)) keys ++ rows ++ map row_of_entry e3 ++ map row_of_entry e4) (map-map row_of_entry entry_2 keys)
          ∙ ap (λ (rows : List (List Cell)). map (λ key. row_of_entry (entry_1 key)) keys ++ map (λ key. row_of_entry (entry_2 key)) keys ++ rows ++ map row_of_entry e4) (map-map row_of_entry entry_3 keys)
          ∙ ap (λ (rows : List (List Cell)). map (λ key. row_of_entry (entry_1 key)) keys ++ map (λ key. row_of_entry (entry_2 key)) keys ++ map (λ key. row_of_entry (entry_3 key)) keys ++ rows) (map-map row_of_entry entry_4 keys)

  -- ---- the keys of entries
  in-entries : (of : List Cell → Entry) → ((key : List Cell) → (of key).key ≡ key) → (p : Entry) → Contains (map of keys) p → Contains keys p.key
  in-entries of own p h =
      let found = map-member of keys p h in
      subst (λ (key : List Cell). Contains keys key) (sym (own found.0) ∙ ap (λ (q : Entry). q.key) found.2) found.1

  entry-in : (p : Entry) → Contains entries p → Contains keys p.key
  entry-in p h =
      let e1 = map entry_1 keys in
      let e2 = map entry_2 keys in
      let e3 = map entry_3 keys in
      let e4 = map entry_4 keys in
      ⊎_elim
      (λ front. ⊎_elim
      (λ before. ⊎_elim (in-entries entry_1 (λ key. refl) p) (in-entries entry_2 (λ key. refl) p) (append-member e1 e2 p before))
      (in-entries entry_3 (λ key. refl) p) (append-member (e1 ++ e2) e3 p front))
      (in-entries entry_4 (λ key. refl) p) (append-member (e1 ++ e2 ++ e3) e4 p h)

  abbrev look_in : Entry → Look
  look_in p = look_at (codes "e") entry_names (row_of_entry p)

  entry-key : (p : Entry) → Contains entries p → each (look_in p) (keys_on s (codes "e") x) ≡ Some p.key
  entry-key p h =
      let on = key-on s cell x r p.key (entry-in p h) in
      subst (λ (key : List Cell). each (look_at (codes "e") entry_names (key ++ count_cells p)) (keys_on s (codes "e") x) ≡ Some key) on.1
      (counted-keys s x (codes "e") on.0 four_names (count_cells p))

  entry-count : (p : Entry) (name : List ℕ) (c : Cell) → Contains entries p → ((k : ℕ) → bytes_eq (number_name x k) name ≡ false)
      → named_cell four_names (count_cells p) name ≡ Some c → look_in p (sum_column name) ≡ Some c
  entry-count p name c h apart is =
      let on = key-on s cell x r p.key (entry-in p h) in
      subst (λ (key : List Cell). look_at (codes "e") entry_names (key ++ count_cells p) (sum_column name) ≡ Some c) on.1
      (counted-cell x (codes "e") on.0 (members_below (width_of s) x) four_names (count_cells p) name apart ∙ is)

  -- ---- the entries of a key
  filter-append : {X : Type 0} (p : X → Bool) (xs ys : List X) → filter p (xs ++ ys) ≡ filter p xs ++ filter p ys
  filter-append p [] ys = refl
  filter-append {X} p (v ∷ xs) ys = elim (cases_Bool (p v)) [
    | inl passes ↦ rw passes (ap (λ (zs : List X). v ∷ zs) (filter-append p xs ys))
    | inr fails ↦ rw fails (filter-append p xs ys)
  ]

  one-entry : (of : List Cell → Entry) → ((key : List Cell) → (of key).key ≡ key) → (key : List Cell) → Contains keys key
      → filter (λ (p : Entry). same_row p.key key) (map of keys) ≡ of key ∷ []
  one-entry of own key h =
      filter-map (λ (p : Entry). same_row p.key key) of keys
      ∙ ap (map of) (filter-known (λ (k : List Cell). same_row (of k).key key) (λ (k : List Cell). same_row k key) keys (λ k m. ap (λ (row : List Cell). same_row row key) (own k)) ∙ key-once s cell x r key h)

  abbrev entries_with : List Cell → List Entry
  entries_with key = entry_1 key ∷ entry_2 key ∷ entry_3 key ∷ entry_4 key ∷ []

  entries-of-key : (key : List Cell) → Contains keys key → filter (λ (p : Entry). same_row p.key key) entries ≡ entries_with key
  entries-of-key key h =
      let e1 = map entry_1 keys in
      let e2 = map entry_2 keys in
      let e3 = map entry_3 keys in
      let e4 = map entry_4 keys in
      let test = λ (p : Entry). same_row p.key key in
      filter-append test (e1 ++ e2 ++ e3) e4
      ∙ ap (λ (zs : List Entry). zs ++ filter test e4) (filter-append test (e1 ++ e2) e3)
      ∙ ap (λ (zs : List Entry). zs ++ filter test e3 ++ filter test e4) (filter-append test e1 e2)
      ∙ ap (λ (zs : List Entry). zs ++ filter test e2 ++ filter test e3 ++ filter test e4) (one-entry entry_1 (λ k. refl) key h)
      ∙ ap (λ (zs : List Entry). (entry_1 key ∷ []) ++ zs ++ filter test e3 ++ filter test e4) (one-entry entry_2 (λ k. refl) key h)
      ∙ ap (λ (zs : List Entry). (entry_1 key ∷ []) ++ (entry_2 key ∷ []) ++ zs ++ filter test e4) (one-entry entry_3 (λ k. refl) key h)
      ∙ ap (λ (zs : List Entry). (entry_1 key ∷ []) ++ (entry_2 key ∷ []) ++ (entry_3 key ∷ []) ++ zs) (one-entry entry_4 (λ k. refl) key h)

  keys-again : has_members s x ≡ true → unique_keys same_row (map (λ (p : Entry). p.key) entries) ≡ values_of s cell x r
  keys-again some =
      let key_in = λ (p : Entry). p.key in
      let e1 = map entry_1 keys in
      let e2 = map entry_2 keys in
      let e3 = map entry_3 keys in
      let e4 = map entry_4 keys in
      let own : (of : List Cell → Entry) → ((key : List Cell) → (of key).key ≡ key) → map key_in (map of keys) ≡ keys =
      λ of is. map-map key_in of keys ∙ map-known (λ (k : List Cell). (of k).key) (λ (k : List Cell). k) keys (λ k m. is k) ∙ map-id keys in
      let parts : map key_in entries ≡ keys ++ keys ++ keys ++ keys =
      map-append key_in (e1 ++ e2 ++ e3) e4
      ∙ ap (λ (ks : List (List Cell)). ks ++ map key_in e4) (map-append key_in (e1 ++ e2) e3)
      ∙ ap (λ (ks : List (List Cell)). ks ++ map key_in e3 ++ map key_in e4) (map-append key_in e1 e2)
      ∙ ap (λ (ks : List (List Cell)). ks ++ map key_in e2 ++ map key_in e3 ++ map key_in e4) (own entry_1 (λ k. refl))
      ∙ ap (λ (ks : List (List Cell)). keys ++ ks ++ map key_in e3 ++ map key_in e4) (own entry_2 (λ k. refl))
      ∙ ap (λ (ks : List (List Cell)). keys ++ keys ++ ks ++ map key_in e4) (own entry_3 (λ k. refl))
      ∙ ap (λ (ks : List (List Cell)). keys ++ keys ++ keys ++ ks) (own entry_4 (λ k. refl)) in
      let within : AreWithin (keys ++ keys ++ keys) keys = λ q h.
      ⊎_elim (λ front. ⊎_elim (λ a. a) (λ b. b) (append-member keys keys q front)) (λ back. back) (append-member (keys ++ keys) keys q h) in
      ap (unique_keys same_row) parts
      ∙ unique-append_within same_row same_row-decides (keys ++ keys ++ keys) keys within
      ∙ ap (λ (b : Bool). unique_keys same_row (if b then values_of s cell x r else [] ∷ [])) some
      ∙ unique-unique same_row same_row-decides (map (cells_on s cell x) r)

  -- ---- the sums of a key
  -- by how much the product of the first two counts is more than the third
  abbrev pub surplus : List Cell → ℤ
  surplus key = pos (size_1 key * size_2 key) -ℤ pos (size_3 key)

  abbrev pair_items : List Item
  pair_items =
      named (sum (sum_column (codes "r"))) (helper (codes "r"))
      ∷ named (less_sum (sum_product (sum_column (codes "y")) (sum_column (codes "z"))) (sum_column (codes "n"))) (helper (codes "m")) ∷ []

  abbrev pair_row : List Cell → List Cell
  pair_row key = number (pos (size_4 key)) ∷ number (surplus key) ∷ []

  entry-sum : (own : Look) (key : List Cell) (name : List ℕ) (f : Entry → ℕ) (n : ℕ) → Contains keys key → ((k : ℕ) → bytes_eq (number_name x k) name ≡ false)
      → ((p : Entry) → named_cell four_names (count_cells p) name ≡ Some (number (pos (f p))))
      → sum_over f (entries_with key) ≡ n
      → sum_of (group_of own look_in (entries_with key)) (sum_column name) ≡ Some (number (pos n))
  entry-sum own key name f n h apart is adds =
      sum-value own look_in (sum_column name) f (entries_with key) (λ p m.
      entry-count p name (number (pos (f p)))
      (filter-member (λ (q : Entry). same_row q.key key) entries p (subst (λ (ps : List Entry). Contains ps p) (sym (entries-of-key key h)) m)).0
      apart (is p))
      ∙ ap (λ (m : ℕ). Some (number (pos m))) adds

  pair-shown : (cast : List ℕ → Option ℤ) (own : Look) (key : List Cell) → Contains keys key
      → each (item_value cast (group_of own look_in (filter (λ (p : Entry). same_row p.key key) entries))) pair_items ≡ Some (pair_row key)
  pair-shown cast own key h =
      let a = size_1 key in
      let b = size_2 key in
      let c = size_3 key in
      let d = size_4 key in
      let shown = λ (of_r of_y of_z of_n : Option Cell). option_and_then (λ (v : Cell). option_map (λ (ys : List Cell). v ∷ ys)
      (option_and_then (λ (u : Cell). option_map (λ (ys : List Cell). u ∷ ys) (Some [])) (of_both subtracted (of_both multiplied of_y of_z) of_n))) of_r in
      let view = group_of own look_in (entries_with key) in
      let in_y : sum_of view (sum_column (codes "y")) ≡ Some (number (pos a)) = entry-sum own key (codes "y") (λ (p : Entry). p.of_y) a h (λ k. refl) (λ p. refl) (omega arith) in
      let in_z : sum_of view (sum_column (codes "z")) ≡ Some (number (pos b)) = entry-sum own key (codes "z") (λ (p : Entry). p.of_z) b h (λ k. refl) (λ p. refl) (omega arith) in
      let in_n : sum_of view (sum_column (codes "n")) ≡ Some (number (pos c)) = entry-sum own key (codes "n") (λ (p : Entry). p.of_n) c h (λ k. refl) (λ p. refl) (omega arith) in
      let in_r : sum_of view (sum_column (codes "r")) ≡ Some (number (pos d)) = entry-sum own key (codes "r") (λ (p : Entry). p.of_r) d h (λ k. refl) (λ p. refl) (omega arith) in
      ap (λ (ps : List Entry). each (item_value cast (group_of own look_in ps)) pair_items) (entries-of-key key h)
      ∙ ap (λ (found : Option Cell). shown found (sum_of view (sum_column (codes "y"))) (sum_of view (sum_column (codes "z"))) (sum_of view (sum_column (codes "n")))) in_r
      ∙ ap (λ (found : Option Cell). shown (Some (number (pos d))) found (sum_of view (sum_column (codes "z"))) (sum_of view (sum_column (codes "n")))) in_y
      ∙ ap (λ (found : Option Cell). shown (Some (number (pos d))) (Some (number (pos a))) found (sum_of view (sum_column (codes "n")))) in_z
      ∙ ap (λ (found : Option Cell). shown (Some (number (pos d))) (Some (number (pos a))) (Some (number (pos b))) found) in_n
      ∙ ap (λ (v : ℤ). Some (number (pos d) ∷ number (v -ℤ pos c) ∷ [])) (pos-*ℤ-pos a b)

  pairs-known : (e : Engine) (table : List ℕ) → Holds e table s cell r
      → evaluate e (pairs_query s table x y z) ≡ Some (record { names = codes "r" ∷ codes "m" ∷ []; rows = map pair_row keys })
  unfolding pairs_query
  pairs-known e table held =
      let columns = keys_on s (codes "e") x in
      let key_in = λ (p : Entry). p.key in
      let same = keys-are s cell x r (λ (k : ℕ). record { alias = codes "e"; name = group_name x k }) (map key_in entries) keys-again in
      grouped-known e (four_counts s table x y z) (codes "e") entry_names row_of_entry entries columns key_in pair_items pair_row
      (four-known e table held) entry-key
      (λ key h. pair-shown e.cast (key_cell columns key) key (subst (λ (ks : List (List Cell)). Contains ks key) same h))
      ∙ ap (λ (ks : List (List Cell)). Some (record { names = codes "r" ∷ codes "m" ∷ []; rows = map pair_row ks })) same

-- ---- sums of integers
abbrev pub int_sum : {E : Type 0} → (E → ℤ) → List E → ℤ
int_sum f [] = pos 0
int_sum f (p ∷ ps) = f p +ℤ int_sum f ps

abbrev int_cell : {E : Type 0} → (E → ℤ) → List E → Cell
int_cell f [] = missing
int_cell f (p ∷ ps) = number (int_sum f (p ∷ ps))

int-total : {E : Type 0} (f : E → ℤ) (ps : List E) → total (map (λ p. number (f p)) ps) ≡ Some (int_cell f ps)
int-total f [] = refl
int-total f (p ∷ []) = ap (λ (v : ℤ). Some (number v)) (sym (+ℤ_idr (f p)))
int-total {E} f (p ∷ q ∷ ps) = ap (option_and_then (added (number (f p)))) (int-total f (q ∷ ps))

int-value : {E : Type 0} (own : Look) (look : E → Look) (c : Column) (f : E → ℤ) (ps : List E)
    → ((p : E) → look p c ≡ Some (number (f p))) → sum_of (group_of own look ps) c ≡ Some (int_cell f ps)
int-value {E} own look c f ps known =
    ap (option_and_then total) (each-map (λ (l : Look). l c) look ps ∙ each-known (λ (p : E). look p c) (λ (p : E). number (f p)) ps (λ p h. known p))
    ∙ int-total f ps

-- sums of numbers
pub int-pos : {E : Type 0} (f : E → ℤ) (g : E → ℕ) (ps : List E) → ((p : E) → Contains ps p → f p ≡ pos (g p)) → int_sum f ps ≡ pos (sum_over g ps)
int-pos f g [] known = refl
int-pos f g (p ∷ ps) known =
    ap (λ (v : ℤ). v +ℤ int_sum f ps) (known p (Contains-head p ps))
    ∙ ap (λ (v : ℤ). pos (g p) +ℤ v) (int-pos f g ps (λ q h. known q (Contains-later p ps q h)))
    ∙ pos-+ℤ-pos (g p) (sum_over g ps)

-- ---- the query
-- the product is more exactly where it is another
surplus-stated : (a b c : ℕ) → not (int_eq (pos (a * b) -ℤ pos c) (pos 0)) ≡ uneven a b c
surplus-stated a b c =
    ap not (same_from_decides (int_eq (pos (a * b) -ℤ pos c) (pos 0)) (int_eq (pos (a * b)) (pos c)) (Decides-int_eq (pos (a * b) -ℤ pos c) (pos 0)) (
      λ e. ap (λ (n : ℤ). n -ℤ pos c) ((Decides-int_eq (pos (a * b)) (pos c)).0 e) ∙ +ℤ_invr (pos c),
      λ none. (Decides-int_eq (pos (a * b)) (pos c)).1 (sym (-ℤ-+ℤ_cancel (pos (a * b)) (pos c)) ∙ ap (λ (n : ℤ). n +ℤ pos c) none ∙ +ℤ_idl (pos c)),
    ))

-- the values on x whose counts on xy and xz have another product than the count on all
abbrev pub uneven_values : Schema → Cells → Attributes → Attributes → Attributes → Relation → List (List Cell)
uneven_values s cell x y z r = filter (uneven_at s cell x r (union x y) (union x z) (union x (union y z))) (values_of s cell x r)

-- what the query shows of such values
abbrev pub lack_rows : (List Cell → ℕ) → (List Cell → ℤ) → List (List Cell) → List (List Cell)
lack_rows f g keys = rows_if (length keys) (number (pos (sum_over f keys))) (number (int_sum g keys))

cells-some : (f : List Cell → ℕ) (g : List Cell → ℤ) (ks : List (List Cell)) → rows_if (length ks) (sum_cell f ks) (int_cell g ks) ≡ lack_rows f g ks
cells-some f g [] = refl
cells-some f g (k ∷ ks) = refl

lack_named : IsThirdName (codes "missing")
lack_named = record { not_groups = refl; not_rows = refl; itself = refl }

pub lack-known : (e : Engine) (table : List ℕ) (s : Schema) (cell : Cells) (r : Relation) (x y z : Attributes) → Holds e table s cell r
    → (result : Rows) × (evaluate e (lack_query s table x y z) ≡ Some result)
    × (result.rows ≡ lack_rows (tuples_with s cell x r) (surplus s cell r x y z) (uneven_values s cell x y z r))
lack-known e table s cell r x y z held =
    let f = tuples_with s cell x r in
    let g = surplus s cell r x y z in
    let test = uneven_at s cell x r (union x y) (union x z) (union x (union y z)) in
    let names = codes "r" ∷ codes "m" ∷ [] in
    let row = pair_row s cell r x y z in
    let chosen = filter test (keys_of s cell x r) in
    let look = λ (key : List Cell). look_at (codes "g") names (row key) in
    let of_r = sum-value (key_cell [] []) look (group_count (codes "r")) f chosen (λ key h. refl) in
    let of_m = int-value (key_cell [] []) look (group_count (codes "m")) g chosen (λ key. refl) in
    let known = totals-known e (pairs_query s table x y z) names row (keys_of s cell x r)
    (differs (column (group_count (codes "m"))) number_zero) test (group_count (codes "r")) (sum (group_count (codes "m"))) (codes "missing")
    (sum_cell f chosen) (int_cell g chosen) lack_named (pairs-known s cell r x y z e table held)
    (λ key h. ap (λ (b : Bool). Some b) (surplus-stated (size_on s cell x r (union x y) key) (size_on s cell x r (union x z) key) (size_on s cell x r (union x (union y z)) key)))
    of_r of_m in
    let same = passing-keys s cell x r test (λ none. ap (λ (q : Relation). uneven_at s cell x q (union x y) (union x z) (union x (union y z)) []) none) in (
      known.0,
      known.1,
      known.2 ∙ cells-some f g chosen ∙ ap (lack_rows f g) same,
    )
