-- The queries of dependencies whose left side is empty: all rows are one group.
use Rattle.std.proofs.Common.{◌≡◌, ◌*◌, ℕ, Bool, true, false, not, List, [], ◌∷◌, ◌++◌, length, get_or, map, filter, cond, Some, None, Option, refl, sym, ap, ◌∙◌, inl, inr, arith}
use Rattle.std.proofs.lemmas.Bool.{cases_Bool, true≢false, ltb-true}
use Rattle.std.proofs.lemmas.Bool.Decides.{Decides-int_eq, same_from_decides}
use Rattle.std.proofs.lemmas.List.{length-map}
use Rattle.std.specs.Ordering.{int_eq}
use Rattle.std.specs.Prelude.{◌↔◌, ℤ, pos, ◌-ℤ◌, ◌+ℤ◌, ◌*ℤ◌, nat_lt, Contains, if◌then◌else◌, option_map, option_and_then, codes}
use lib.IntN.{pos-*ℤ-pos, -ℤ-+ℤ_cancel, +ℤ_invr, +ℤ_idl}
use Rattle.attr_sets.specs.Attributes.{Attributes, union, count_below, IsSubset}
use Rattle.schema_model.specs.Schemas.{Schema}
use Rattle.dep_model.specs.Projections.{members_below}
use Rattle.schema_model.specs.Schemas.{width_of, universe_of}
use Rattle.dep_model.specs.Tuples.{Tuple, Relation, value_at, IsOver}
use Rattle.dep_model.proofs.DistinctLemmas.{filter-member, filter-keeps}
use Rattle.dep_model.proofs.ListLemmas.{Contains-head}
use Rattle.sql_check_laws.proofs.CountLemmas.{some_member}
use Rattle.sql_syntax.specs.Syntax.{column, Item, own, named, count, number_zero, number_one, less_sum, Condition, exceeds, differs, rows_where, groups_by, Query, select, union_all}
use Rattle.relation_queries.specs.Queries.{several, unpaired}
use Rattle.relation_queries.specs.Meanings.{GivesNone}
use Rattle.sql_check.specs.Columns.{column_at, group_name}
use Rattle.sql_check.specs.Checks.{line_item, values_query, count_name, count_column, count_of_several, first_count, second_count, count_of_both, counts_query, three_counts, sum_column, product_of_counts, count_of_unpaired}
use Rattle.sql_evaluation.specs.Cells.{Cell, missing, number, same_row, multiplied, subtracted}
use Rattle.sql_evaluation.specs.Values.{each, of_both, Look, look_at, View, sum_of, holds}
use Rattle.sql_evaluation.specs.Evaluation.{Engine, key_cell, row_view, item_name, item_value, with_items, selected, evaluate}
use Rattle.sql_check_laws.specs.HeldRelations.{compared_cell, Holds}
use Rattle.sql_check_laws.proofs.CellLemmas.{same_row-decides}
use Rattle.sql_check_laws.proofs.ValuesLemmas.{cells_on, values_of, values-known}
use Rattle.sql_check_laws.proofs.GroupLemmas.{Cells, look, looks_of, pick, value-row, row-value, class_of}
use Rattle.sql_check_laws.proofs.SeveralLemmas.{nil_from_none, shows_none, more_than_one, several-none}
use Rattle.sql_check_laws.proofs.CountsLemmas.{count_names, in_first, in_second, in_third}
use Rattle.sql_check_laws.proofs.ThreeLemmas.{union-known, sum_of_three, size_on}
use Rattle.sql_check_laws.proofs.UnpairedLemmas.{uneven, uneven_at, unpaired-none}

-- ---- a count that passes a test
abbrev pub if_true : ℕ → Bool → Cell → List (List Cell)
if_true line b v = if b then (number (pos line) ∷ v ∷ []) ∷ [] else []

abbrev count_items : ℕ → List Item
count_items line = line_item line ∷ own count_column ∷ []

abbrev line_and_count : List (List ℕ)
line_and_count = codes "line" ∷ codes "n" ∷ []

outer-cases : (cast : List ℕ → Option ℤ) (line : ℕ) (v : Cell) (b : Bool)
    → option_map (with_items false (count_items line))
    (option_and_then (each (λ (w : View). each (item_value cast w) (count_items line)))
    (option_and_then (λ (c : Bool). option_map (λ (rest : List View). if c then row_view (look_at (codes "c") (codes "n" ∷ []) (v ∷ [])) ∷ rest else rest) (Some [])) (Some b)))
    ≡ Some (record { names = line_and_count; rows = if_true line b v })
outer-cases cast line v true = refl
outer-cases cast line v false = refl

outer-known : (e : Engine) (inner : Query) (line : ℕ) (v : Cell) (test : Condition) (b : Bool)
    → evaluate e inner ≡ Some (record { names = codes "n" ∷ []; rows = (v ∷ []) ∷ [] })
    → holds e.cast (row_view (look_at (codes "c") (codes "n" ∷ []) (v ∷ []))) test ≡ Some b
    → evaluate e (select false (count_items line) inner (codes "c") (rows_where test)) ≡ Some (record { names = line_and_count; rows = if_true line b v })
outer-known e inner line v test b given tested =
    ap (option_and_then (selected e.cast false (count_items line) (codes "c") (rows_where test))) given
    ∙ ap (λ (found : Option Bool). option_map (with_items false (count_items line))
    (option_and_then (each (λ (w : View). each (item_value e.cast w) (count_items line)))
    (option_and_then (λ (c : Bool). option_map (λ (rest : List View). if c then row_view (look_at (codes "c") (codes "n" ∷ []) (v ∷ [])) ∷ rest else rest) (Some [])) found))) tested
    ∙ outer-cases e.cast line v b

pub none_if_false : (line : ℕ) (b : Bool) (v : Cell) → (if_true line b v ≡ []) ↔ (b ≡ false)
none_if_false line true v = (
  λ e. absurd (shows_none (if_true line true v) (number (pos line) ∷ v ∷ []) e (Contains-head (number (pos line) ∷ v ∷ []) [])),
  λ e. absurd (true≢false e),
)
none_if_false line false v = (λ e. refl, λ e. refl)

-- ---- functional dependencies
abbrev size_of_values : Schema → Cells → Attributes → Relation → ℕ
size_of_values s cell w r = length (values_of s cell w r)

count-known : (e : Engine) (table : List ℕ) (s : Schema) (cell : Cells) (r : Relation) (w : Attributes) → Holds e table s cell r
    → evaluate e (select false (named count count_name ∷ []) (values_query s table w) (codes "d") (groups_by [] None))
    ≡ Some (record { names = codes "n" ∷ []; rows = (number (pos (size_of_values s cell w r)) ∷ []) ∷ [] })
count-known e table s cell r w held =
    ap (option_and_then (selected e.cast false (named count count_name ∷ []) (codes "d") (groups_by [] None))) (values-known e table s cell r w held)
    ∙ ap (λ (n : ℕ). Some (record { names = codes "n" ∷ []; rows = (number (pos n) ∷ []) ∷ [] })) (length-map (values_of s cell w r) (look s w))

pub count_several-known : (e : Engine) (table : List ℕ) (s : Schema) (cell : Cells) (r : Relation) (line : ℕ) (w : Attributes) → Holds e table s cell r
    → evaluate e (count_of_several s table line w)
    ≡ Some (record { names = line_and_count; rows = if_true line (nat_lt 1 (size_of_values s cell w r)) (number (pos (size_of_values s cell w r))) })
unfolding count_of_several
count_several-known e table s cell r line w held =
    outer-known e (select false (named count count_name ∷ []) (values_query s table w) (codes "d") (groups_by [] None)) line
    (number (pos (size_of_values s cell w r))) (exceeds (column count_column) number_one) (nat_lt 1 (size_of_values s cell w r))
    (count-known e table s cell r w held) refl

-- ---- one class
filter-all : {X : Type 0} (p : X → Bool) (xs : List X) → ((x : X) → p x ≡ true) → filter p xs ≡ xs
filter-all p [] all = refl
filter-all {X} p (x ∷ xs) all =
    ap (λ (b : Bool). cond b (x ∷ filter p xs) (filter p xs)) (all x) ∙ ap (λ (zs : List X). x ∷ zs) (filter-all p xs all)

pub class-all : (s : Schema) (cell : Cells) (w x : Attributes) (r : Relation) (key : List Cell) → members_below (width_of s) x ≡ [] → Contains (values_of s cell x r) key
    → class_of s cell w x r key ≡ values_of s cell w r
class-all s cell w x r key empty h =
    let v = value-row s cell x r key h in
    let nothing : key ≡ [] = sym v.2 ∙ ap (map (λ (k : ℕ). compared_cell cell k (value_at v.0 k))) empty in
    filter-all (λ (row : List Cell). same_row (pick s w x row) key) (values_of s cell w r)
    (λ row. (same_row-decides (pick s w x row) key).1 (ap (map (λ (k : ℕ). get_or row (count_below w k) missing)) empty ∙ sym nothing))

pub count_several-none : (e : Engine) (table : List ℕ) (s : Schema) (cell : Cells) (r : Relation) (line : ℕ) (x w : Attributes) → Holds e table s cell r → IsOver (width_of s) r
    → members_below (width_of s) x ≡ [] → IsSubset x w → IsSubset w (universe_of s)
    → (if_true line (nat_lt 1 (size_of_values s cell w r)) (number (pos (size_of_values s cell w r))) ≡ []) ↔ GivesNone (width_of s) (several x w) r
count_several-none e table s cell r line x w held over empty within low = (
  λ none. law.0 (nil_from_none (filter (more_than_one s cell w x r) (values_of s cell x r)) (λ key h.
      let at = filter-member (more_than_one s cell w x r) (values_of s cell x r) key h in
      true≢false (sym at.1 ∙ ap (λ (rows : List (List Cell)). nat_lt 1 (length rows)) (class-all s cell w x r key empty at.0) ∙ stated.0 none))),
  λ gives. stated.1 (elim (cases_Bool (nat_lt 1 (size_of_values s cell w r))) [
    | inl more ↦
        let row = some_member (values_of s cell w r) (let above = ltb-true 1 (size_of_values s cell w r) more in omega (arith, above)) in
        let t = value-row s cell w r row.0 row.1 in
        let key = cells_on s cell x t.0 in
        let there = row-value s cell x r t.0 t.1 in
        absurd (shows_none (filter (more_than_one s cell w x r) (values_of s cell x r)) key (law.1 gives)
        (filter-keeps (more_than_one s cell w x r) (values_of s cell x r) key there
        (ap (λ (rows : List (List Cell)). nat_lt 1 (length rows)) (class-all s cell w x r key empty there) ∙ more)))
    | inr less ↦ less
  ]),
)
  where
    law : (filter (more_than_one s cell w x r) (values_of s cell x r) ≡ []) ↔ GivesNone (width_of s) (several x w) r
    law = several-none e table s cell r x w held over within low

    stated : (if_true line (nat_lt 1 (size_of_values s cell w r)) (number (pos (size_of_values s cell w r))) ≡ []) ↔ (nat_lt 1 (size_of_values s cell w r) ≡ false)
    stated = none_if_false line (nat_lt 1 (size_of_values s cell w r)) (number (pos (size_of_values s cell w r)))

-- ---- multivalued dependencies
-- items that count show a count of all rows
abbrev ShowAll : List Item → (ℕ → List Cell) → Type 0
ShowAll counts cells =
    (cast : List ℕ → Option ℤ) (looks : List Look)
    → each (item_value cast (record { own = key_cell [] []; rows = Some looks })) counts ≡ Some (cells (length looks))

abbrev values_counted : Schema → List ℕ → Attributes → List Item → List ℕ → Query
values_counted s table w counts alias = select false counts (values_query s table w) alias (groups_by [] None)

counts-alone : (e : Engine) (table : List ℕ) (s : Schema) (cell : Cells) (r : Relation) (w : Attributes) (counts : List Item) (cells : ℕ → List Cell) → Holds e table s cell r
    → ShowAll counts cells → map item_name counts ≡ count_names
    → evaluate e (values_counted s table w counts (codes "d")) ≡ Some (record { names = count_names; rows = cells (size_of_values s cell w r) ∷ [] })
counts-alone e table s cell r w counts cells held shows named_so =
    ap (option_and_then (selected e.cast false counts (codes "d") (groups_by [] None))) (values-known e table s cell r w held)
    ∙ ap (λ (row : Option (List Cell)). option_map (with_items false counts) (option_and_then (λ (y : List Cell). option_map (λ (ys : List (List Cell)). y ∷ ys) (Some [])) row))
    (shows e.cast (looks_of s cell w r))
    ∙ ap (λ (n : ℕ). Some (record { names = map item_name counts; rows = cells n ∷ [] })) (length-map (values_of s cell w r) (look s w))
    ∙ ap (λ (names : List (List ℕ)). Some (record { names = names; rows = cells (size_of_values s cell w r) ∷ [] })) named_so

-- where x has no members, the counts beside its values are those of all rows
counts-empty : (e : Engine) (table : List ℕ) (s : Schema) (x w : Attributes) (counts : List Item) → members_below (width_of s) x ≡ []
    → evaluate e (counts_query s table x w counts) ≡ evaluate e (values_counted s table w counts (codes "d"))
unfolding counts_query
counts-empty e table s x w counts empty =
    ap (λ (ms : List ℕ). evaluate e (select false (map (λ (k : ℕ). named (column (column_at s (codes "d") k)) (group_name x k)) ms ++ counts) (values_query s table w) (codes "d")
    (groups_by (map (column_at s (codes "d")) ms) None))) empty

three-alone : (e : Engine) (table : List ℕ) (s : Schema) (cell : Cells) (r : Relation) (x y z : Attributes) → Holds e table s cell r → members_below (width_of s) x ≡ []
    → evaluate e (three_counts s table x y z)
    ≡ Some (record {
      names = count_names;
      rows = in_first (size_of_values s cell (union x y) r) ∷ in_second (size_of_values s cell (union x z) r) ∷ in_third (size_of_values s cell (union x (union y z)) r) ∷ [];
    })
unfolding three_counts
three-alone e table s cell r x y z held empty =
    let w1 = union x y in
    let w2 = union x z in
    let w3 = union x (union y z) in
    let first = counts-empty e table s x w1 first_count empty ∙ counts-alone e table s cell r w1 first_count in_first held (λ cast looks. refl) refl in
    let second = counts-empty e table s x w2 second_count empty ∙ counts-alone e table s cell r w2 second_count in_second held (λ cast looks. refl) refl in
    let third = counts-empty e table s x w3 count_of_both empty ∙ counts-alone e table s cell r w3 count_of_both in_third held (λ cast looks. refl) refl in
    union-known e (union_all (counts_query s table x w1 first_count) (counts_query s table x w2 second_count)) (counts_query s table x w3 count_of_both) count_names
    (in_first (size_of_values s cell w1 r) ∷ in_second (size_of_values s cell w2 r) ∷ []) (in_third (size_of_values s cell w3 r) ∷ [])
    (union-known e (counts_query s table x w1 first_count) (counts_query s table x w2 second_count) count_names
    (in_first (size_of_values s cell w1 r) ∷ []) (in_second (size_of_values s cell w2 r) ∷ []) first second)
    third

-- by how much the product is more
abbrev surplus : ℕ → ℕ → ℕ → ℤ
surplus a b c = pos (a * b) -ℤ pos c

abbrev rows_view : ℕ → ℕ → ℕ → View
rows_view a b c = record { own = key_cell [] []; rows = Some (map (look_at (codes "e") count_names) (in_first a ∷ in_second b ∷ in_third c ∷ [])) }

surplus-known : (cast : List ℕ → Option ℤ) (a b c : ℕ)
    → each (item_value cast (rows_view a b c)) (named (less_sum product_of_counts (sum_column (codes "n"))) count_name ∷ []) ≡ Some (number (surplus a b c) ∷ [])
surplus-known cast a b c =
    let v = rows_view a b c in
    let in_y : sum_of v (sum_column (codes "y")) ≡ Some (number (pos a)) = sum_of_three a 0 0 ∙ ap (λ (n : ℕ). Some (number (pos n))) (omega arith) in
    let in_z : sum_of v (sum_column (codes "z")) ≡ Some (number (pos b)) = sum_of_three 0 b 0 ∙ ap (λ (n : ℕ). Some (number (pos n))) (omega arith) in
    let in_n : sum_of v (sum_column (codes "n")) ≡ Some (number (pos c)) = sum_of_three 0 0 c ∙ ap (λ (n : ℕ). Some (number (pos n))) (omega arith) in
    let alone = λ (found : Option Cell). option_and_then (λ (y : Cell). option_map (λ (ys : List Cell). y ∷ ys) (Some [])) found in
    ap (λ (y : Option Cell). alone (of_both subtracted (of_both multiplied y (sum_of v (sum_column (codes "z")))) (sum_of v (sum_column (codes "n"))))) in_y
    ∙ ap (λ (z : Option Cell). alone (of_both subtracted (of_both multiplied (Some (number (pos a))) z) (sum_of v (sum_column (codes "n"))))) in_z
    ∙ ap (λ (n : Option Cell). alone (of_both subtracted (Some (number (pos a *ℤ pos b))) n)) in_n
    ∙ ap (λ (n : ℤ). Some (number (n -ℤ pos c) ∷ [])) (pos-*ℤ-pos a b)

surplus-stated : (a b c : ℕ) → not (int_eq (surplus a b c) (pos 0)) ≡ uneven a b c
surplus-stated a b c =
    ap not (same_from_decides (int_eq (surplus a b c) (pos 0)) (int_eq (pos (a * b)) (pos c)) (Decides-int_eq (surplus a b c) (pos 0)) (
      λ e. ap (λ (n : ℤ). n -ℤ pos c) ((Decides-int_eq (pos (a * b)) (pos c)).0 e) ∙ +ℤ_invr (pos c),
      λ none. (Decides-int_eq (pos (a * b)) (pos c)).1 (sym (-ℤ-+ℤ_cancel (pos (a * b)) (pos c)) ∙ ap (λ (n : ℤ). n +ℤ pos c) none ∙ +ℤ_idl (pos c)),
    ))

pub count_unpaired-known : (e : Engine) (table : List ℕ) (s : Schema) (cell : Cells) (r : Relation) (line : ℕ) (x y z : Attributes) → Holds e table s cell r → members_below (width_of s) x ≡ []
    → evaluate e (count_of_unpaired s table line x y z)
    ≡ Some (record {
      names = line_and_count;
      rows = if_true line (uneven (size_of_values s cell (union x y) r) (size_of_values s cell (union x z) r) (size_of_values s cell (union x (union y z)) r))
          (number (surplus (size_of_values s cell (union x y) r) (size_of_values s cell (union x z) r) (size_of_values s cell (union x (union y z)) r)));
    })
unfolding count_of_unpaired
count_unpaired-known e table s cell r line x y z held empty =
    let a = size_of_values s cell (union x y) r in
    let b = size_of_values s cell (union x z) r in
    let c = size_of_values s cell (union x (union y z)) r in
    let items = named (less_sum product_of_counts (sum_column (codes "n"))) count_name ∷ [] in
    let inner = select false items (three_counts s table x y z) (codes "e") (groups_by [] None) in
    let given : evaluate e inner ≡ Some (record { names = codes "n" ∷ []; rows = (number (surplus a b c) ∷ []) ∷ [] }) =
    ap (option_and_then (selected e.cast false items (codes "e") (groups_by [] None))) (three-alone e table s cell r x y z held empty)
    ∙ ap (λ (row : Option (List Cell)). option_map (with_items false items) (option_and_then (λ (y : List Cell). option_map (λ (ys : List (List Cell)). y ∷ ys) (Some [])) row))
    (surplus-known e.cast a b c) in
    outer-known e inner line (number (surplus a b c)) (differs (column count_column) number_zero) (uneven a b c) given (ap (λ (t : Bool). Some t) (surplus-stated a b c))

-- ---- what it shows
pub count_unpaired-none : (e : Engine) (table : List ℕ) (s : Schema) (cell : Cells) (r : Relation) (x y z : Attributes) → Holds e table s cell r → IsOver (width_of s) r
    → members_below (width_of s) x ≡ [] → IsSubset (union x (union y z)) (universe_of s)
    → (uneven (size_of_values s cell (union x y) r) (size_of_values s cell (union x z) r) (size_of_values s cell (union x (union y z)) r) ≡ false)
    ↔ GivesNone (width_of s) (unpaired x y z) r
count_unpaired-none e table s cell r x y z held over empty low = (to, from)
  where
    w1 : Attributes
    w1 = union x y

    w2 : Attributes
    w2 = union x z

    w3 : Attributes
    w3 = union x (union y z)

    test : List Cell → Bool
    test = uneven_at s cell x r w1 w2 w3

    keys : List (List Cell)
    keys = values_of s cell x r

    law : (filter test keys ≡ []) ↔ GivesNone (width_of s) (unpaired x y z) r
    law = unpaired-none e table s cell r x y z held over low

    all : Bool
    all = uneven (size_of_values s cell w1 r) (size_of_values s cell w2 r) (size_of_values s cell w3 r)

    same : (key : List Cell) → Contains keys key → test key ≡ all
    same key h =
        ap (λ (rows : List (List Cell)). uneven (length rows) (size_on s cell x r w2 key) (size_on s cell x r w3 key)) (class-all s cell w1 x r key empty h)
        ∙ ap (λ (rows : List (List Cell)). uneven (size_of_values s cell w1 r) (length rows) (size_on s cell x r w3 key)) (class-all s cell w2 x r key empty h)
        ∙ ap (λ (rows : List (List Cell)). uneven (size_of_values s cell w1 r) (size_of_values s cell w2 r) (length rows)) (class-all s cell w3 x r key empty h)

    to : all ≡ false → GivesNone (width_of s) (unpaired x y z) r
    to even = law.0 (nil_from_none (filter test keys) (λ key h.
        let at = filter-member test keys key h in
        true≢false (sym at.1 ∙ same key at.0 ∙ even)))

    -- a relation without tuples has no values
    of_relation : (q : Relation) → ((t : Tuple) → Contains q t → ⊥) → uneven (size_of_values s cell w1 q) (size_of_values s cell w2 q) (size_of_values s cell w3 q) ≡ false
    of_relation [] none = refl
    of_relation (t ∷ q) none = absurd (none t (Contains-head t q))

    from : GivesNone (width_of s) (unpaired x y z) r → all ≡ false
    from none = elim (cases_Bool all) [
      | inl odd ↦ absurd (true≢false (sym odd ∙ of_relation r (λ t h.
          let key = cells_on s cell x t in
          let there = row-value s cell x r t h in
          shows_none (filter test keys) key (law.1 none) (filter-keeps test keys key there (same key there ∙ odd)))))
      | inr even ↦ even
    ]
