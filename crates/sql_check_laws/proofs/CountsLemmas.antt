-- The three counts beside each value on a set: one row of each kind.
use Rattle.std.proofs.Common.{◌≡◌, ◌<◌, ◌+◌, ℕ, true, false, List, [], ◌∷◌, ◌++◌, length, get_or, map, filter, Some, None, Option, refl, sym, ap, subst, ◌∙◌, inl, inr, ⊎_elim, arith}
use Rattle.std.proofs.lemmas.Bool.{cases_Bool, true≢false}
use Rattle.std.proofs.lemmas.List.{length-map, map-append}
use Rattle.std.proofs.lemmas.Fmt.{decimal_is_IsNumeral}
use Rattle.std.specs.Fmt.{decimal}
use Rattle.std.specs.Prelude.{◌^◌, ℤ, pos, Contains, option_map, option_and_then, codes}
use Rattle.std.specs.Str.Parse.{digits_value}
use Rattle.std.specs.Str.{bytes_eq}
use Rattle.attr_sets.specs.Attributes.{Attributes, count_below, IsSubset}
use Rattle.attr_sets.proofs.AttributesLemmas.{count_below-le}
use Rattle.schema_model.specs.Schemas.{Schema}
use Rattle.dep_model.specs.Projections.{members_below}
use Rattle.schema_model.specs.Schemas.{width_of}
use Rattle.dep_model.specs.Tuples.{Relation, value_at}
use Rattle.dep_model.proofs.ListLemmas.{Contains-head, Contains-later, Contains-cases}
use Rattle.dep_model.proofs.SchemeLemmas.{members_below-at}
use Rattle.sql_syntax.specs.Names.{is_not_empty}
use Rattle.sql_syntax.specs.Syntax.{Column, column, Item, named, groups_by}
use Rattle.sql_check.specs.Columns.{column_at, columns_on, group_name, groups_made}
use Rattle.sql_check.specs.Checks.{first_count, second_count, count_of_both, counts_query}
use Rattle.sql_evaluation.specs.Cells.{Cell, number}
use Rattle.sql_evaluation.specs.Values.{each, bytes_of, named_cell, Look, View}
use Rattle.sql_evaluation.specs.Evaluation.{Engine, in_group, group_view, having_true, item_name, item_value, with_items, selected, evaluate}
use Rattle.sql_check_laws.specs.HeldRelations.{compared_cell, Holds}
use Rattle.sql_check_laws.proofs.EachLemmas.{each-known, each-map, map-map}
use Rattle.sql_check_laws.proofs.ColumnLemmas.{bytes_same, bytes_self, NamesApart}
use Rattle.sql_check_laws.proofs.CellLemmas.{member_of}
use Rattle.sql_check_laws.proofs.ValuesLemmas.{cells_on, values_of, values-known}
use Rattle.sql_check_laws.proofs.GroupLemmas.{Cells, look, value-row, class_of, looks_of, groups-known, class-known, key-shown}

-- ---- lists of items
pub each-append : {W X Y : Type 0} (f : X → Option Y) (h : W → X) (g : W → Y) (ws : List W) (xs : List X) (ys : List Y)
    → ((w : W) → Contains ws w → f (h w) ≡ Some (g w)) → each f xs ≡ Some ys → each f (map h ws ++ xs) ≡ Some (map g ws ++ ys)
each-append f h g [] xs ys known rest = rest
each-append {W} {X} {Y} f h g (w ∷ ws) xs ys known rest =
    ap (option_and_then (λ (y : Y). option_map (λ (zs : List Y). y ∷ zs) (each f (map h ws ++ xs)))) (known w (Contains-head w ws))
    ∙ ap (option_map (λ (zs : List Y). g w ∷ zs)) (each-append f h g ws xs ys (λ v m. known v (Contains-later w ws v m)) rest)

-- ---- the names by which is counted
abbrev pub number_name : Attributes → ℕ → List ℕ
number_name x k = bytes_of (group_name x k)

decimal-same : (a b : ℕ) → a < 2 ^ 64 → b < 2 ^ 64 → decimal a ≡ decimal b → a ≡ b
decimal-same a b la lb same =
    sym (decimal_is_IsNumeral a la).1 ∙ ap (digits_value 10) same ∙ (decimal_is_IsNumeral b lb).1

tail_of : List ℕ → List ℕ
tail_of [] = []
tail_of (b ∷ bs) = bs

count-low : (s : Schema) (x : Attributes) (k : ℕ) → k < width_of s → count_below x k + 1 < 2 ^ 64
count-low s x k low =
    let le = count_below-le k x in
    let limit = s.valid.names_within_limit in
    omega (arith, le, low, limit)

pub number_names_apart : (s : Schema) (x : Attributes) → NamesApart (number_name x) (members_below (width_of s) x)
unfolding tail_of
number_names_apart s x k m hk hm same =
    let at_k = member_of (width_of s) x k hk in
    let at_m = member_of (width_of s) x m hm in
    let numbers : count_below x k + 1 ≡ count_below x m + 1 =
    decimal-same (count_below x k + 1) (count_below x m + 1) (count-low s x k at_k.0) (count-low s x m at_m.0) (ap tail_of same) in
    let counts : count_below x k ≡ count_below x m = omega (arith, numbers) in
    sym (members_below-at (width_of s) x k k at_k.0 at_k.1)
    ∙ ap (λ (i : ℕ). get_or (members_below (width_of s) x) i k) counts
    ∙ members_below-at (width_of s) x m k at_m.0 at_m.1

-- ---- columns of a row of counts
abbrev pub count_names : List (List ℕ)
count_names = codes "y" ∷ codes "z" ∷ codes "n" ∷ []

abbrev pub all_names : Schema → Attributes → List (List ℕ)
all_names s x = map (number_name x) (members_below (width_of s) x) ++ count_names

pub named-left : (name : ℕ → List ℕ) (cell : ℕ → Cell) (ms : List ℕ) (names : List (List ℕ)) (cells : List Cell) (k : ℕ) → NamesApart name ms → Contains ms k
    → named_cell (map name ms ++ names) (map cell ms ++ cells) (name k) ≡ Some (cell k)
named-left name cell [] names cells k apart h = absurd (omega (arith, h.1))
named-left name cell (m ∷ ms) names cells k apart h = elim (cases_Bool (bytes_eq (name m) (name k))) [
  | inl same ↦ rw same (ap (λ (j : ℕ). Some (cell j)) (apart m k (Contains-head m ms) h ((bytes_same (name m) (name k)).0 same)))
  | inr other ↦ rw other (⊎_elim
      (λ (first : k ≡ m). absurd (true≢false (sym (ap (λ (j : ℕ). bytes_eq (name m) (name j)) first ∙ bytes_self (name m)) ∙ other)))
      (λ later. named-left name cell ms names cells k (λ i j a b. apart i j (Contains-later m ms i a) (Contains-later m ms j b)) later)
      (Contains-cases m ms k h))
]

pub named-right : (name : ℕ → List ℕ) (cell : ℕ → Cell) (ms : List ℕ) (names : List (List ℕ)) (cells : List Cell) (other : List ℕ)
    → ((k : ℕ) → bytes_eq (name k) other ≡ false) → named_cell (map name ms ++ names) (map cell ms ++ cells) other ≡ named_cell names cells other
named-right name cell [] names cells other apart = refl
named-right name cell (m ∷ ms) names cells other apart = rw (apart m) (named-right name cell ms names cells other apart)

-- ---- one of the three queries
-- the counts of a row
abbrev pub in_first : ℕ → List Cell
in_first n = number (pos n) ∷ number (pos 0) ∷ number (pos 0) ∷ []

abbrev pub in_second : ℕ → List Cell
in_second n = number (pos 0) ∷ number (pos n) ∷ number (pos 0) ∷ []

abbrev pub in_third : ℕ → List Cell
in_third n = number (pos 0) ∷ number (pos 0) ∷ number (pos n) ∷ []

-- items that count show a count, whatever the group is
abbrev pub ShowCount : List Item → (ℕ → List Cell) → Type 0
ShowCount counts cells =
    (cast : List ℕ → Option ℤ) (columns : List Column) (looks : List Look) (key : List Cell)
    → each (item_value cast (group_view columns looks key)) counts ≡ Some (cells (length (filter (in_group columns key) looks)))

abbrev pub count_rows : Schema → Cells → Attributes → Attributes → Relation → (ℕ → List Cell) → List (List Cell)
count_rows s cell w x r cells = map (λ key. key ++ cells (length (class_of s cell w x r key))) (values_of s cell x r)

group_items : (s : Schema) (cast : List ℕ → Option ℤ) (cell : Cells) (w x : Attributes) (r : Relation) (counts : List Item) (cells : ℕ → List Cell) (key : List Cell)
    → IsSubset x w → ShowCount counts cells → Contains (values_of s cell x r) key
    → each (item_value cast (group_view (columns_on s (codes "d") x) (looks_of s cell w r) key)) (groups_made s x ++ counts)
    ≡ Some (key ++ cells (length (class_of s cell w x r key)))
group_items s cast cell w x r counts cells key within shows h =
    let v = value-row s cell x r key h in
    let columns = columns_on s (codes "d") x in
    let looks = looks_of s cell w r in
    let size : length (filter (in_group columns key) looks) ≡ length (class_of s cell w x r key) =
    ap length (class-known s cell w x r key within) ∙ length-map (class_of s cell w x r key) (look s w) in
    let own : each (item_value cast (group_view columns looks (cells_on s cell x v.0))) (groups_made s x ++ counts)
    ≡ Some (cells_on s cell x v.0 ++ cells (length (filter (in_group columns (cells_on s cell x v.0)) looks))) =
    each-append (item_value cast (group_view columns looks (cells_on s cell x v.0))) (λ (k : ℕ). named (column (column_at s (codes "d") k)) (group_name x k))
    (λ (k : ℕ). compared_cell cell k (value_at v.0 k)) (members_below (width_of s) x) counts
    (cells (length (filter (in_group columns (cells_on s cell x v.0)) looks)))
    (λ k m. key-shown s cell x v.0 k m) (shows cast columns looks (cells_on s cell x v.0)) in
    subst (λ (z : List Cell). each (item_value cast (group_view columns looks z)) (groups_made s x ++ counts) ≡ Some (z ++ cells (length (filter (in_group columns z) looks)))) v.2 own
    ∙ ap (λ (n : ℕ). Some (key ++ cells n)) size

names_made : (s : Schema) (x : Attributes) (counts : List Item) → map item_name counts ≡ count_names → map item_name (groups_made s x ++ counts) ≡ all_names s x
names_made s x counts named_so =
    map-append item_name (groups_made s x) counts
    ∙ ap (λ (names : List (List ℕ)). names ++ map item_name counts)
    (map-map item_name (λ (k : ℕ). named (column (column_at s (codes "d") k)) (group_name x k)) (members_below (width_of s) x))
    ∙ ap (λ (names : List (List ℕ)). map (number_name x) (members_below (width_of s) x) ++ names) named_so

pub counts-known : (e : Engine) (table : List ℕ) (s : Schema) (cell : Cells) (r : Relation) (x w : Attributes) (counts : List Item) (cells : ℕ → List Cell)
    → Holds e table s cell r → IsSubset x w → is_not_empty (columns_on s (codes "d") x) ≡ true → ShowCount counts cells → map item_name counts ≡ count_names
    → evaluate e (counts_query s table x w counts) ≡ Some (record { names = all_names s x; rows = count_rows s cell w x r cells })
unfolding counts_query
counts-known e table s cell r x w counts cells held within not_empty shows named_so =
    let columns = columns_on s (codes "d") x in
    let items = groups_made s x ++ counts in
    let looks = looks_of s cell w r in
    let keys = values_of s cell x r in
    let shown = λ (v : View). each (item_value e.cast v) items in
    ap (option_and_then (selected e.cast false items (codes "d") (groups_by columns None))) (values-known e table s cell r w held)
    ∙ ap (λ (views : Option (List View)). option_map (with_items false items) (option_and_then (each shown) (option_and_then (having_true e.cast None) views)))
    (groups-known s cell w x r within not_empty)
    ∙ ap (option_map (with_items false items))
    (each-map shown (group_view columns looks) keys
    ∙ each-known (λ (key : List Cell). shown (group_view columns looks key)) (λ (key : List Cell). key ++ cells (length (class_of s cell w x r key))) keys
    (λ key h. group_items s e.cast cell w x r counts cells key within shows h))
    ∙ ap (λ (names : List (List ℕ)). Some (record { names = names; rows = count_rows s cell w x r cells })) (names_made s x counts named_so)

pub shows_first : ShowCount first_count in_first
shows_first cast columns looks key = refl

pub shows_second : ShowCount second_count in_second
shows_second cast columns looks key = refl

pub shows_third : ShowCount count_of_both in_third
shows_third cast columns looks key = refl
