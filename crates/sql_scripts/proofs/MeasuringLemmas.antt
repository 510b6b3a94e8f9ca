-- The queries that count what breaks a rule, as texts.
use Rattle.std.proofs.Common.{◌≡◌, ℕ, Bool, true, false, ◌||◌, Some, None, List, [], ◌∷◌, ◌++◌, sym, ap, ◌∙◌, inl, inr, append-nil}
use Rattle.std.proofs.lemmas.Bool.{cases_Bool}
use Rattle.std.specs.Prelude.{if◌then◌else◌, codes, option_and_then}
use Rattle.attr_sets.specs.Attributes.{Attributes, below, union, difference}
use Rattle.attr_sets.specs.Sets.{is_subset}
use Rattle.schema_model.specs.Names.{quotes_doubled}
use Rattle.schema_model.specs.Schemas.{Schema}
use Rattle.dep_model.specs.Dependencies.{fd, mvd}
use Rattle.dep_model.specs.Projections.{members_below}
use Rattle.schema_model.specs.Schemas.{width_of}
use Rattle.sql_syntax.specs.Names.{separator, comma_list}
use Rattle.sql_syntax.specs.Syntax.{helper, Column, column, count, Item, named, Query}
use Rattle.sql_syntax.specs.Printing.{item_text, group_text, in_brackets, selected_text, query_text, source_text}
use Rattle.relation_queries.specs.Queries.{several, unpaired}
use Rattle.sql_check.specs.Columns.{column_at, columns_on, group_name, groups_made}
use Rattle.sql_check.specs.Checks.{has_members, values_query}
use Rattle.sql_measure.specs.Measures.{keys_on, rows_query, counted_rows, classes_query, groups_query, change_query, first_of_four, second_of_four, third_of_four, counts_query, four_counts, pairs_query, lack_query, totals_query, query_of, measure_query}
use Rattle.sql_scripts.specs.Checking.{breaches_text, check_line}
use Rattle.sql_scripts.specs.Listing.{items_of}
use Rattle.sql_scripts.specs.declared.listing.Listed.TheVariants.{Group, ClassGroup}
use Rattle.sql_scripts.proofs.ListingLemmas.{comma_list-append, not_empty-map, group_not_empty, group_empty}
use Rattle.sql_scripts.proofs.PieceLemmas.{mvd_term}

-- ---- rules
pub measured_fd_rule : (s : Schema) (t : List ℕ) (x y both : Attributes) → is_subset y x ≡ false → both ≡ union x y
    → codes "\n" ++ (query_text (change_query s t x both) ++ codes ";\n") ≡ breaches_text (measure_query s t (fd x y))
unfolding check_line
measured_fd_rule s t x y both beyond same =
    ap (λ (z : Attributes). breaches_text (query_of s t (several x z))) same
    ∙ sym (ap (λ (b : Bool). breaches_text (option_and_then (query_of s t) (if b then None else Some (several x (union x y))))) beyond)

pub measured_mvd_rule : (s : Schema) (t : List ℕ) (x y universe both right rest : Attributes) → universe ≡ below (width_of s) → both ≡ union x y
    → right ≡ difference y x → rest ≡ difference universe both → is_subset y x ≡ false → is_subset universe both ≡ false
    → codes "\n" ++ (query_text (lack_query s t x right rest) ++ codes ";\n") ≡ breaches_text (measure_query s t (mvd x y))
unfolding check_line
measured_mvd_rule s t x y universe both right rest is_universe is_both is_right is_rest beyond not_empty =
    let n = width_of s in
    let to_rest : rest ≡ difference (below n) (union x y) =
    is_rest ∙ ap (λ (z : Attributes). difference z both) is_universe ∙ ap (λ (z : Attributes). difference (below n) z) is_both in
    let not_all : is_subset (below n) (union x y) ≡ false =
    ap (λ (z : Attributes). is_subset (below n) z) (sym is_both) ∙ ap (λ (z : Attributes). is_subset z both) (sym is_universe) ∙ not_empty in
    ap (λ (z : Attributes). breaches_text (query_of s t (unpaired x z rest))) is_right
    ∙ ap (λ (z : Attributes). breaches_text (query_of s t (unpaired x (difference y x) z))) to_rest
    ∙ sym (ap (λ (b : Bool). breaches_text (option_and_then (query_of s t) (if b || is_subset (below n) (union x y) then None else Some (mvd_term n x y)))) beyond
    ∙ ap (λ (b : Bool). breaches_text (option_and_then (query_of s t) (if b then None else Some (mvd_term n x y)))) not_all)

-- what every relation obeys has no query
pub unmeasured_fd : (s : Schema) (t : List ℕ) (x y : Attributes) → is_subset y x ≡ true → codes " holds always\n" ≡ breaches_text (measure_query s t (fd x y))
unmeasured_fd s t x y within =
    sym (ap (λ (b : Bool). breaches_text (option_and_then (query_of s t) (if b then None else Some (several x (union x y))))) within)

pub unmeasured_mvd : (s : Schema) (t : List ℕ) (x y : Attributes) → is_subset y x ≡ true → codes " holds always\n" ≡ breaches_text (measure_query s t (mvd x y))
unmeasured_mvd s t x y within =
    let n = width_of s in
    sym (ap (λ (b : Bool). breaches_text (option_and_then (query_of s t) (if b || is_subset (below n) (union x y) then None else Some (mvd_term n x y)))) within)

pub unmeasured_all : (s : Schema) (t : List ℕ) (x y universe both : Attributes) → universe ≡ below (width_of s) → both ≡ union x y
    → is_subset y x ≡ false → is_subset universe both ≡ true → codes " holds always\n" ≡ breaches_text (measure_query s t (mvd x y))
unmeasured_all s t x y universe both is_universe is_both beyond whole =
    let n = width_of s in
    let all : is_subset (below n) (union x y) ≡ true =
    ap (λ (z : Attributes). is_subset (below n) z) (sym is_both) ∙ ap (λ (z : Attributes). is_subset z both) (sym is_universe) ∙ whole in
    sym (ap (λ (b : Bool). breaches_text (option_and_then (query_of s t) (if b || is_subset (below n) (union x y) then None else Some (mvd_term n x y)))) beyond
    ∙ ap (λ (b : Bool). breaches_text (option_and_then (query_of s t) (if b then None else Some (mvd_term n x y)))) all)

-- ---- by which columns is grouped
abbrev pub keys_text : Bool → List ℕ → List ℕ
keys_text some columns = if some then codes " GROUP BY " ++ columns else []

pub group_keys : (s : Schema) (x : Attributes)
    → keys_text (has_members s x) (comma_list item_text (items_of s Group x)) ≡ group_text (keys_on s (codes "e") x)
group_keys s x =
    let key : ℕ → Column = λ k. record { alias = codes "e"; name = group_name x k } in
    let text = λ (b : Bool). keys_text b (comma_list item_text (items_of s Group x)) in
    elim (cases_Bool (has_members s x)) [
      | inl some ↦ ap text some ∙ group_not_empty key (members_below (width_of s) x) some
      | inr none ↦ ap text none ∙ group_empty key (members_below (width_of s) x) none
    ]

pub class_keys : (s : Schema) (x : Attributes)
    → keys_text (has_members s x) (comma_list item_text (items_of s ClassGroup x)) ≡ group_text (keys_on s (codes "c") x)
class_keys s x =
    let key : ℕ → Column = λ k. record { alias = codes "c"; name = group_name x k } in
    let text = λ (b : Bool). keys_text b (comma_list item_text (items_of s ClassGroup x)) in
    elim (cases_Bool (has_members s x)) [
      | inl some ↦ ap text some ∙ group_not_empty key (members_below (width_of s) x) some
      | inr none ↦ ap text none ∙ group_empty key (members_below (width_of s) x) none
    ]

-- ---- counts beside keys
abbrev pub beside_keys : Schema → Attributes → List ℕ → List ℕ
beside_keys s x counts = comma_list item_text (groups_made s x) ++ (if has_members s x then separator ++ counts else counts)

-- what is counted of a source by the attributes of g, beside those of x
abbrev pub counted_by : Schema → Attributes → Attributes → List ℕ → List ℕ → List ℕ
counted_by s x g counts source = selected_text false (beside_keys s x counts) source (codes "d") (group_text (columns_on s (codes "d") g))

listed_beside : (s : Schema) (x : Attributes) (i : Item) (is : List Item)
    → beside_keys s x (comma_list item_text (i ∷ is)) ≡ comma_list item_text (groups_made s x ++ i ∷ is)
listed_beside s x i is =
    sym (comma_list-append item_text (groups_made s x) i is
    ∙ ap (λ (b : Bool). comma_list item_text (groups_made s x) ++ (if b then separator ++ comma_list item_text (i ∷ is) else comma_list item_text (i ∷ is)))
    (not_empty-map (λ (k : ℕ). named (column (column_at s (codes "d") k)) (group_name x k)) (members_below (width_of s) x)))

pub classes_printed : (s : Schema) (t : List ℕ) (x w : Attributes) (source : List ℕ) → source ≡ source_text (rows_query s t w)
    → in_brackets true (counted_by s x w (codes "COUNT(*) AS n") source) ≡ source_text (classes_query s t x w)
unfolding classes_query
classes_printed s t x w source is =
    let clause = group_text (columns_on s (codes "d") w) in
    let items = comma_list item_text (groups_made s x ++ named count (helper (codes "n")) ∷ []) in
    ap (λ (from : List ℕ). in_brackets true (counted_by s x w (codes "COUNT(*) AS n") from)) is
    ∙ ap (λ (i : List ℕ). in_brackets true (selected_text false i (source_text (rows_query s t w)) (codes "d") clause)) (listed_beside s x (named count (helper (codes "n"))) [])
    ∙ ap (λ (c : List ℕ). in_brackets true (selected_text false items (source_text (rows_query s t w)) (codes "d") c)) (sym (append-nil clause))

counts_printed : (s : Schema) (x : Attributes) (q : Query) (i : Item) (is : List Item) (source : List ℕ) → source ≡ source_text q
    → counted_by s x x (comma_list item_text (i ∷ is)) source ≡ query_text (counts_query s x q (i ∷ is))
unfolding counts_query
counts_printed s x q i is source same =
    let clause = group_text (columns_on s (codes "d") x) in
    let items = comma_list item_text (groups_made s x ++ i ∷ is) in
    ap (counted_by s x x (comma_list item_text (i ∷ is))) same
    ∙ ap (λ (z : List ℕ). selected_text false z (source_text q) (codes "d") clause) (listed_beside s x i is)
    ∙ ap (selected_text false items (source_text q) (codes "d")) (sym (append-nil clause))

-- ---- the texts of the four counts
abbrev pub first_text : List ℕ
first_text = codes "COUNT(*) AS y, 0 AS z, 0 AS n, 0 AS r"

abbrev pub second_text : List ℕ
second_text = codes "0 AS y, COUNT(*) AS z, 0 AS n, 0 AS r"

abbrev pub third_text : List ℕ
third_text = codes "0 AS y, 0 AS z, COUNT(*) AS n, 0 AS r"

abbrev pub fourth_text : List ℕ
fourth_text = codes "0 AS y, 0 AS z, 0 AS n, COUNT(*) AS r"

-- one after the other
abbrev pub all_four : List ℕ → List ℕ → List ℕ → List ℕ → List ℕ
all_four a b c d = a ++ codes " UNION ALL " ++ b ++ codes " UNION ALL " ++ c ++ codes " UNION ALL " ++ d

pub four_printed : (s : Schema) (t : List ℕ) (x y z : Attributes) (lefts rests all rows : List ℕ)
    → lefts ≡ source_text (values_query s t (union x y)) → rests ≡ source_text (values_query s t (union x z))
    → all ≡ source_text (values_query s t (union x (union y z))) → rows ≡ source_text (counted_rows s t x)
    → in_brackets true (all_four (counted_by s x x first_text lefts) (counted_by s x x second_text rests) (counted_by s x x third_text all) (counted_by s x x fourth_text rows))
    ≡ source_text (four_counts s t x y z)
unfolding four_counts
four_printed s t x y z lefts rests all rows of_lefts of_rests of_all of_rows =
    let q1 = values_query s t (union x y) in
    let q2 = values_query s t (union x z) in
    let q3 = values_query s t (union x (union y z)) in
    let q4 = counted_rows s t x in
    let c1 = query_text (counts_query s x q1 first_of_four) in
    let c2 = query_text (counts_query s x q2 second_of_four) in
    let c3 = query_text (counts_query s x q3 third_of_four) in
    let t2 = counted_by s x x second_text rests in
    let t3 = counted_by s x x third_text all in
    let t4 = counted_by s x x fourth_text rows in
    ap (λ (a : List ℕ). in_brackets true (all_four a t2 t3 t4)) (counts_printed s x q1 _ _ lefts of_lefts)
    ∙ ap (λ (b : List ℕ). in_brackets true (all_four c1 b t3 t4)) (counts_printed s x q2 _ _ rests of_rests)
    ∙ ap (λ (c : List ℕ). in_brackets true (all_four c1 c2 c t4)) (counts_printed s x q3 _ _ all of_all)
    ∙ ap (λ (d : List ℕ). in_brackets true (all_four c1 c2 c3 d)) (counts_printed s x q4 _ _ rows of_rows)

-- ---- groups
pub groups_printed : (s : Schema) (t : List ℕ) (x w : Attributes) (classes clause : List ℕ) → classes ≡ source_text (classes_query s t x w)
    → clause ≡ group_text (keys_on s (codes "c") x)
    → in_brackets true (selected_text false (codes "SUM(c.n) AS n, MAX(c.n) AS m, COUNT(*) AS k") classes (codes "c") clause) ≡ source_text (groups_query s t x w)
unfolding groups_query
groups_printed s t x w classes clause of_classes of_clause =
    let items = codes "SUM(c.n) AS n, MAX(c.n) AS m, COUNT(*) AS k" in
    let source = source_text (classes_query s t x w) in
    ap (λ (from : List ℕ). in_brackets true (selected_text false items from (codes "c") clause)) of_classes
    ∙ ap (λ (c : List ℕ). in_brackets true (selected_text false items source (codes "c") c)) (of_clause ∙ sym (append-nil (group_text (keys_on s (codes "c") x))))

pub pairs_printed : (s : Schema) (t : List ℕ) (x y z : Attributes) (counts clause : List ℕ) → counts ≡ source_text (four_counts s t x y z)
    → clause ≡ group_text (keys_on s (codes "e") x)
    → in_brackets true (selected_text false (codes "SUM(e.r) AS r, SUM(e.y) * SUM(e.z) - SUM(e.n) AS m") counts (codes "e") clause) ≡ source_text (pairs_query s t x y z)
unfolding pairs_query
pairs_printed s t x y z counts clause of_counts of_clause =
    let items = codes "SUM(e.r) AS r, SUM(e.y) * SUM(e.z) - SUM(e.n) AS m" in
    let source = source_text (four_counts s t x y z) in
    ap (λ (from : List ℕ). in_brackets true (selected_text false items from (codes "e") clause)) of_counts
    ∙ ap (λ (c : List ℕ). in_brackets true (selected_text false items source (codes "e") c)) (of_clause ∙ sym (append-nil (group_text (keys_on s (codes "e") x))))

-- ---- three numbers
abbrev pub totals : List ℕ → List ℕ → List ℕ → List ℕ → List ℕ
totals shown counted groups test =
    selected_text false shown (in_brackets true (selected_text false counted groups (codes "g") test)) (codes "h") (codes " WHERE h.\"groups\" > 0")

abbrev change_shown : List ℕ
change_shown = codes "h.\"groups\", h.\"rows\", h.\"change\""

abbrev change_counted : List ℕ
change_counted = codes "COUNT(*) AS \"groups\", SUM(g.n) AS \"rows\", SUM(g.n) - SUM(g.m) AS \"change\""

abbrev lack_shown : List ℕ
lack_shown = codes "h.\"groups\", h.\"rows\", h.\"missing\""

abbrev lack_counted : List ℕ
lack_counted = codes "COUNT(*) AS \"groups\", SUM(g.r) AS \"rows\", SUM(g.m) AS \"missing\""

pub change_printed : (s : Schema) (t : List ℕ) (x w : Attributes) (groups : List ℕ) → groups ≡ source_text (groups_query s t x w)
    → totals change_shown change_counted groups (codes " WHERE g.k > 1") ≡ query_text (change_query s t x w)
unfolding totals_query quotes_doubled
change_printed s t x w groups is = ap (λ (from : List ℕ). totals change_shown change_counted from (codes " WHERE g.k > 1")) is

pub lack_printed : (s : Schema) (t : List ℕ) (x y z : Attributes) (groups : List ℕ) → groups ≡ source_text (pairs_query s t x y z)
    → totals lack_shown lack_counted groups (codes " WHERE g.m <> 0") ≡ query_text (lack_query s t x y z)
unfolding totals_query quotes_doubled
lack_printed s t x y z groups is = ap (λ (from : List ℕ). totals lack_shown lack_counted from (codes " WHERE g.m <> 0")) is
