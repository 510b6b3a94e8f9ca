-- Queries are read back from their texts.
use Rattle.std.proofs.Common.{◌≡◌, ◌<◌, ◌≤◌, ◌+◌, ◌&&◌, ℕ, zero, suc, Bool, true, false, not, Some, None, List, [], ◌∷◌, ◌++◌, length, map, drop, refl, sym, ap, subst, ◌∙◌, inl, inr, arith, append_assoc, ◌-◌}
use Rattle.std.specs.Prelude.{◌==◌, if◌then◌else◌, codes}
use Rattle.std.specs.List.{flat_map, list_all}
use Rattle.std.proofs.lemmas.Bool.{and_from, and_parts, cases_Bool, eqb-true, true≢false}
use Rattle.std.proofs.lemmas.Bool.Decides.{nat_tests}
use Rattle.sql_syntax.specs.Names.{comma_list, is_not_empty}
use Rattle.sql_syntax.specs.Printing.{name_text, names_text, scalar_text, item_text, clause_text, link_text, joined_text, distinct_text, selected_text, text_at}
use Rattle.sql_syntax.specs.Syntax.{ColumnName, attribute, helper, Scalar, column, number_zero, number_one, written_number, missing_value, Item, own, named, unnamed, Clause, Link, Query, stored, select, union_all, except, joined, all_columns, one_row}
use Rattle.sql_syntax.proofs.ListLemmas.{comma_list-map}
use Rattle.script_texts.specs.Queries.{is_bare, is_column_name, is_user_name, IsTableName, is_number, is_constant, is_item, is_clause, IsLink, is_compound, IsQueryAt}
use Rattle.script_texts.proofs.Follows.{head, after_blank, mark, next, stops, stops_first, stops_rest, stops_parted, stops_some, three_parts, Read, and_then}
use Rattle.script_texts.proofs.Names.{read_bare, bare_reads, read_name}
use Rattle.script_texts.proofs.Lists.{ReadsBack, read_list, list_reads, Reads, by_fuel, dot, read_table, table_reads}
use Rattle.script_texts.proofs.Items.{comma, begins_value, item_begins, read_items, items_stops, items_read, each_name_reads, name_commas}
use Rattle.script_texts.proofs.Clauses.{clause_stops, read_clause, clause_reads, clause_parted}
use Rattle.script_texts.proofs.Links.{each_of_all, links_stops, read_links, LinksRead, links_read, links_after}

-- what no query goes on with, and what a query that is no compound does not
abbrev pub single_stops : List ℕ
single_stops = after_blank 70 ∷ after_blank 74 ∷ after_blank 76 ∷ after_blank 67 ∷ dot ∷ clause_stops

abbrev pub query_stops : List ℕ
query_stops = after_blank 85 ∷ after_blank 69 ∷ single_stops

-- where a table has no name, a bracket begins a query
abbrev source_stops : List ℕ
source_stops = mark 40 ∷ dot ∷ []

-- ---- readers, by one of queries that are no compounds
abbrev more_queries : (List ℕ → Read Query) → ℕ → Query → List ℕ → Read Query
more_queries single zero q text = None
more_queries single (suc n) q text =
    if next text == after_blank 85 then and_then (single (drop 11 text)) (λ r rest. more_queries single n (union_all q r) rest)
    else if next text == after_blank 69 then and_then (single (drop 8 text)) (λ r rest. more_queries single n (except q r) rest)
    else Some (q, text)

abbrev read_query_by : (List ℕ → Read Query) → ℕ → List ℕ → Read Query
read_query_by single n text = and_then (single text) (more_queries single n)

abbrev read_source_by : (List ℕ → Read Query) → ℕ → List ℕ → Read Query
read_source_by single n text =
    if head text == 40 then and_then (read_query_by single n (drop 1 text)) (λ q rest. Some (q, drop 1 rest))
    else and_then (read_table n text) (λ name rest. Some (stored name, rest))

abbrev value_of : Item → Scalar
value_of (own c) = column c
value_of (named x name) = x
value_of (unnamed x) = x

abbrev with_alias : Bool → List Item → ℕ → Query → List ℕ → Read Query
with_alias distinct items n source text =
    and_then (read_bare (drop 4 text))
    (λ alias rest. and_then (read_clause items n rest) (λ clause after. Some (select distinct items source alias clause, after)))

abbrev from_items : Bool → (List ℕ → Read Query) → ℕ → List Item → List ℕ → Read Query
from_items distinct single n items text =
    if next text == after_blank 70 then and_then (read_source_by single n (drop 6 text)) (with_alias distinct items n)
    else Some (one_row (map value_of items), text)

abbrev read_joined : ℕ → List ℕ → Read Query
read_joined n text =
    and_then (read_list read_name comma 2 n text)
    (λ names rest. and_then (read_table n (drop 6 rest))
    (λ first after. and_then (read_links n after) (λ links last. Some (joined names first links, last))))

abbrev all_of : Query → List ℕ → Read Query
all_of q text = and_then (read_bare (drop 4 text)) (λ alias rest. Some (all_columns q alias, rest))

abbrev selected_by : (List ℕ → Read Query) → ℕ → List ℕ → Read Query
selected_by single n text =
    if head text == 42 then and_then (read_source_by single n (drop 7 text)) all_of
    else if head text == 34 then read_joined n text
    else if head text == 68 then and_then (read_items n (drop 9 text)) (from_items true single n)
    else and_then (read_items n text) (from_items false single n)

abbrev pub read_single : ℕ → List ℕ → Read Query
read_single zero text = None
read_single (suc n) text = selected_by (read_single n) n (drop 7 text)

abbrev pub read_query : ℕ → List ℕ → Read Query
read_query n text = read_query_by (read_single n) n text

abbrev read_source : ℕ → List ℕ → Read Query
read_source n text = read_source_by (read_single n) n text

-- ---- what is read back
abbrev SingleReads : Query → Type 0
SingleReads q = Reads Query read_single single_stops (text_at false q) q

abbrev SourceReads : Query → Type 0
SourceReads q = Reads Query read_source source_stops (text_at true q) q

abbrev pub QueryReads : Query → Type 0
QueryReads q = Reads Query read_query query_stops (text_at false q) q

-- each query that is taken together with others
abbrev EachMember : Query → Type 0
EachMember (stored name) = Unit {0}
EachMember (select distinct items source alias clause) = SingleReads (select distinct items source alias clause)
EachMember (union_all p q) = EachMember p × EachMember q
EachMember (except p q) = EachMember p × EachMember q
EachMember (joined names first links) = SingleReads (joined names first links)
EachMember (all_columns source alias) = SingleReads (all_columns source alias)
EachMember (one_row values) = SingleReads (one_row values)

-- ---- what is selected
-- no other query begins so
not_others : (b : ℕ) → begins_value b ≡ true → ((b == 42) ≡ false) × ((b == 34) ≡ false) × ((b == 68) ≡ false)
not_others b is = (grind (arith, nat_tests, is), grind (arith, nat_tests, is), grind (arith, nat_tests, is))

items_begin : (items : List Item) (rest : List ℕ) → list_all is_item items ≡ true
    → ((head (comma_list item_text items ++ (codes " FROM " ++ rest)) == 42) ≡ false)
    × ((head (comma_list item_text items ++ (codes " FROM " ++ rest)) == 34) ≡ false)
    × ((head (comma_list item_text items ++ (codes " FROM " ++ rest)) == 68) ≡ false)
items_begin [] rest are = (refl, refl, refl)
items_begin (i ∷ items) rest are =
    let after = flat_map (λ (j : Item). codes ", " ++ item_text j) items in
    let tail = codes " FROM " ++ rest in
    subst (λ (t : List ℕ). ((head t == 42) ≡ false) × ((head t == 34) ≡ false) × ((head t == 68) ≡ false))
    (sym (append_assoc (item_text i) after tail))
    (not_others (head (item_text i ++ (after ++ tail)))
    (item_begins i (after ++ tail) (and_parts (is_item i) (list_all is_item items) are).0))

record ItemsRead (items : List Item) : Type 0 where
  pub least : ℕ
  pub back : (n : ℕ) → least ≤ n → (rest : List ℕ)
      → read_items n (comma_list item_text items ++ (codes " FROM " ++ rest)) ≡ Some (items, codes " FROM " ++ rest)

items_of : (items : List Item) → list_all is_item items ≡ true → ItemsRead items
items_of [] are = record { least = 0; back = λ n fuel rest. refl }
items_of (i ∷ items) are =
    let all = items_read i items are in
    record { least = all.least; back = λ n fuel rest. all.back n fuel (codes " FROM " ++ rest) refl }

-- ---- the parts of a text
selected_parts : (distinct : Bool) (items source alias clause rest : List ℕ)
    → selected_text distinct items source alias clause ++ rest
    ≡ codes "SELECT " ++ (distinct_text distinct ++ (items ++ (codes " FROM " ++ (source ++ (codes " AS " ++ (alias ++ (clause ++ rest)))))))
unfolding selected_text
selected_parts distinct items source alias clause rest = simp append_assoc

joined_parts : (names first links rest : List ℕ)
    → joined_text names first links ++ rest ≡ codes "SELECT " ++ (names ++ (codes " FROM " ++ (first ++ (links ++ rest))))
unfolding joined_text
joined_parts names first links rest = simp append_assoc

-- ---- SELECT .. FROM
module _ (distinct : Bool) (items : List Item) (source : Query) (alias : List ℕ) (clause : Clause) where
  abbrev this : Query
  this = select distinct items source alias clause

  abbrev from_text : List ℕ → List ℕ
  from_text rest = codes " FROM " ++ (text_at true source ++ (codes " AS " ++ (alias ++ (clause_text clause ++ rest))))

  alias_on : (n : ℕ) (rest : List ℕ) → is_bare alias ≡ true → ReadsBack (read_clause items n) clause_stops (clause_text clause) clause
      → stops single_stops rest ≡ true
      → with_alias distinct items n source (codes " AS " ++ (alias ++ (clause_text clause ++ rest))) ≡ Some (this, rest)
  alias_on n rest bare clause_back ends =
      let ended = stops_some single_stops clause_stops rest refl ends in
      ap (λ (t : Read (List ℕ)). and_then t (λ found later. and_then (read_clause items n later)
      (λ c after. Some (select distinct items source found c, after))))
      (bare_reads alias (clause_text clause ++ rest) bare (clause_parted clause rest ended))
      ∙ ap (λ (t : Read Clause). and_then t (λ c after. Some (select distinct items source alias c, after))) (clause_back rest ended)

  from_on : (n : ℕ) (rest : List ℕ) → is_bare alias ≡ true
      → ReadsBack (read_source n) source_stops (text_at true source) source
      → ReadsBack (read_clause items n) clause_stops (clause_text clause) clause → stops single_stops rest ≡ true
      → from_items distinct (read_single n) n items (from_text rest) ≡ Some (this, rest)
  from_on n rest bare source_back clause_back ends =
      ap (λ (t : Read Query). and_then t (with_alias distinct items n))
      (source_back (codes " AS " ++ (alias ++ (clause_text clause ++ rest))) refl)
      ∙ alias_on n rest bare clause_back ends

items_on : (n : ℕ) (distinct : Bool) (items : List Item) (rest : List ℕ) (go : List Item → List ℕ → Read Query)
    → read_items n (comma_list item_text items ++ (codes " FROM " ++ rest)) ≡ Some (items, codes " FROM " ++ rest)
    → and_then (read_items n (comma_list item_text items ++ (codes " FROM " ++ rest))) go ≡ go items (codes " FROM " ++ rest)
items_on n distinct items rest go back = ap (λ (t : Read (List Item)). and_then t go) back

distinct_on : (n : ℕ) (distinct : Bool) (items : List Item) (rest : List ℕ) → list_all is_item items ≡ true
    → read_items n (comma_list item_text items ++ (codes " FROM " ++ rest)) ≡ Some (items, codes " FROM " ++ rest)
    → selected_by (read_single n) n (distinct_text distinct ++ (comma_list item_text items ++ (codes " FROM " ++ rest)))
    ≡ from_items distinct (read_single n) n items (codes " FROM " ++ rest)
distinct_on n true items rest are back = items_on n true items rest (from_items true (read_single n) n) back
distinct_on n false items rest are back =
    let begin_with = items_begin items rest are in
    let no_star = begin_with.0 in
    let no_quote = begin_with.1 in
    let no_distinct = begin_with.2 in
    let text = comma_list item_text items ++ (codes " FROM " ++ rest) in
    let selected = and_then (read_items n text) (from_items false (read_single n) n) in
    let others : Read Query = if head text == 68 then and_then (read_items n (drop 9 text)) (from_items true (read_single n) n) else selected in
    ap (λ (t : Bool). if t then and_then (read_source_by (read_single n) n (drop 7 text)) all_of
    else if head text == 34 then read_joined n text else others) no_star
    ∙ ap (λ (t : Bool). if t then read_joined n text else others) no_quote
    ∙ ap (λ (t : Bool). if t then and_then (read_items n (drop 9 text)) (from_items true (read_single n) n) else selected) no_distinct
    ∙ items_on n false items rest (from_items false (read_single n) n) back

select_reads : (distinct : Bool) (items : List Item) (source : Query) (alias : List ℕ) (clause : Clause)
    → list_all is_item items ≡ true → SourceReads source → is_bare alias ≡ true → is_clause items clause ≡ true
    → SingleReads (select distinct items source alias clause)
select_reads distinct items source alias clause are from bare is =
    let listed = items_of items are in
    let after = clause_reads items clause is in
    by_fuel read_single single_stops (text_at false (select distinct items source alias clause))
    (select distinct items source alias clause) (listed.least + from.least + after.least) (λ n fuel rest ends.
    let tail = text_at true source ++ (codes " AS " ++ (alias ++ (clause_text clause ++ rest))) in
    ap (read_single (suc n)) (selected_parts distinct (comma_list item_text items) (text_at true source) alias (clause_text clause) rest)
    ∙ distinct_on n distinct items tail are (listed.back n (omega (arith, fuel)) tail)
    ∙ from_on distinct items source alias clause n rest bare (from.back n (omega (arith, fuel))) (after.back n (omega (arith, fuel))) ends)

-- ---- SELECT * FROM
star_parts : (source alias rest : List ℕ)
    → (codes "SELECT * FROM " ++ source ++ codes " AS " ++ alias) ++ rest ≡ codes "SELECT * FROM " ++ (source ++ (codes " AS " ++ (alias ++ rest)))
star_parts source alias rest = simp append_assoc

all_reads : (source : Query) (alias : List ℕ) → SourceReads source → is_bare alias ≡ true → SingleReads (all_columns source alias)
all_reads source alias from bare =
    by_fuel read_single single_stops (text_at false (all_columns source alias)) (all_columns source alias) from.least (λ n fuel rest ends.
    ap (read_single (suc n)) (star_parts (text_at true source) alias rest)
    ∙ ap (λ (t : Read Query). and_then t all_of) (from.back n fuel (codes " AS " ++ (alias ++ rest)) refl)
    ∙ ap (λ (t : Read (List ℕ)). and_then t (λ found after. Some (all_columns source found, after)))
    (bare_reads alias rest bare (stops_parted single_stops rest ends)))

-- ---- SELECT of values
constant_item : (x : Scalar) → is_constant x ≡ true → is_item (unnamed x) ≡ true
constant_item number_zero is = refl
constant_item number_one is = refl
constant_item (written_number n) is = and_from (is_number n) true is refl
constant_item missing_value is = refl
constant_item x is = absurd (true≢false (sym is))

constants_items : (values : List Scalar) → list_all is_constant values ≡ true → list_all is_item (map unnamed values) ≡ true
constants_items [] are = refl
constants_items (x ∷ values) are =
    let parts = and_parts (is_constant x) (list_all is_constant values) are in
    and_from (is_item (unnamed x)) (list_all is_item (map unnamed values)) (constant_item x parts.0) (constants_items values parts.1)

values_of : (values : List Scalar) → map value_of (map unnamed values) ≡ values
values_of [] = refl
values_of (x ∷ values) = ap (λ (xs : List Scalar). x ∷ xs) (values_of values)

row_on : (n : ℕ) (x : Scalar) (values : List Scalar) (rest : List ℕ) → list_all is_item (map unnamed (x ∷ values)) ≡ true
    → ReadsBack (read_items n) items_stops (comma_list item_text (map unnamed (x ∷ values))) (map unnamed (x ∷ values))
    → stops single_stops rest ≡ true
    → selected_by (read_single n) n (comma_list item_text (map unnamed (x ∷ values)) ++ rest) ≡ Some (one_row (x ∷ values), rest)
row_on n x values rest are back ends =
    let items = map unnamed (x ∷ values) in
    let after = flat_map (λ (j : Item). codes ", " ++ item_text j) (map unnamed values) in
    let text = comma_list item_text items ++ rest in
    let begin_with : ((head text == 42) ≡ false) × ((head text == 34) ≡ false) × ((head text == 68) ≡ false) =
    subst (λ (t : List ℕ). ((head t == 42) ≡ false) × ((head t == 34) ≡ false) × ((head t == 68) ≡ false))
    (sym (append_assoc (scalar_text x) after rest))
    (not_others (head (scalar_text x ++ (after ++ rest)))
    (item_begins (unnamed x) (after ++ rest) (and_parts (is_item (unnamed x)) (list_all is_item (map unnamed values)) are).0)) in
    let selected = and_then (read_items n text) (from_items false (read_single n) n) in
    let others : Read Query = if head text == 68 then and_then (read_items n (drop 9 text)) (from_items true (read_single n) n) else selected in
    ap (λ (t : Bool). if t then and_then (read_source_by (read_single n) n (drop 7 text)) all_of
    else if head text == 34 then read_joined n text else others) begin_with.0
    ∙ ap (λ (t : Bool). if t then read_joined n text else others) begin_with.1
    ∙ ap (λ (t : Bool). if t then and_then (read_items n (drop 9 text)) (from_items true (read_single n) n) else selected) begin_with.2
    ∙ ap (λ (t : Read (List Item)). and_then t (from_items false (read_single n) n)) (back rest (stops_some single_stops items_stops rest refl ends))
    ∙ ap (λ (t : Bool). if t then and_then (read_source_by (read_single n) n (drop 6 rest)) (with_alias false items n)
    else Some (one_row (map value_of items), rest)) (stops_first (after_blank 70) [] rest (stops_some single_stops (after_blank 70 ∷ []) rest refl ends))
    ∙ ap (λ (xs : List Scalar). Some (one_row xs, rest)) (values_of (x ∷ values))

row_reads : (values : List Scalar) → (is_not_empty values && list_all is_constant values) ≡ true → SingleReads (one_row values)
row_reads [] are = absurd (true≢false (sym are))
row_reads (x ∷ values) are =
    let items = constants_items (x ∷ values) are in
    let listed = items_read (unnamed x) (map unnamed values) items in
    by_fuel read_single single_stops (text_at false (one_row (x ∷ values))) (one_row (x ∷ values)) listed.least (λ n fuel rest ends.
    ap (λ (t : List ℕ). selected_by (read_single n) n (t ++ rest)) (sym (comma_list-map item_text unnamed (x ∷ values)))
    ∙ row_on n x values rest items (listed.back n fuel) ends)

-- ---- tables that are joined
user_is_name : (name : ColumnName) → is_user_name name ≡ true → is_column_name name ≡ true
user_is_name (attribute name) is = refl
user_is_name (helper name) is = absurd (true≢false (sym is))

users_are_names : (names : List ColumnName) → list_all is_user_name names ≡ true → list_all is_column_name names ≡ true
users_are_names [] are = refl
users_are_names (name ∷ names) are =
    let parts = and_parts (is_user_name name) (list_all is_user_name names) are in
    and_from (is_column_name name) (list_all is_column_name names) (user_is_name name parts.0) (users_are_names names parts.1)

joined_begin : (n : ℕ) (name : ColumnName) (after : List ℕ) → is_user_name name ≡ true
    → selected_by (read_single n) n (name_text name ++ after) ≡ read_joined n (name_text name ++ after)
joined_begin n (attribute name) after is = refl
joined_begin n (helper name) after is = absurd (true≢false (sym is))

joined_reads : (names : List ColumnName) (first : List ℕ) (links : List Link) → (is_not_empty names && list_all is_user_name names) ≡ true
    → IsTableName first → LinksRead links → SingleReads (joined names first links)
joined_reads [] first links are table others = absurd (true≢false (sym are))
joined_reads (name ∷ names) first links are table others =
    let after = flat_map (λ (other : ColumnName). codes ", " ++ name_text other) names in
    by_fuel read_single single_stops (text_at false (joined (name ∷ names) first links)) (joined (name ∷ names) first links)
    (length names + 1 + length table.0 + others.least) (λ n fuel rest ends.
    let linked = flat_map link_text links ++ rest in
    let tail = codes " FROM " ++ (first ++ linked) in
    let ended = stops_some single_stops links_stops rest refl ends in
    let with_links = λ (found : List ColumnName) (name_of later : List ℕ). and_then (read_links n later) (λ ls last. Some (joined found name_of ls, last)) in
    ap (read_single (suc n)) (joined_parts (names_text (name ∷ names)) first (flat_map link_text links) rest)
    ∙ ap (selected_by (read_single n) n) (append_assoc (name_text name) after tail)
    ∙ joined_begin n name (after ++ tail) (and_parts (is_user_name name) (list_all is_user_name names) are).0
    ∙ ap (read_joined n) (sym (append_assoc (name_text name) after tail))
    ∙ ap (λ (t : Read (List ColumnName)). and_then t (λ found later. and_then (read_table n (drop 6 later)) (with_links found)))
    (list_reads ColumnName read_name name_text comma 2 [] (codes ", ") name_commas name names n tail (omega (arith, fuel))
    (each_name_reads (name ∷ names) (users_are_names (name ∷ names) are)) refl)
    ∙ ap (λ (t : Read (List ℕ)). and_then t (with_links (name ∷ names)))
    (table_reads first table n linked (omega (arith, fuel)) (links_after links rest ended))
    ∙ ap (λ (t : Read (List Link)). and_then t (λ ls last. Some (joined (name ∷ names) first ls, last)))
    (others.back n (omega (arith, fuel)) rest ended))

-- ---- compounds
abbrev count_of : Query → ℕ
count_of (union_all p q) = suc (count_of p)
count_of (except p q) = suc (count_of p)
count_of q = 0

abbrev least_of : (q : Query) → EachMember q → ℕ
least_of (stored name) each = 0
least_of (select distinct items source alias clause) each = each.least
least_of (union_all p q) each = least_of p each.0 + least_of q each.1
least_of (except p q) each = least_of p each.0 + least_of q each.1
least_of (joined names first links) each = each.least
least_of (all_columns source alias) each = each.least
least_of (one_row values) each = each.least

SingleBack : ℕ → Query → Type 0
SingleBack n q = ReadsBack (read_single n) single_stops (text_at false q) q

-- a member that is no compound
member_back : (q : Query) (each : EachMember q) → IsQueryAt false q → not (is_compound q) ≡ true → (n : ℕ) → least_of q each ≤ n
    → SingleBack n q
unfolding SingleBack
member_back (stored name) each is alone n fuel = absurd (true≢false (sym is.0))
member_back (select distinct items source alias clause) each is alone n fuel = each.back n fuel
member_back (union_all p q) each is alone n fuel = absurd (true≢false (sym alone))
member_back (except p q) each is alone n fuel = absurd (true≢false (sym alone))
member_back (joined names first links) each is alone n fuel = each.back n fuel
member_back (all_columns source alias) each is alone n fuel = each.back n fuel
member_back (one_row values) each is alone n fuel = each.back n fuel

-- the first of a compound is read, and then each further one
abbrev Begins : ℕ → Query → Type 0
Begins n q = (k m : ℕ) (rest : List ℕ) → k ≡ m + count_of q → stops single_stops rest ≡ true
    → read_query_by (read_single n) k (text_at false q ++ rest) ≡ more_queries (read_single n) m q rest

single_begins : (n : ℕ) (q : Query) → count_of q ≡ 0 → SingleBack n q → Begins n q
unfolding SingleBack
single_begins n q none back k m rest is ends =
    let same : k ≡ m = omega (arith, is, none) in
    ap (λ (t : Read Query). and_then t (more_queries (read_single n) k)) (back rest ends)
    ∙ ap (λ (j : ℕ). more_queries (read_single n) j q rest) same

union_begins : (n : ℕ) (p q : Query) → Begins n p → SingleBack n q → Begins n (union_all p q)
unfolding SingleBack
union_begins n p q first back k m rest is ends =
    let more : k ≡ suc m + count_of p = omega (arith, is) in
    ap (read_query_by (read_single n) k) (three_parts (text_at false p) (codes " UNION ALL ") (text_at false q) rest)
    ∙ first k (suc m) (codes " UNION ALL " ++ (text_at false q ++ rest)) more refl
    ∙ ap (λ (t : Read Query). and_then t (λ r after. more_queries (read_single n) m (union_all p r) after)) (back rest ends)

except_begins : (n : ℕ) (p q : Query) → Begins n p → SingleBack n q → Begins n (except p q)
unfolding SingleBack
except_begins n p q first back k m rest is ends =
    let more : k ≡ suc m + count_of p = omega (arith, is) in
    ap (read_query_by (read_single n) k) (three_parts (text_at false p) (codes " EXCEPT ") (text_at false q) rest)
    ∙ first k (suc m) (codes " EXCEPT " ++ (text_at false q ++ rest)) more refl
    ∙ ap (λ (t : Read Query). and_then t (λ r after. more_queries (read_single n) m (except p r) after)) (back rest ends)

begins : (q : Query) (each : EachMember q) → IsQueryAt false q → (n : ℕ) → least_of q each ≤ n → Begins n q
begins (stored name) each is n fuel = absurd (true≢false (sym is.0))
begins (select distinct items source alias clause) each is n fuel =
    let q = select distinct items source alias clause in single_begins n q refl (member_back q each is refl n fuel)
begins (union_all p q) each is n fuel =
    union_begins n p q (begins p each.0 is.0 n (omega (arith, fuel))) (member_back q each.1 is.1 is.2 n (omega (arith, fuel)))
begins (except p q) each is n fuel =
    except_begins n p q (begins p each.0 is.0 n (omega (arith, fuel))) (member_back q each.1 is.1 is.2 n (omega (arith, fuel)))
begins (joined names first links) each is n fuel =
    single_begins n (joined names first links) refl (member_back (joined names first links) each is refl n fuel)
begins (all_columns source alias) each is n fuel =
    single_begins n (all_columns source alias) refl (member_back (all_columns source alias) each is refl n fuel)
begins (one_row values) each is n fuel = single_begins n (one_row values) refl (member_back (one_row values) each is refl n fuel)

query_of : (q : Query) (each : EachMember q) → IsQueryAt false q → QueryReads q
query_of q each is = record { least = least_of q each + count_of q + 1; back = go }
  where
    ended : (m : ℕ) (rest : List ℕ) → 0 < m → stops query_stops rest ≡ true → more_queries (read_single (m + count_of q)) m q rest ≡ Some (q, rest)
    ended zero rest some ends = absurd (omega (arith, some))
    ended (suc m) rest some ends =
        let no_union : (next rest == after_blank 85) ≡ false = stops_first (after_blank 85) (after_blank 69 ∷ single_stops) rest ends in
        let no_except : (next rest == after_blank 69) ≡ false =
        stops_first (after_blank 69) [] rest (stops_some query_stops (after_blank 69 ∷ []) rest refl ends) in
        rw no_union (rw no_except refl)

    go : (n : ℕ) → least_of q each + count_of q + 1 ≤ n → ReadsBack (read_query n) query_stops (text_at false q) q
    go n fuel rest ends =
        let m = n - count_of q in
        let is_n : n ≡ m + count_of q = omega (arith, fuel) in
        begins q each is n (omega (arith, fuel)) n m rest is_n (stops_some query_stops single_stops rest refl ends)
        ∙ ap (λ (k : ℕ). more_queries (read_single k) m q rest) is_n
        ∙ ended m rest (omega (arith, fuel)) ends

-- ---- sources
in_brackets_reads : (q : Query) → QueryReads q → text_at true q ≡ codes "(" ++ (text_at false q ++ codes ")") → SourceReads q
in_brackets_reads q inner is = record {
  least = inner.least;
  back = λ n fuel rest ends.
      ap (λ (t : List ℕ). read_source n (t ++ rest)) is
      ∙ ap (λ (t : List ℕ). and_then (read_query n t) (λ r after. Some (r, drop 1 after))) (append_assoc (text_at false q) (codes ")") rest)
      ∙ ap (λ (t : Read Query). and_then t (λ r after. Some (r, drop 1 after))) (inner.back n fuel (codes ")" ++ rest) refl);
}

no_bracket : (rest : List ℕ) → (next rest == mark 40) ≡ false → (head rest == 40) ≡ false
no_bracket [] none = refl
no_bracket (b ∷ rest) none = elim (cases_Bool (b == 40)) [
  | inl is ↦
      absurd (true≢false (subst (λ (a : ℕ). (next (a ∷ rest) == mark 40) ≡ false) (eqb-true b 40 is) none))
  | inr other ↦ other
]

name_no_bracket : (name : List ℕ) (is : IsTableName name) (rest : List ℕ) → stops source_stops rest ≡ true → (head (name ++ rest) == 40) ≡ false
name_no_bracket name ([], is) rest ends =
    ap (λ (t : List ℕ). head (t ++ rest) == 40) is ∙ no_bracket rest (stops_first (mark 40) (dot ∷ []) rest ends)
name_no_bracket name (part ∷ parts, is) rest ends = ap (λ (t : List ℕ). head (t ++ rest) == 40) is

table_source : (name : List ℕ) → IsTableName name → SourceReads (stored name)
table_source name is = record {
  least = length is.0;
  back = λ n fuel rest ends.
      ap (λ (t : Bool). if t then and_then (read_query n (drop 1 (name ++ rest))) (λ q after. Some (q, drop 1 after))
      else and_then (read_table n (name ++ rest)) (λ found after. Some (stored found, after))) (name_no_bracket name is rest ends)
      ∙ ap (λ (t : Read (List ℕ)). and_then t (λ found after. Some (stored found, after)))
      (table_reads name is n rest fuel (stops_rest (mark 40) (dot ∷ []) rest ends));
}

source_of : (q : Query) → IsQueryAt true q → EachMember q → SourceReads q
source_of (stored name) is each = table_source name is.1
source_of (select distinct items source alias clause) is each =
    let q = select distinct items source alias clause in in_brackets_reads q (query_of q each is) refl
source_of (union_all p q) is each = in_brackets_reads (union_all p q) (query_of (union_all p q) each is) refl
source_of (except p q) is each = in_brackets_reads (except p q) (query_of (except p q) each is) refl
source_of (joined names first links) is each =
    in_brackets_reads (joined names first links) (query_of (joined names first links) each is) refl
source_of (all_columns source alias) is each =
    in_brackets_reads (all_columns source alias) (query_of (all_columns source alias) each is) refl
source_of (one_row values) is each = in_brackets_reads (one_row values) (query_of (one_row values) each is) refl

-- ---- all queries
members : (is_source : Bool) (q : Query) → IsQueryAt is_source q → EachMember q
members is_source (stored name) is = tt
members is_source (select distinct items source alias clause) is =
    select_reads distinct items source alias clause is.0 (source_of source is.1 (members true source is.1)) is.2 is.3
members is_source (union_all p q) is = (members false p is.0, members false q is.1)
members is_source (except p q) is = (members false p is.0, members false q is.1)
members is_source (joined names first links) is =
    joined_reads names first links is.0 is.1 (links_read links (each_of_all IsLink links is.2))
members is_source (all_columns source alias) is = all_reads source alias (source_of source is.0 (members true source is.0)) is.1
members is_source (one_row values) is = row_reads values is

pub query_reads : (q : Query) → IsQueryAt false q → QueryReads q
query_reads q is = query_of q (members false q is) is
