-- Lists of items, as values and as texts.
use Rattle.std.proofs.Common.{◌≡◌, ◌<◌, ℕ, zero, suc, Bool, true, false, not, List, [], ◌∷◌, ◌++◌, length, get_or, map, refl, sym, ap, ◌∙◌, inl, inr, append_assoc, append-nil, arith}
use Rattle.std.proofs.lemmas.Bool.{cases_Bool, true≢false}
use Rattle.std.proofs.lemmas.Bool.Decides.{nat_tests}
use Rattle.std.specs.Fmt.{decimal}
use Rattle.std.specs.Prelude.{◌↔◌, if◌then◌else◌, codes, nat_lt, IsTrue}
use Rattle.std.specs.List.{flat_map}
use Rattle.attr_sets.specs.Attributes.{Attributes, below, intersection, count_below, IsEmpty}
use Rattle.attr_sets.proofs.AttributesLemmas.{count_below-le}
use Rattle.dep_model.specs.Projections.{members_below}
use Rattle.dep_model.proofs.SchemeLemmas.{members_below-none, members_below-outside, members_below-at, length-members_below}
use Rattle.sql_syntax.specs.Names.{separator, comma_list, is_not_empty}
use Rattle.sql_syntax.proofs.ListLemmas.{comma_list-map}
use Rattle.sql_syntax.specs.Syntax.{Column, column, Item, own, named}
use Rattle.sql_syntax.specs.Printing.{column_text, item_text, group_text, query_text, selected_text}
use Rattle.schema_model.specs.declared.naming.Naming.{Naming}
use Rattle.schema_model.specs.Schemas.{Schema}
use Rattle.schema_model.specs.Schemas.{width_of, universe_of}
use Rattle.schema_printer.specs.Spelling.{spelling}
use Rattle.sql_check_laws.proofs.LawLemmas.{nil_not_empty}
use Rattle.sql_check.specs.Columns.{named_column, column_at, group_name, items_on, groups_made}
use Rattle.sql_check.specs.Checks.{has_members, line_item, count_column, integer_query, missing_query}
use Rattle.sql_scripts.specs.declared.unpaired.Counted.{Counted}
use Rattle.sql_scripts.specs.declared.unpaired.Counted.TheVariants.{First, Second, Both}
use Rattle.sql_scripts.specs.declared.missing.Asked.TheVariants.{Missing}
use Rattle.sql_scripts.specs.Listing.{counts_of, tests_at}
use Rattle.sql_scripts.specs.Checking.{integer_check_text, missing_text, check_line}
use Rattle.sql_scripts.proofs.ItemLemmas.{tests_are}

-- ---- lists of a function's values
pub not_empty-map : {X Y : Type 0} (g : X → Y) (xs : List X) → is_not_empty (map g xs) ≡ is_not_empty xs
not_empty-map g [] = refl
not_empty-map g (x ∷ xs) = refl

not_empty-length : {X : Type 0} (xs : List X) → nat_lt 0 (length xs) ≡ is_not_empty xs
not_empty-length [] = refl
not_empty-length (x ∷ xs) = grind (arith, nat_tests)

-- a set has members below n where some are counted
pub not_empty-counted : (n : ℕ) (x : Attributes) → nat_lt 0 (count_below x n) ≡ is_not_empty (members_below n x)
not_empty-counted n x = ap (nat_lt 0) (sym (length-members_below n x)) ∙ not_empty-length (members_below n x)

pub none_counted : (x : Attributes) → count_below x 0 ≡ 0
none_counted x = let low = count_below-le 0 x in omega (arith, low)

-- ---- two lists, one after the other
flat_map-append : {X : Type 0} (f : X → List ℕ) (xs ys : List X) → flat_map f (xs ++ ys) ≡ flat_map f xs ++ flat_map f ys
flat_map-append f [] ys = refl
flat_map-append f (x ∷ xs) ys =
    ap (λ (t : List ℕ). f x ++ t) (flat_map-append f xs ys) ∙ sym (append_assoc (f x) (flat_map f xs) (flat_map f ys))

pub comma_list-append : {X : Type 0} (f : X → List ℕ) (xs : List X) (y : X) (ys : List X)
    → comma_list f (xs ++ y ∷ ys) ≡ comma_list f xs ++ (if is_not_empty xs then separator ++ comma_list f (y ∷ ys) else comma_list f (y ∷ ys))
comma_list-append f [] y ys = refl
comma_list-append f (x ∷ xs) y ys =
    ap (λ (t : List ℕ). f x ++ t) (flat_map-append (λ z. separator ++ f z) xs (y ∷ ys))
    ∙ sym (append_assoc (f x) (flat_map (λ z. separator ++ f z) xs) (separator ++ comma_list f (y ∷ ys)))

-- ---- groups
pub group_not_empty : {X : Type 0} (f : X → Column) (xs : List X) → is_not_empty xs ≡ true
    → codes " GROUP BY " ++ comma_list item_text (map (λ x. own (f x)) xs) ≡ group_text (map f xs)
group_not_empty f [] not_empty = absurd (true≢false (sym not_empty))
group_not_empty f (x ∷ xs) not_empty =
    ap (λ (t : List ℕ). codes " GROUP BY " ++ t) (comma_list-map item_text (λ z. own (f z)) (x ∷ xs) ∙ sym (comma_list-map column_text f (x ∷ xs)))

pub group_empty : {X : Type 0} (f : X → Column) (xs : List X) → is_not_empty xs ≡ false → [] ≡ group_text (map f xs)
group_empty f [] empty = refl
group_empty f (x ∷ xs) empty = absurd (true≢false empty)

-- ---- whether a set has members
members_empty : (n : ℕ) (x : Attributes) → ((k : ℕ) → k < n → x k ≡ false) → members_below n x ≡ []
members_empty zero x none = members_below-none x
members_empty (suc n) x none =
    members_below-outside n x (none n (omega arith)) ∙ members_empty n x (λ k low. none k (omega (arith, low)))

empty_members : (n : ℕ) (x : Attributes) → members_below n x ≡ [] → (k : ℕ) → k < n → x k ≡ false
empty_members n x empty k low = elim (cases_Bool (x k)) [
  | inl inside ↦
      let at : get_or (members_below n x) (count_below x k) (suc k) ≡ k = members_below-at n x k (suc k) low inside in
      let past : suc k ≡ k = ap (λ (ms : List ℕ). get_or ms (count_below x k) (suc k)) (sym empty) ∙ at in
      absurd (omega (arith, past))
  | inr outside ↦ outside
]

pub members_answered : (n : ℕ) (x : Attributes) (b : Bool) → (IsTrue b ↔ IsEmpty (intersection x (below n))) → not b ≡ is_not_empty (members_below n x)
members_answered n x true answered =
    let empty = answered.0 refl in
    sym (ap is_not_empty (members_empty n x (λ k low. let none = empty k in grind (arith, nat_tests, none, low))))
members_answered n x false answered = elim (cases_Bool (is_not_empty (members_below n x))) [
  | inl some ↦ sym some
  | inr none ↦
      let each = empty_members n x (nil_not_empty (members_below n x) none) in
      absurd (true≢false (sym (answered.1 (λ (k : ℕ). elim (cases_Bool (nat_lt k n)) [
        | inl low ↦ let out = each k (grind (arith, nat_tests, low)) in grind (arith, out)
        | inr past ↦ grind (arith, nat_tests, past)
      ]))))
]

-- ---- counts
from_append : (s : Schema) (x : Attributes) (i : Item) (is : List Item)
    → comma_list item_text (groups_made s x ++ i ∷ is)
    ≡ comma_list item_text (groups_made s x) ++ (if has_members s x then separator ++ comma_list item_text (i ∷ is) else comma_list item_text (i ∷ is))
from_append s x i is =
    comma_list-append item_text (groups_made s x) i is
    ∙ ap (λ (b : Bool). comma_list item_text (groups_made s x) ++ (if b then separator ++ comma_list item_text (i ∷ is) else comma_list item_text (i ∷ is)))
    (not_empty-map (λ (k : ℕ). named (column (column_at s (codes "d") k)) (group_name x k)) (members_below (width_of s) x))

pub counts_listed : (s : Schema) (x : Attributes) (counted : Counted)
    → comma_list item_text (groups_made s x ++ counts_of counted)
    ≡ comma_list item_text (groups_made s x) ++ (if has_members s x then separator ++ comma_list item_text (counts_of counted) else comma_list item_text (counts_of counted))
counts_listed s x First = from_append s x _ _
counts_listed s x Second = from_append s x _ _
counts_listed s x Both = from_append s x _ _

-- ---- the line of a dependency
pub after_line_printed : (line : ℕ) (items : List Item) → is_not_empty items ≡ true
    → decimal line ++ codes " AS line, " ++ comma_list item_text items ≡ comma_list item_text (line_item line ∷ items)
after_line_printed line [] not_empty = absurd (true≢false (sym not_empty))
after_line_printed line (i ∷ is) not_empty = parts (decimal line) (item_text i) (flat_map (λ (j : Item). separator ++ item_text j) is)
  where
    parts : (number first rest : List ℕ) → number ++ codes " AS line, " ++ (first ++ rest) ≡ (number ++ codes " AS " ++ codes "line") ++ ((codes ", " ++ first) ++ rest)
    parts number first rest = simp (append_assoc)

pub count_printed : (line : ℕ) → decimal line ++ codes " AS line, " ++ codes "c.n" ≡ comma_list item_text (line_item line ∷ own count_column ∷ [])
count_printed line = after_line_printed line (own count_column ∷ []) refl

-- ---- values
pub integer_line : (naming : Naming) (table name comment query : List ℕ)
    → comment ≡ codes "-- " ++ spelling naming name ++ codes " is an integer\n"
    → query ≡ query_text (integer_query table (named_column (codes "r") name))
    → comment ++ (query ++ codes ";\n") ≡ integer_check_text naming table name
unfolding integer_check_text check_line
integer_line naming table name comment query is_comment is_query =
    ap (λ (t : List ℕ). t ++ (query ++ codes ";\n")) is_comment
    ∙ ap (λ (q : List ℕ). codes "-- " ++ spelling naming name ++ codes " is an integer\n" ++ (q ++ codes ";\n")) is_query

-- a query with one column
pub one_item : (table item clause : List ℕ) → selected_text false item table (codes "r") clause ≡ selected_text false (item ++ []) table (codes "r") clause
one_item table item clause = ap (λ (t : List ℕ). selected_text false t table (codes "r") clause) (sym (append-nil item))

abbrev pub missing_selected : Schema → List ℕ → List ℕ → List ℕ
missing_selected s table ks =
    selected_text false (comma_list item_text (items_on s (codes "r") (universe_of s))) table (codes "r") (codes " WHERE " ++ tests_at s Missing ks)

pub missing_line : (s : Schema) (table : List ℕ) (ks : List ℕ) → is_not_empty ks ≡ true
    → codes "-- no value is missing\n" ++ (missing_selected s table ks ++ codes ";\n") ≡ missing_text s table ks
unfolding check_line missing_query
missing_line s table [] not_empty = absurd (true≢false (sym not_empty))
missing_line s table (k ∷ ms) not_empty =
    ap (λ (tests : List ℕ). codes "-- no value is missing\n" ++ (selected_text false (comma_list item_text (items_on s (codes "r") (universe_of s))) table (codes "r") (codes " WHERE " ++ tests) ++ codes ";\n"))
    (sym (tests_are s k ms))

pub none_missing : (s : Schema) (table : List ℕ) (ks : List ℕ) → is_not_empty ks ≡ false → [] ≡ missing_text s table ks
none_missing s table [] empty = refl
none_missing s table (k ∷ ms) empty = absurd (true≢false empty)
