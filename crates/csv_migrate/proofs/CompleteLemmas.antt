-- The rows that are complete for a table, among the first rows of the groups of its scheme.
use Rattle.std.proofs.Common.{inl, inr, ◌≡◌, ◌⊎◌, ◌+◌, ◌<◌, ◌&&◌, ℕ, Bool, true, false, not, cond, List, [], ◌∷◌, length, get_or, filter, map, refl, sym, ap, subst, ◌∙◌, arith, add-one}
use Rattle.std.specs.Prelude.{All}
use Rattle.std.specs.List.{list_all}
use Rattle.std.proofs.lemmas.Bool.{cases_Bool, and_from}
use Rattle.std.proofs.lemmas.List.Elements.{All-head, All-tail, All-weaker, All-filter}
use Rattle.std.proofs.lemmas.List.Folds.{list_all-append, list_all_at}
use Rattle.attr_sets.specs.Attributes.{Attributes, IsSubset, count_below}
use Rattle.attr_sets.specs.Sets.{attributes}
use Rattle.attr_sets.proofs.AttributesLemmas.{count_below-before_member}
use Rattle.dep_model.specs.OnSchemes.{value_in}
use Rattle.dep_model.specs.Projections.{members_below, project_tuple, projection}
use Rattle.dep_model.specs.Tuples.{Tuple, Relation, IsOver, value_at, same_tuple, distinct_tuples}
use Rattle.dep_model.proofs.DistinctLemmas.{same_tuple-decides}
use Rattle.dep_model.proofs.ListLemmas.{same_default}
use Rattle.dep_model.proofs.SchemeLemmas.{members_below-member, members_below-outside, members_below-at, length-members_below, value_in-project_tuple}
use Rattle.lookup_laws.proofs.MissingLemmas.{all_members_same}
use Rattle.optional_tables.specs.declared.keyed.KeyedScheme.{KeyedScheme}
use Rattle.optional_tables.specs.LookUps.{Missing, empty_values, misses_none, rows_for}
use Rattle.row_groups.specs.Numberings.{AreGroups, AreFirsts}
use Rattle.row_store.specs.Rows.{row_at}
use Rattle.schema_printer.specs.Printing.{members_from}
use Rattle.csv_migrate.proofs.ProjectionLemmas.{projected_row, row_width, first_projections, firsts_even}

-- ---- filtered lists
filter_yes : {X : Type 0} (p : X → Bool) (x : X) (xs : List X) → p x ≡ true → filter p (x ∷ xs) ≡ x ∷ filter p xs
filter_yes {X} p x xs passes = ap (λ (b : Bool). cond b (x ∷ filter p xs) (filter p xs)) passes

filter_no : {X : Type 0} (p : X → Bool) (x : X) (xs : List X) → p x ≡ false → filter p (x ∷ xs) ≡ filter p xs
filter_no {X} p x xs fails = ap (λ (b : Bool). cond b (x ∷ filter p xs) (filter p xs)) fails

filters_swap : {X : Type 0} (p q : X → Bool) (xs : List X) → filter p (filter q xs) ≡ filter q (filter p xs)
filters_swap p q [] = refl
filters_swap {X} p q (x ∷ xs) = by (cases_Bool (p x)) (cases_Bool (q x)) (filters_swap p q xs)
  where
    by : (p x ≡ true) ⊎ (p x ≡ false) → (q x ≡ true) ⊎ (q x ≡ false) → filter p (filter q xs) ≡ filter q (filter p xs)
        → filter p (filter q (x ∷ xs)) ≡ filter q (filter p (x ∷ xs))
    by (inl pt) (inl qt) rest =
        ap (filter p) (filter_yes q x xs qt) ∙ filter_yes p x (filter q xs) pt ∙ ap (λ (l : List X). x ∷ l) rest
        ∙ sym (ap (filter q) (filter_yes p x xs pt) ∙ filter_yes q x (filter p xs) qt)
    by (inl pt) (inr qf) rest =
        ap (filter p) (filter_no q x xs qf) ∙ rest ∙ sym (ap (filter q) (filter_yes p x xs pt) ∙ filter_no q x (filter p xs) qf)
    by (inr pf) (inl qt) rest =
        ap (filter p) (filter_yes q x xs qt) ∙ filter_no p x (filter q xs) pf ∙ rest ∙ sym (ap (filter q) (filter_no p x xs pf))
    by (inr pf) (inr qf) rest =
        ap (filter p) (filter_no q x xs qf) ∙ rest ∙ sym (ap (filter q) (filter_no p x xs pf))

-- the values that pass are those of what passes
filter_of_values : {X Y : Type 0} (f : X → Y) (p : X → Bool) (q : Y → Bool) (xs : List X) → All (λ x. q (f x) ≡ p x) xs
    → filter q (map f xs) ≡ map f (filter p xs)
filter_of_values f p q [] same = refl
filter_of_values {X} {Y} f p q (x ∷ xs) same = elim (cases_Bool (p x)) [
  | inl passes ↦
      filter_yes q (f x) (map f xs) (All-head (λ z. q (f z) ≡ p z) x xs same ∙ passes)
      ∙ ap (λ (l : List Y). f x ∷ l) (filter_of_values f p q xs (All-tail (λ z. q (f z) ≡ p z) x xs same))
      ∙ sym (ap (map f) (filter_yes p x xs passes))
  | inr fails ↦
      filter_no q (f x) (map f xs) (All-head (λ z. q (f z) ≡ p z) x xs same ∙ fails)
      ∙ filter_of_values f p q xs (All-tail (λ z. q (f z) ≡ p z) x xs same)
      ∙ sym (ap (map f) (filter_no p x xs fails))
]

-- ---- distinct tuples that pass a test
abbrev differs_from : Tuple → Tuple → Bool
differs_from t u = not (same_tuple t u)

-- a tuple that fails is missed by no filter
failing_left_out : (q : Tuple → Bool) (t : Tuple) (r : Relation) → q t ≡ false → filter q (filter (differs_from t) r) ≡ filter q r
failing_left_out q t [] fails = refl
failing_left_out q t (u ∷ r) fails = elim (cases_Bool (same_tuple t u)) [
  | inl same ↦
      ap (filter q) (filter_no (differs_from t) u r (ap not same)) ∙ failing_left_out q t r fails
      ∙ sym (filter_no q u r (ap q (sym ((same_tuple-decides t u).0 same)) ∙ fails))
  | inr differ ↦
      ap (filter q) (filter_yes (differs_from t) u r (ap not differ))
      ∙ ap (λ (l : Relation). cond (q u) (u ∷ l) l) (failing_left_out q t r fails)
]

distinct_of_filter : (q : Tuple → Bool) (r : Relation) → distinct_tuples (filter q r) ≡ filter q (distinct_tuples r)
distinct_of_filter q [] = refl
distinct_of_filter q (t ∷ r) = elim (cases_Bool (q t)) [
  | inl passes ↦
      ap distinct_tuples (filter_yes q t r passes)
      ∙ ap (λ (l : Relation). t ∷ filter (differs_from t) l) (distinct_of_filter q r)
      ∙ ap (λ (l : Relation). t ∷ l) (filters_swap (differs_from t) q (distinct_tuples r))
      ∙ sym (filter_yes q t (filter (differs_from t) (distinct_tuples r)) passes)
  | inr fails ↦
      ap distinct_tuples (filter_no q t r fails) ∙ distinct_of_filter q r
      ∙ sym (filter_no q t (filter (differs_from t) (distinct_tuples r)) fails ∙ failing_left_out q t (distinct_tuples r) fails)
]

-- ---- the rows of a table
-- a row of a table misses no value of its key
abbrev part_misses_none : Missing → Attributes → Attributes → ℕ → Tuple → Bool
part_misses_none missing scheme key n row = list_all (λ k. not (missing k (value_in scheme row k))) (members_below n key)

part_is_complete : (n : ℕ) (missing : Missing) (scheme key : Attributes) (t : Tuple) → IsSubset key scheme → length t ≡ n
    → part_misses_none missing scheme key n (project_tuple scheme t) ≡ misses_none missing key t
part_is_complete n missing scheme key t inside long =
    all_members_same (λ k. not (missing k (value_in scheme (project_tuple scheme t) k))) (λ k. not (missing k (value_at t k))) n key
    (λ k m. ap (λ (v : List ℕ). not (missing k v)) (value_in-project_tuple scheme t k (inside k m)))
    ∙ ap (λ (m : ℕ). list_all (λ k. not (missing k (value_at t k))) (members_below m key)) (sym long)

abbrev pub is_complete_at : Missing → Attributes → Relation → ℕ → Bool
is_complete_at missing key rows i = misses_none missing key (row_at rows i)

-- the projections at those first rows of the groups that are complete
pub complete_firsts : (n : ℕ) (missing : Missing) (rows : Relation) (table : KeyedScheme) (numbers firsts chosen : List ℕ)
    → IsOver n rows → IsSubset (attributes table.key) (attributes table.scheme)
    → AreGroups rows (attributes table.scheme) numbers → AreFirsts numbers firsts
    → chosen ≡ filter (is_complete_at missing (attributes table.key) rows) firsts
    → map (projected_row (attributes table.scheme) rows) chosen ≡ rows_for missing rows table
complete_firsts n missing rows table numbers firsts chosen over inside groups are is_chosen =
    ap (map (projected_row scheme rows)) is_chosen
    ∙ sym (filter_of_values (projected_row scheme rows) (is_complete_at missing key rows) passes firsts at_firsts)
    ∙ ap (filter passes) (first_projections n rows scheme numbers firsts over groups are)
    ∙ sym (distinct_of_filter passes (projection scheme rows))
    ∙ ap distinct_tuples (filter_of_values (project_tuple scheme) (misses_none missing key) passes rows at_rows)
  where
    scheme : Attributes
    scheme = attributes table.scheme

    key : Attributes
    key = attributes table.key

    passes : Tuple → Bool
    passes = part_misses_none missing scheme key n

    at_rows : All (λ t. passes (project_tuple scheme t) ≡ misses_none missing key t) rows
    at_rows =
        All-weaker (λ (t : Tuple). length t ≡ n) (λ t. passes (project_tuple scheme t) ≡ misses_none missing key t)
        (λ t long. part_is_complete n missing scheme key t inside long) rows over

    at_firsts : All (λ i. passes (projected_row scheme rows i) ≡ is_complete_at missing key rows i) firsts
    at_firsts g d l =
        let low : get_or firsts g d < length rows = omega (arith, same_default firsts g d 0 l, are.within g l, groups.one_each) in
        part_is_complete n missing scheme key (row_at rows (get_or firsts g d)) inside (row_width n rows (get_or firsts g d) over low)

-- they are there, and have a value for each column
pub complete_even : (names : List (List ℕ)) (missing : Missing) (rows : Relation) (x key : Attributes)
    (numbers firsts chosen : List ℕ) (columns : List (List ℕ)) → IsOver (length names) rows → AreGroups rows x numbers
    → AreFirsts numbers firsts → chosen ≡ filter (is_complete_at missing key rows) firsts → columns ≡ members_from x 0 names
    → All (λ i. (i < length rows) × (length (projected_row x rows i) ≡ length columns)) chosen
complete_even names missing rows x key numbers firsts chosen columns over groups are is_chosen is_columns =
    subst (All (λ i. (i < length rows) × (length (projected_row x rows i) ≡ length columns))) (sym is_chosen)
    (All-filter (is_complete_at missing key rows) (λ i. (i < length rows) × (length (projected_row x rows i) ≡ length columns)) firsts
    (firsts_even names rows x numbers firsts columns over groups are is_columns))

-- ---- a test of the members of a set, one after the other
pub member_tested : (p : ℕ → Bool) (n : ℕ) (x : Attributes) → x n ≡ true → p n ≡ true
    → list_all p (members_below n x) ≡ true → list_all p (members_below (n + 1) x) ≡ true
member_tested p n x member passes so_far =
    rw add-one (rw (members_below-member n x member)
    (list_all-append p (members_below n x) (n ∷ [])
    ∙ and_from (list_all p (members_below n x)) (p n && true) so_far (and_from (p n) true passes refl)))

pub outsider_passed : (p : ℕ → Bool) (n : ℕ) (x : Attributes) → x n ≡ false
    → list_all p (members_below n x) ≡ true → list_all p (members_below (n + 1) x) ≡ true
outsider_passed p n x outside so_far = rw add-one (rw (members_below-outside n x outside) so_far)

pub member_fails : (p : ℕ → Bool) (n : ℕ) (x : Attributes) (k : ℕ) → k < n → x k ≡ true → p k ≡ false
    → list_all p (members_below n x) ≡ false
member_fails p n x k low member fails =
    list_all_at p (members_below n x) (count_below x k) k
    (omega (arith, length-members_below n x, count_below-before_member n k x low member))
    (ap p (members_below-at n x k k low member) ∙ fails)

-- whether the value of a row at an attribute is there
abbrev pub is_there : Attributes → Relation → ℕ → ℕ → Bool
is_there nullable rows row k = not (empty_values nullable k (value_at (row_at rows row) k))

-- what is chosen, where its parts are known by other names
pub chosen_is : (key : Attributes) (rows : Relation) (nullable nullable' : Attributes) (firsts firsts' : List ℕ)
    {chosen : List ℕ} → nullable' ≡ nullable → firsts' ≡ firsts
    → chosen ≡ filter (is_complete_at (empty_values nullable') key rows) firsts'
    → chosen ≡ filter (is_complete_at (empty_values nullable) key rows) firsts
chosen_is key rows nullable nullable' firsts firsts' same same_firsts is =
    is ∙ ap (λ (may : Attributes). filter (is_complete_at (empty_values may) key rows) firsts') same
    ∙ ap (filter (is_complete_at (empty_values nullable) key rows)) same_firsts
