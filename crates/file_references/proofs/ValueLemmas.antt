-- Rows at lists of columns: where their values stand, which are there, and rows by their positions.
use Rattle.std.proofs.Common.{◌≡◌, ◌+◌, ◌<◌, ◌==◌, nat_lt, ℕ, Bool, true, false, true≢false, List, [], length, take, get_or, Bor, sym, ap, ◌∙◌, arith}
use Rattle.std.specs.List.{list_all}
use Rattle.std.specs.Prelude.{All, Contains}
use Rattle.std.proofs.lemmas.List.Elements.{All-get_or, Contains-get_or}
use Rattle.std.proofs.lemmas.List.Folds.{list_all-map, list_all_at, list_all_more}
use Rattle.std.proofs.lemmas.Bool.Decides.{nat_tests}
use Rattle.dep_model.specs.Tuples.{Tuple, Relation, IsOver}
use Rattle.dep_model.proofs.ListLemmas.{same_default}
use Rattle.row_store.specs.Rows.{row_at}
use Rattle.table_join.specs.Lent.{lent_values}
use Rattle.file_references.specs.Columns.{is_there, misses_none, values_on}

-- ---- rows by their positions
pub row_in : (r : Relation) (i : ℕ) → i < length r → Contains r (row_at r i)
row_in r i low = Contains-get_or r i [] low

pub row_of : (r : Relation) (t : Tuple) → Contains r t → (i : ℕ) × (i < length r) × (row_at r i ≡ t)
row_of r t has = (has.0, has.1, same_default r has.0 [] t has.1 ∙ has.2)

-- what holds of each row holds of the one at a position
pub at_row : (P : Tuple → Type 0) (r : Relation) (i : ℕ) → All P r → i < length r → P (row_at r i)
at_row P r i all low = All-get_or P r i [] low all

-- columns within a width are columns of each row of this width
pub within_rows : (n : ℕ) (r : Relation) (columns : List ℕ) → IsOver n r → All (λ (k : ℕ). k < n) columns
    → All (λ (t : Tuple). All (λ (k : ℕ). k < length t) columns) r
within_rows n r columns over low = λ i d l j e m.
    let long : length (get_or r i d) ≡ n = over i d l in omega (arith, low j e m, long)

-- ---- values that are there
pub there_more : (values : List (Bor (List ℕ))) (i : ℕ) (b : Bor (List ℕ)) → i < length values
    → list_all is_there (lent_values (take i values)) ≡ true → is_there (get_or values i b).now ≡ true
    → list_all is_there (lent_values (take (i + 1) values)) ≡ true
there_more values i b low before here =
    list_all-map is_there (λ (v : Bor (List ℕ)). v.now) (take (i + 1) values)
    ∙ list_all_more (λ (v : Bor (List ℕ)). is_there v.now) values i b low
    ∙ rw (sym (list_all-map is_there (λ (v : Bor (List ℕ)). v.now) (take i values)) ∙ before) here

pub one_missing : (values : List (Bor (List ℕ))) (i : ℕ) (b : Bor (List ℕ)) → i < length values
    → is_there (get_or values i b).now ≡ false → list_all is_there (lent_values values) ≡ false
one_missing values i b low here =
    list_all-map is_there (λ (v : Bor (List ℕ)). v.now) values
    ∙ list_all_at (λ (v : Bor (List ℕ)). is_there v.now) values i b low here

-- whether values that were read are there is whether the row misses none
pub whole_as_read : (columns : List ℕ) (t : Tuple) (read : Tuple) (b : Bool) → read ≡ values_on columns t
    → b ≡ list_all is_there read → misses_none columns t ≡ b
whole_as_read columns t read b is test = ap (list_all is_there) (sym is) ∙ sym test

-- what is true of a test, by what it decides
pub decided : (b : Bool) (P : Type 0) → (b ≡ true → P) → (P → b ≡ true) → b ≡ false → P → ⊥
decided b P to from is holds = true≢false (sym (from holds) ∙ is)

-- a value that is empty is missing
pub missing_here : (values : List (Bor (List ℕ))) (i : ℕ) (b : Bor (List ℕ)) (r : Bool) → i < length values
    → r ≡ (length (get_or values i b).now == 0) → r ≡ true → false ≡ list_all is_there (lent_values values)
missing_here values i b r low is empty =
    sym (one_missing values i b low (not_there (length (get_or values i b).now) (sym is ∙ empty)))
  where
    not_there : (n : ℕ) → (n == 0) ≡ true → nat_lt 0 n ≡ false
    not_there n h = grind (arith, nat_tests)
