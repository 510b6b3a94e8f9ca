-- Lists of items: one more at the end.
use Rattle.std.proofs.Common.{◌≡◌, ◌<◌, ◌≤◌, ◌+◌, ℕ, zero, suc, Bool, true, false, List, [], ◌∷◌, ◌++◌, length, get_or, take, drop, take_all, refl, sym, ap, ◌∙◌, append-nil, append_assoc, add-one, arith}
use Rattle.std.specs.Prelude.{◌-◌, if◌then◌else◌, codes}
use Rattle.std.specs.List.{zip}
use Rattle.std.proofs.lemmas.List.{flat_map_more, length-drop}
use Rattle.attr_sets.specs.Attributes.{Attributes}
use Rattle.dep_model.specs.Projections.{members_below}
use Rattle.dep_model.proofs.SchemeLemmas.{members_below-member, members_below-outside}
use Rattle.sql_syntax.specs.Names.{separator, comma_list, is_not_empty}
use Rattle.sql_syntax.proofs.ListLemmas.{comma_list-push, not_empty_pushed}
use Rattle.schema_model.specs.Schemas.{Schema}
use Rattle.std.proofs.lemmas.Bool.{true≢false}
use Rattle.sql_syntax.specs.Printing.{clause_text, condition_text}
use Rattle.sql_check.specs.Checks.{some_missing}
use Rattle.sql_migrate.specs.Script.{have_values, rows_with}
use Rattle.sql_scripts.specs.declared.missing.Asked.{Asked}
use Rattle.sql_scripts.specs.declared.missing.Asked.TheVariants.{Missing, Present}
use Rattle.sql_scripts.specs.Listing.{between, test_at, tests_at}

-- ---- columns
pub listed_more : (f : ℕ → List ℕ) (x : Attributes) (n : ℕ) (any_written : Bool) (text next piece : List ℕ) → x n ≡ true
    → text ≡ comma_list f (members_below n x) → any_written ≡ is_not_empty (members_below n x) → piece ≡ f n
    → next ≡ text ++ (if any_written then separator ++ piece else piece)
    → next ≡ comma_list f (members_below (n + 1) x)
listed_more f x n any_written text next piece inside so_far is_some is added =
    added ∙ ap (λ (t : List ℕ). t ++ (if any_written then separator ++ piece else piece)) so_far
    ∙ ap (λ (p : List ℕ). comma_list f (members_below n x) ++ (if any_written then separator ++ p else p)) is
    ∙ ap (λ (b : Bool). comma_list f (members_below n x) ++ (if b then separator ++ f n else f n)) is_some
    ∙ sym (comma_list-push f (members_below n x) n)
    ∙ ap (comma_list f) (sym (rw add-one (members_below-member n x inside)))

pub not_empty_more : (x : Attributes) (n : ℕ) → x n ≡ true → true ≡ is_not_empty (members_below (n + 1) x)
not_empty_more x n inside =
    sym (ap (λ (ks : List ℕ). is_not_empty ks) (rw add-one (members_below-member n x inside)) ∙ not_empty_pushed (members_below n x) n)

pub members_passed : (x : Attributes) (n : ℕ) → x n ≡ false → members_below (n + 1) x ≡ members_below n x
members_passed x n outside = rw add-one (members_below-outside n x outside)

-- ---- missing values
tests_push : (s : Schema) (asked : Asked) (ks : List ℕ) (k : ℕ)
    → tests_at s asked (ks ++ k ∷ [])
    ≡ tests_at s asked ks ++ (if is_not_empty ks then between asked ++ test_at s asked k else test_at s asked k)
tests_push s asked [] k = append-nil (test_at s asked k)
tests_push s asked (m ∷ ks) k = sym (flat_map_more (λ z. between asked ++ test_at s asked z) (test_at s asked m) ks k)

pub tests_more : (s : Schema) (asked : Asked) (x : Attributes) (n : ℕ) (any_written : Bool) (text next piece : List ℕ) → x n ≡ true
    → text ≡ tests_at s asked (members_below n x) → any_written ≡ is_not_empty (members_below n x) → piece ≡ test_at s asked n
    → next ≡ text ++ (if any_written then between asked ++ piece else piece)
    → next ≡ tests_at s asked (members_below (n + 1) x)
tests_more s asked x n any_written text next piece inside so_far is_some is added =
    added ∙ ap (λ (t : List ℕ). t ++ (if any_written then between asked ++ piece else piece)) so_far
    ∙ ap (λ (p : List ℕ). tests_at s asked (members_below n x) ++ (if any_written then between asked ++ p else p)) is
    ∙ ap (λ (b : Bool). tests_at s asked (members_below n x) ++ (if b then between asked ++ test_at s asked n else test_at s asked n)) is_some
    ∙ sym (tests_push s asked (members_below n x) n)
    ∙ ap (tests_at s asked) (sym (rw add-one (members_below-member n x inside)))

-- the tests are those of the query
pub tests_are : (s : Schema) (k : ℕ) (ms : List ℕ) → condition_text (some_missing s k ms) ≡ tests_at s Missing (k ∷ ms)
unfolding test_at
tests_are s k [] = sym (append-nil (test_at s Missing k))
tests_are s k (m ∷ ms) =
    ap (λ (t : List ℕ). test_at s Missing k ++ codes " OR " ++ t) (tests_are s m ms)
    ∙ append_assoc (test_at s Missing k) (codes " OR ") (tests_at s Missing (m ∷ ms))

-- and those of the rows that fill a table
values_are : (s : Schema) (k : ℕ) (ms : List ℕ) → condition_text (have_values s k ms) ≡ tests_at s Present (k ∷ ms)
unfolding test_at
values_are s k [] = sym (append-nil (test_at s Present k))
values_are s k (m ∷ ms) =
    ap (λ (t : List ℕ). test_at s Present k ++ codes " AND " ++ t) (values_are s m ms)
    ∙ append_assoc (test_at s Present k) (codes " AND ") (tests_at s Present (m ∷ ms))

pub rows_printed : (s : Schema) (ks : List ℕ) → is_not_empty ks ≡ true
    → codes " WHERE " ++ tests_at s Present ks ≡ clause_text (rows_with s ks)
rows_printed s [] not_empty = absurd (true≢false (sym not_empty))
rows_printed s (k ∷ ks) not_empty = ap (λ (t : List ℕ). codes " WHERE " ++ t) (sym (values_are s k ks))

pub all_printed : (s : Schema) (ks : List ℕ) → is_not_empty ks ≡ false → [] ≡ clause_text (rows_with s ks)
all_printed s [] empty = refl
all_printed s (k ∷ ks) empty = absurd (true≢false empty)

-- ---- pairs
abbrev one_pair : {K X : Type 0} → K → X → List (K × X)
one_pair k x = (k, x) ∷ []

pub zip_more : {K X : Type 0} (ks : List K) (xs : List X) (i : ℕ) (k : K) (x : X) → i < length ks → i < length xs
    → k ≡ get_or ks i k → x ≡ get_or xs i x → take (i + 1) (zip ks xs) ≡ take i (zip ks xs) ++ (k, x) ∷ []
zip_more [] xs i k x a b is_k is_x = absurd (omega (arith, a))
zip_more (k' ∷ ks) [] i k x a b is_k is_x = absurd (omega (arith, b))
zip_more (k' ∷ ks) (x' ∷ xs) zero k x a b is_k is_x =
    ap (λ (p : _). one_pair p x') (sym is_k) ∙ ap (λ (y : _). one_pair k y) (sym is_x)
zip_more (k' ∷ ks) (x' ∷ xs) (suc i) k x a b is_k is_x =
    let next : suc i + 1 ≡ suc (i + 1) = omega arith in
    rw next (ap (λ (pairs : List _). (k', x') ∷ pairs) (zip_more ks xs i k x (omega (arith, a)) (omega (arith, b)) is_k is_x))

pub zip_all : {K X : Type 0} (ks : List K) (xs : List X) (i : ℕ) → length xs ≤ i → take i (zip ks xs) ≡ zip ks xs
zip_all [] xs i long = take_all i [] (omega arith)
zip_all (k ∷ ks) [] i long = take_all i [] (omega arith)
zip_all (k ∷ ks) (x ∷ xs) zero long = absurd (omega (arith, long))
zip_all (k ∷ ks) (x ∷ xs) (suc i) long = ap (λ (pairs : List _). (k, x) ∷ pairs) (zip_all ks xs i (omega (arith, long)))

-- ---- the rest of a list
pub rest_slice : {X : Type 0} (xs : List X) (k : ℕ) → take (length xs - k) (drop k xs) ≡ drop k xs
rest_slice xs k = take_all (length xs - k) (drop k xs) (omega (arith, length-drop k xs))
