-- The order of look-ups: it has each optional table once, and a round of it takes one table of those that are left.
use Rattle.std.proofs.Common.{◌≡◌, ◌<◌, ◌≤◌, ◌+◌, ◌||◌, ℕ, zero, suc, Bool, true, false, if◌then◌else◌, List, [], ◌∷◌, ◌++◌, Option, Some, None, length, get_or, take, drop, drop-cons, take_all, refl, sym, subst, ap, ◌∙◌, inl, inr, arith, add-one, append-nil, append_assoc}
use Rattle.std.specs.Prelude.{All, Any, Contains, reverse, slice_get}
use Rattle.std.specs.List.{list_any, remove}
use Rattle.std.specs.List.Sorted.{IsPermutation}
use Rattle.std.proofs.lemmas.Bool.{cases_Bool, true≢false}
use Rattle.std.proofs.lemmas.List.{drop_all, length-reverse, reverse-append, take_more}
use Rattle.std.proofs.lemmas.List.Edits.{length-remove}
use Rattle.std.proofs.lemmas.List.Elements.{All-append, All-drop, All-take}
use Rattle.std.proofs.lemmas.List.Folds.{Any-from_list_any}
use Rattle.std.proofs.lemmas.List.Sorted.{All-permutation, IsPermutation-cons, IsPermutation-middle, IsPermutation-refl, IsPermutation-reverse, IsPermutation-trans, length_permutation}
use Rattle.attr_sets.specs.Attributes.{Attributes}
use Rattle.dep_model.specs.JoinOrders.{put_first, of_first}
use Rattle.dep_model.proofs.ListLemmas.{Contains-cases, Contains-head, Contains-later, Contains-nil}
use Rattle.optional_tables.specs.declared.keyed.KeyedScheme.{KeyedScheme}
use Rattle.optional_tables.specs.Homes.{has_home, is_optional}
use Rattle.optional_tables.specs.Order.{always_filled, if_there, is_ready_at, look_up_order, looked_up_next, members_at, optional_positions}
use Rattle.optional_tables.proofs.PositionLemmas.{members_first, positions_within}

-- ---- the first of a list that passes a test
module _ {X : Type 0} (test : X → Bool) where
  -- with it in front the list has the same members
  pub put_moved : (passed xs : List X) → IsPermutation (passed ++ xs) (put_first test passed xs)
  put_moved passed [] = subst (λ (ys : List X). IsPermutation ys passed) (sym (append-nil passed)) (IsPermutation-refl passed)
  put_moved passed (x ∷ xs) = by_test (test x) (put_moved (passed ++ x ∷ []) xs)
    where
      by_test : (b : Bool) → IsPermutation ((passed ++ x ∷ []) ++ xs) (put_first test (passed ++ x ∷ []) xs)
          → IsPermutation (passed ++ x ∷ xs) (if b then x ∷ (passed ++ xs) else put_first test (passed ++ x ∷ []) xs)
      by_test true later = IsPermutation-middle passed x xs
      by_test false later =
          subst (λ (ys : List X). IsPermutation ys (put_first test (passed ++ x ∷ []) xs)) (append_assoc passed (x ∷ []) xs) later

  -- where one passes, one that passes is in front
  pub put_passing : (passed xs : List X) → list_any test xs ≡ true
      → (x : X) × (others : List X) × (put_first test passed xs ≡ x ∷ others) × (test x ≡ true)
  put_passing passed [] some = absurd (true≢false (sym some))
  put_passing passed (x ∷ xs) some =
      by_test (test x) refl (λ any. put_passing (passed ++ x ∷ []) xs any) some
    where
      by_test : (b : Bool) → test x ≡ b
          → (list_any test xs ≡ true → (y : X) × (others : List X)
          × (put_first test (passed ++ x ∷ []) xs ≡ y ∷ others) × (test y ≡ true))
          → (b || list_any test xs) ≡ true
          → (y : X) × (others : List X)
          × ((if b then x ∷ (passed ++ xs) else put_first test (passed ++ x ∷ []) xs) ≡ y ∷ others) × (test y ≡ true)
      by_test true passes later any = (x, passed ++ xs, refl, passes)
      by_test false fails later any = later any

  -- what is tried one after the other
  pub passed_over : (xs : List X) (i : ℕ) (d : X) → i < length xs → test (get_or xs i d) ≡ false
      → put_first test (take (i + 1) xs) (drop (i + 1) xs) ≡ put_first test (take i xs) (drop i xs)
  passed_over xs i d lt fails =
      ap (λ (front : List X). put_first test front (drop (i + 1) xs)) (take_more xs i d lt)
      ∙ ap (λ (j : ℕ). put_first test (take i xs ++ get_or xs i d ∷ []) (drop j xs)) (add-one i)
      ∙ sym (ap (λ (b : Bool). if b then get_or xs i d ∷ (take i xs ++ drop (suc i) xs) else put_first test (take i xs ++ get_or xs i d ∷ []) (drop (suc i) xs)) fails)
      ∙ sym (ap (put_first test (take i xs)) (drop-cons xs i d lt))

  pub found_first : (xs : List X) (i : ℕ) (d : X) → i < length xs → test (get_or xs i d) ≡ true
      → get_or xs i d ∷ remove xs i ≡ put_first test (take i xs) (drop i xs)
  found_first xs i d lt passes =
      sym (ap (put_first test (take i xs)) (drop-cons xs i d lt)
      ∙ ap (λ (b : Bool). if b then get_or xs i d ∷ (take i xs ++ drop (suc i) xs) else put_first test (take i xs ++ get_or xs i d ∷ []) (drop (suc i) xs)) passes)

  pub none_first : (xs : List X) (i : ℕ) (d : X) → 0 < length xs → length xs ≤ i
      → get_or xs 0 d ∷ remove xs 0 ≡ put_first test (take i xs) (drop i xs)
  none_first [] i d some past = absurd (omega (arith, some))
  none_first (x ∷ xs) i d some past =
      sym (ap (put_first test (take i (x ∷ xs))) (drop_all i (x ∷ xs) past) ∙ take_all i (x ∷ xs) past)

-- ---- the order has each optional table once
module _ (nullable : Attributes) (tables : List KeyedScheme) where
  pub next_moved : (n : ℕ) (joined left : List ℕ) → n ≡ length left
      → IsPermutation left (looked_up_next nullable tables n joined left)
  next_moved zero joined [] e = IsPermutation-refl []
  next_moved zero joined (k ∷ ks) e = absurd (omega (arith, e))
  next_moved (suc n) joined left e =
      of_found (put_first (is_ready_at nullable tables joined) [] left)
      (put_moved (is_ready_at nullable tables joined) [] left) (next_moved n)
    where
      of_found : (found : List ℕ) → IsPermutation left found
          → ((with rest : List ℕ) → n ≡ length rest → IsPermutation rest (looked_up_next nullable tables n with rest))
          → IsPermutation left (of_first (λ k others. k ∷ looked_up_next nullable tables n (k ∷ joined) others) found)
      of_found [] moved later = moved
      of_found (k ∷ rest) moved later =
          let long : suc (length rest) ≡ length left = length_permutation left (k ∷ rest) moved in
          IsPermutation-trans left (k ∷ rest) (k ∷ looked_up_next nullable tables n (k ∷ joined) rest) moved
          (IsPermutation-cons k rest (looked_up_next nullable tables n (k ∷ joined) rest)
          (later (k ∷ joined) rest (omega (arith, e, long))))

  pub order_moved : IsPermutation (optional_positions nullable tables) (look_up_order nullable tables)
  order_moved =
      let optional = optional_positions nullable tables in
      let back = IsPermutation-reverse optional in
      let long : length (reverse optional) ≡ length optional = length_permutation optional (reverse optional) back in
      IsPermutation-trans optional (reverse optional) (look_up_order nullable tables) back
      (next_moved (length optional) (always_filled nullable tables) (reverse optional) (sym long))

  pub order_within : All (λ k. k < length tables) (look_up_order nullable tables)
  order_within =
      All-permutation (λ k. k < length tables) (optional_positions nullable tables) (look_up_order nullable tables)
      order_moved (positions_within (is_optional nullable) tables)

  -- ---- a table is ready
  or_nothing : (b : Bool) → (b || false) ≡ b
  or_nothing true = refl
  or_nothing false = refl

  pub ready_there : (joined : List ℕ) (k : ℕ) (table : KeyedScheme) → slice_get tables k ≡ Some table
      → is_ready_at nullable tables joined k ≡ has_home nullable (members_at tables joined) table
  ready_there joined k table at =
      ap (λ (found : Option KeyedScheme). list_any (has_home nullable (members_at tables joined)) (if_there found)) at
      ∙ or_nothing (has_home nullable (members_at tables joined) table)

  -- ---- a round
  -- the positions that are joined once these were looked up
  abbrev pub joined_after : List ℕ → List ℕ
  joined_after order = reverse order ++ always_filled nullable tables

  pub joined_more : (order : List ℕ) (k : ℕ) → joined_after (order ++ k ∷ []) ≡ k ∷ joined_after order
  joined_more order k =
      ap (λ (ks : List ℕ). ks ++ always_filled nullable tables) (reverse-append order (k ∷ []))

  pub next_looked_up : (joined left : List ℕ) (i d : ℕ) → i < length left
      → get_or left i d ∷ remove left i ≡ put_first (is_ready_at nullable tables joined) [] left
      → looked_up_next nullable tables (length left) joined left
      ≡ get_or left i d ∷ looked_up_next nullable tables (length (remove left i)) (get_or left i d ∷ joined) (remove left i)
  next_looked_up joined left i d lt first =
      let one_less : length left ≡ suc (length (remove left i)) = let less = length-remove left i lt in omega (arith, less, lt) in
      ap (λ (n : ℕ). looked_up_next nullable tables n joined left) one_less
      ∙ ap (of_first (λ k others. k ∷ looked_up_next nullable tables (length (remove left i)) (k ∷ joined) others)) (sym first)

  -- one table more, of those that are left
  pub order_more : (order next left rest all : List ℕ) (i k : ℕ) → i < length left
      → k ≡ get_or left i k → rest ≡ remove left i
      → get_or left i k ∷ remove left i ≡ put_first (is_ready_at nullable tables (joined_after order)) [] left
      → next ≡ order ++ k ∷ []
      → order ++ looked_up_next nullable tables (length left) (joined_after order) left ≡ all
      → next ++ looked_up_next nullable tables (length rest) (joined_after next) rest ≡ all
  order_more order next left rest all i k lt at is first pushed so_far =
      ap (λ (z : List ℕ). z ++ looked_up_next nullable tables (length rest) (joined_after z) rest) pushed
      ∙ append_assoc order (k ∷ []) (looked_up_next nullable tables (length rest) (joined_after (order ++ k ∷ [])) rest)
      ∙ ap (λ (z : List ℕ). order ++ k ∷ looked_up_next nullable tables (length rest) z rest) (joined_more order k)
      ∙ ap (λ (z : List ℕ). order ++ k ∷ looked_up_next nullable tables (length z) (k ∷ joined_after order) z) is
      ∙ ap (λ (j : ℕ). order ++ j ∷ looked_up_next nullable tables (length (remove left i)) (j ∷ joined_after order) (remove left i)) at
      ∙ ap (λ (z : List ℕ). order ++ z) (sym (next_looked_up (joined_after order) left i k lt first))
      ∙ so_far

  -- where none is left
  pub order_done : (order left all : List ℕ) → length left ≡ 0
      → order ++ looked_up_next nullable tables (length left) (joined_after order) left ≡ all → order ≡ all
  order_done order left all none is =
      sym (append-nil order) ∙ sym (ap (λ (n : ℕ). order ++ looked_up_next nullable tables n (joined_after order) left) none) ∙ is

  -- ---- at first
  pub joined_next : (order : List ℕ) → order ≡ []
      → members_at tables (joined_after order) ≡ members_at tables (always_filled nullable tables)
  joined_next order none = ap (λ (ks : List ℕ). members_at tables (joined_after ks)) none

  pub order_start : (order left : List ℕ) → order ≡ [] → left ≡ reverse (optional_positions nullable tables)
      → order ++ looked_up_next nullable tables (length left) (joined_after order) left ≡ look_up_order nullable tables
  order_start order left none is =
      ap (λ (ks : List ℕ). ks ++ looked_up_next nullable tables (length left) (joined_after ks) left) none
      ∙ ap (λ (ks : List ℕ). looked_up_next nullable tables (length ks) (always_filled nullable tables) ks) is
      ∙ ap (λ (n : ℕ). looked_up_next nullable tables n (always_filled nullable tables) (reverse (optional_positions nullable tables)))
      (length-reverse (optional_positions nullable tables))

  pub waiting_within : (left : List ℕ) → left ≡ reverse (optional_positions nullable tables)
      → All (λ k. k < length tables) left
  waiting_within left is =
      subst (All (λ (k : ℕ). k < length tables)) (sym is)
      (All-permutation (λ k. k < length tables) (optional_positions nullable tables)
      (reverse (optional_positions nullable tables)) (IsPermutation-reverse (optional_positions nullable tables))
      (positions_within (is_optional nullable) tables))

-- what holds of all holds where one is left out
pub all_removed : {X : Type 0} (P : X → Type 0) (xs rest : List X) (i : ℕ) → rest ≡ remove xs i → All P xs → All P rest
all_removed {X} P xs rest i is each =
    subst (λ (ys : List X). All P ys) (sym is) (All-append P (take i xs) (drop (suc i) xs) (All-take P i xs each) (All-drop P (suc i) xs each))
