-- The tuples of the irreducible closed sets: their values, and which they are.
use Rattle.std.proofs.Common.{◌≡◌, ℕ, ◌+◌, ◌^◌, ◌<◌, ◌≤◌, suc, Bool, true, false, cond, List, [], ◌∷◌, ◌++◌, length, get_or, refl, sym, ap, subst, ◌∙◌, ⊎_elim, arith}
use Rattle.std.specs.Prelude.{All, Contains}
use Rattle.std.specs.Fmt.{decimal}
use Rattle.std.proofs.lemmas.Bool.{lt-ltb}
use Rattle.std.proofs.lemmas.Fmt.{decimal_injective}
use Rattle.std.proofs.lemmas.List.{same_lists, get_or_default}
use Rattle.std.proofs.lemmas.List.Elements.{All-nil, All-cons, All-contains}
use Rattle.std.proofs.lemmas.List.FromFn.{length-map-range_with_len, get_or-map-range_with_len, map-range_with_len_more}
use Rattle.attr_sets.specs.Attributes.{Attributes, below}
use Rattle.dep_model.specs.Tuples.{Tuple, Relation, value_at, IsOver}
use Rattle.dep_model.specs.TwoTuples.{zero_text, all_zeros}
use Rattle.dep_model.proofs.ListLemmas.{Contains-head, Contains-later, Contains-cases}
use Rattle.dep_model.proofs.TwoTupleLemmas.{length-all_zeros, value_at-all_zeros}
use Rattle.dep_model.proofs.TwoTupleLemmas.{decimal_zero}
use Rattle.armstrong_rel.specs.Exhibits.{numbered_tuple, numbered_from, tuples_for}

-- ---- the values of one
pub length-numbered_tuple : (n number : ℕ) (x : Attributes) → length (numbered_tuple n number x) ≡ n
length-numbered_tuple n number x = length-map-range_with_len (λ (k : ℕ). cond (x k) zero_text (decimal number)) 0 n

pub value_at-numbered_tuple : (n number : ℕ) (x : Attributes) (k : ℕ) → k < n → value_at (numbered_tuple n number x) k
    ≡ cond (x k) zero_text (decimal number)
value_at-numbered_tuple n number x k low = get_or-map-range_with_len
    (λ (j : ℕ). cond (x j) zero_text (decimal number)) 0 n k k [] low (omega arith)

pub value_inside : (n number : ℕ) (x : Attributes) (k : ℕ) → k < n → x k ≡ true → value_at (numbered_tuple n number x) k
    ≡ zero_text
value_inside n number x k low member = value_at-numbered_tuple n number x k low
    ∙ ap (λ (b : Bool). cond b zero_text (decimal number)) member

pub value_outside : (n number : ℕ) (x : Attributes) (k : ℕ) → k < n → x k ≡ false → value_at (numbered_tuple n number x) k
    ≡ decimal number
value_outside n number x k low outside = value_at-numbered_tuple n number x k low
    ∙ ap (λ (b : Bool). cond b zero_text (decimal number)) outside

-- how many tuples there are
pub length-numbered_from : (n number : ℕ) (sets : List Attributes) → length (numbered_from n number sets) ≡ length sets
length-numbered_from n number [] = refl
length-numbered_from n number (x ∷ later) = ap suc (length-numbered_from n (number + 1) later)

pub length-tuples_for : (n : ℕ) (sets : List Attributes) → length (tuples_for n sets) ≡ length sets + 1
length-tuples_for n sets = omega (arith, length-numbered_from n 1 sets)

-- the tuple of all `0` is one too
pub zeros_numbered : (n : ℕ) → all_zeros n ≡ numbered_tuple n 0 (below n)
zeros_numbered n = same_lists (all_zeros n) (numbered_tuple n 0 (below n))
    (length-all_zeros n ∙ sym (length-numbered_tuple n 0 (below n))) (λ (k : ℕ) (d : List ℕ) l.
    let low : k < n = omega (arith, length-all_zeros n) in
    let there : k < length (numbered_tuple n 0 (below n)) = omega (arith, length-numbered_tuple n 0 (below n)) in
    get_or_default (all_zeros n) k d [] l ∙ value_at-all_zeros n k low
    ∙ sym (get_or_default (numbered_tuple n 0 (below n)) k d [] there
    ∙ value_inside n 0 (below n) k low (lt-ltb k n low)))

-- ---- texts of numbers

pub decimal_not_zero : (number : ℕ) → 0 < number → number < 2 ^ 64 → decimal number ≡ zero_text → ⊥
decimal_not_zero number not_empty wide same =
    let none = decimal_injective number 0 wide (omega arith) (same ∙ sym decimal_zero) in
    omega arith

-- ---- all of them
-- the set of the tuple with a number: the universe for 0, and a set of the list from 1 on
pub set_of : ℕ → List Attributes → ℕ → Attributes
set_of n sets number = get_or (below n ∷ sets) number (below n)

pub set_of_zero : (n : ℕ) (sets : List Attributes) → set_of n sets 0 ≡ below n
unfolding set_of
set_of_zero n sets = refl

numbered_member : (n number : ℕ) (sets : List Attributes) (t : Tuple) → Contains (numbered_from n number sets) t
    → (i : ℕ) × (i < length sets) × (t ≡ numbered_tuple n (number + i) (get_or sets i (below n)))
numbered_member n number [] t has = absurd (All-contains (λ (u : Tuple). ⊥) [] t (All-nil (λ (u : Tuple). ⊥)) has)
numbered_member n number (x ∷ later) t has = ⊎_elim
    (λ here. let none : number ≡ number + 0 = omega arith in
    (0, omega arith, here ∙ ap (λ (k : ℕ). numbered_tuple n k x) none))
    (λ there.
    let found = numbered_member n (number + 1) later t there in
    let next : (number + 1) + found.0 ≡ number + suc found.0 = omega arith in (
      suc found.0,
      omega (arith, found.1),
      found.2
          ∙ ap (λ (k : ℕ). numbered_tuple n k (get_or later found.0 (below n))) next,
    ))
    (Contains-cases (numbered_tuple n number x) (numbered_from n (number + 1) later) t has)

numbered_has : (n number : ℕ) (sets : List Attributes) (x : Attributes) → Contains sets x → (j : ℕ) × (number ≤ j)
    × (j < number + length sets) × Contains (numbered_from n number sets) (numbered_tuple n j x)
numbered_has n number [] x has = absurd (All-contains (λ (y : Attributes). ⊥) [] x (All-nil (λ (y : Attributes). ⊥)) has)
numbered_has n number (y ∷ later) x has = ⊎_elim
    (λ here. (
      number,
      omega arith,
      omega arith,
      subst (λ (z : Attributes). Contains (numbered_from n number (y ∷ later)) (numbered_tuple n number z)) (sym here)
          (Contains-head (numbered_tuple n number y) (numbered_from n (number + 1) later)),
    ))
    (λ there.
    let found = numbered_has n (number + 1) later x there in (
      found.0,
      omega (arith, found.1),
      omega (arith, found.2),
      Contains-later (numbered_tuple n number y)
          (numbered_from n (number + 1) later) (numbered_tuple n found.0 x) found.3,
    ))
    (Contains-cases y later x has)

-- each tuple is that of a number
pub tuple_of_number : (n : ℕ) (sets : List Attributes) (t : Tuple) → Contains (tuples_for n sets) t → (j : ℕ)
    × (j ≤ length sets) × (t ≡ numbered_tuple n j (set_of n sets j))
unfolding set_of
tuple_of_number n sets t has = ⊎_elim
    (λ first. (0, omega arith, first ∙ zeros_numbered n))
    (λ later. let found = numbered_member n 1 sets t later in
    let next : 1 + found.0 ≡ suc found.0 = omega arith in (
      suc found.0,
      omega (arith, found.1),
      found.2
          ∙ ap (λ (k : ℕ). numbered_tuple n k (get_or sets found.0 (below n))) next,
    ))
    (Contains-cases (all_zeros n) (numbered_from n 1 sets) t has)

-- and each set of the list has one
pub tuple_of_set : (n : ℕ) (sets : List Attributes) (x : Attributes) → Contains sets x → (j : ℕ) × (0 < j) × (j ≤ length sets)
    × Contains (tuples_for n sets) (numbered_tuple n j x)
tuple_of_set n sets x has =
    let found = numbered_has n 1 sets x has in (
      found.0,
      omega (arith, found.1),
      omega (arith, found.2),
      Contains-later (all_zeros n) (numbered_from n 1 sets)
          (numbered_tuple n found.0 x) found.3,
    )

-- what holds of the universe and of each set of the list holds of the set of each number
pub set_of_all : (n : ℕ) (sets : List Attributes) (P : Attributes → Type 0) → P (below n) → All P sets → (j : ℕ)
    → j ≤ length sets → P (set_of n sets j)
unfolding set_of
set_of_all n sets P universe each j low = All-cons P (below n) sets universe each j (below n) (omega arith)

-- ---- each is over the universe
pub tuples_over : (n : ℕ) (sets : List Attributes) → IsOver n (tuples_for n sets)
tuples_over n sets = All-cons (λ (t : Tuple). length t ≡ n) (all_zeros n) (numbered_from n 1 sets)
    (length-all_zeros n) (later 1 sets)
  where
    later : (number : ℕ) (xs : List Attributes) → All (λ t. length t ≡ n) (numbered_from n number xs)
    later number [] = All-nil (λ (t : Tuple). length t ≡ n)
    later number (x ∷ xs) = All-cons (λ (t : Tuple). length t ≡ n) (numbered_tuple n number x)
        (numbered_from n (number + 1) xs) (length-numbered_tuple n number x) (later (number + 1) xs)

-- ---- one set more at the end
pub numbered_more : (n number : ℕ) (xs : List Attributes) (y : Attributes) → numbered_from n number (xs ++ y ∷ [])
    ≡ numbered_from n number xs ++ numbered_tuple n (number + length xs) y ∷ []
numbered_more n number [] y = let none : number
    ≡ number + 0 = omega arith in ap (λ (k : ℕ). numbered_tuple n k y ∷ []) none
numbered_more n number (x ∷ xs) y =
    let next : (number + 1) + length xs ≡ number + suc (length xs) = omega arith in
    ap (λ (r : Relation). numbered_tuple n number x ∷ r)
    (numbered_more n (number + 1) xs y
    ∙ ap (λ (k : ℕ). numbered_from n (number + 1) xs ++ numbered_tuple n k y ∷ []) next)

-- ---- one attribute more
pub numbered_tuple-more : (n number : ℕ) (x : Attributes) → numbered_tuple (n + 1) number x
    ≡ numbered_tuple n number x ++ cond (x n) zero_text (decimal number) ∷ []
numbered_tuple-more n number x = map-range_with_len_more (λ (k : ℕ). cond (x k) zero_text (decimal number)) 0 n n
    (omega arith)

-- ---- the tuples, once one set more is shown
pub tuples_more : (n : ℕ) (xs : List Attributes) (y : Attributes) → tuples_for n (xs ++ y ∷ [])
    ≡ tuples_for n xs ++ numbered_tuple n (length xs + 1) y ∷ []
tuples_more n xs y =
    let next : 1 + length xs ≡ length xs + 1 = omega arith in
    ap (λ (r : Relation). all_zeros n ∷ r)
    (numbered_more n 1 xs y ∙ ap (λ (k : ℕ). numbered_from n 1 xs ++ numbered_tuple n k y ∷ []) next)
