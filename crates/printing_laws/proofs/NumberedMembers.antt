-- The members of a set by their numbers among those of another have the same names.
use Rattle.std.proofs.Common.{◌≡◌, ◌+◌, ◌<◌, ◌≤◌, ◌&&◌, ℕ, zero, suc, Bool, true, false, nat_lt, List, [], ◌∷◌, ◌++◌, length, map, get_or, if◌then◌else◌, refl, sym, ap, subst, ◌∙◌, inl, inr, arith}
use Rattle.std.specs.Prelude.{All, slice_index_or}
use Rattle.std.proofs.Math.ListN.{get_or-map}
use Rattle.std.proofs.lemmas.Bool.{and_parts, cases_Bool, false_from_ne_true, lt-ltb, ltb-true, true≢false}
use Rattle.std.proofs.lemmas.List.{length-map, map_push}
use Rattle.std.proofs.lemmas.List.Elements.{All-head, All-tail}
use Rattle.attr_sets.specs.Attributes.{Attributes, count_below, IsSubset}
use Rattle.attr_sets.proofs.AttributesLemmas.{count_below-before_member}
use Rattle.dep_model.specs.Projections.{members_below}
use Rattle.dep_model.proofs.ListLemmas.{same_default}
use Rattle.dep_model.proofs.SchemeLemmas.{count_below-start, length-members_below, member_at, members_below-at, members_below-member, members_below-none, members_below-one_more, members_below-outside}
use Rattle.schema_printer.specs.Printing.{members_from}
use Rattle.schema_printer.proofs.MemberLemmas.{members_named}
use Rattle.printing_laws.specs.Parts.{numbered_in}

-- ---- lists
map_same : {X Y : Type 0} (f g : X → Y) (xs : List X) → All (λ x. f x ≡ g x) xs → map f xs ≡ map g xs
map_same f g [] all = refl
map_same {X = X} {Y = Y} f g (x ∷ xs) all =
    ap (λ (y : Y). y ∷ map f xs) (All-head (λ z. f z ≡ g z) x xs all)
    ∙ ap (λ (ys : List Y). g x ∷ ys) (map_same f g xs (All-tail (λ z. f z ≡ g z) x xs all))

map_of_map : {X Y Z : Type 0} (f : Y → Z) (g : X → Y) (xs : List X) → map f (map g xs) ≡ map (λ x. f (g x)) xs
map_of_map f g [] = refl
map_of_map {Z = Z} f g (x ∷ xs) = ap (λ (ys : List Z). f (g x) ∷ ys) (map_of_map f g xs)

members_low : (n : ℕ) (y : Attributes) → All (λ j. j < n) (members_below n y)
members_low n y i d l =
    let a = get_or (members_below n y) i d in
    (member_at n y i a l (same_default (members_below n y) i d a l)).0

-- ---- the count of one attribute more
count_more : (n : ℕ) (x : Attributes) → x n ≡ true → count_below x (suc n) ≡ count_below x n + 1
unfolding count_below
count_more n x member = ap (λ (b : Bool). count_below x n + (if b then 1 else 0)) member

count_same : (n : ℕ) (x : Attributes) → x n ≡ false → count_below x (suc n) ≡ count_below x n
unfolding count_below
count_same n x outside = ap (λ (b : Bool). count_below x n + (if b then 1 else 0)) outside ∙ omega arith

-- ---- the numbers
module _ (n : ℕ) (x z : Attributes) (inside : IsSubset z x) where
  abbrev member : ℕ → ℕ
  member j = get_or (members_below n x) j 0

  abbrev numbers : Attributes
  numbers = numbered_in n x z

  -- the number of a member has it exactly where the set does
  number_has : (k : ℕ) → k < n → x k ≡ true → numbers (count_below x k) ≡ z k
  number_has k low has =
      let c = count_below x k in
      let less : nat_lt c (count_below x n) ≡ true = lt-ltb c (count_below x n) (count_below-before_member n k x low has) in
      ap (λ (b : Bool). b && z (member c)) less ∙ ap z (members_below-at n x k 0 low has)

  numbers_back : (k : ℕ) → k ≤ n → map member (members_below (count_below x k) numbers) ≡ members_below k z
  numbers_back zero low =
      ap (λ (c : ℕ). map member (members_below c numbers)) (count_below-start x)
      ∙ ap (map member) (members_below-none numbers) ∙ sym (members_below-none z)
  numbers_back (suc k) low =
      let c = count_below x k in
      let before = numbers_back k (omega (arith, low)) in
      elim (cases_Bool (x k)) [
        | inl has ↦
            let here = number_has k (omega (arith, low)) has in
            ap (λ (m : ℕ). map member (members_below m numbers)) (count_more k x has)
            ∙ (elim (cases_Bool (z k)) [
              | inl taken ↦
                  ap (map member) (members_below-one_more c (c + 1) numbers refl (here ∙ taken))
                  ∙ map_push member (members_below c numbers) c
                  ∙ ap (λ (ks : List ℕ). ks ++ member c ∷ []) before
                  ∙ ap (λ (a : ℕ). members_below k z ++ a ∷ []) (members_below-at n x k 0 (omega (arith, low)) has)
                  ∙ sym (members_below-member k z taken)
              | inr not_taken ↦
                  ap (λ (m : ℕ). map member (members_below m numbers)) (plus_one c)
                  ∙ ap (map member) (members_below-outside c numbers (here ∙ not_taken))
                  ∙ before ∙ sym (members_below-outside k z not_taken)
            ])
        | inr outside ↦
            let not_taken : z k ≡ false = false_from_ne_true (z k) (λ taken. true≢false (sym (inside k taken) ∙ outside)) in
            ap (λ (m : ℕ). map member (members_below m numbers)) (count_same k x outside)
            ∙ before ∙ sym (members_below-outside k z not_taken)
      ]
    where
      plus_one : (c : ℕ) → c + 1 ≡ suc c
      plus_one c = omega arith

-- ---- the names
-- the names of the numbers, of the members' names, are those of the members
pub names_same : (spelled : List ℕ → List ℕ) (names : List (List ℕ)) (x z : Attributes) → IsSubset z x
    → members_from (numbered_in (length names) x z) 0 (map spelled (map (λ k. slice_index_or names k []) (members_below (length names) x)))
    ≡ members_from z 0 (map spelled names)
names_same spelled names x z inside =
    let n = length names in
    let ms = members_below n x in
    let part = map spelled (map (λ k. get_or names k []) ms) in
    let numbers = numbered_in n x z in
    let size : length part ≡ count_below x n = length-map (map (λ k. get_or names k []) ms) spelled ∙ length-map ms (λ k. get_or names k []) ∙ length-members_below n x in
    members_named numbers part
    ∙ ap (λ (m : ℕ). map (λ j. get_or part j []) (members_below m numbers)) size
    ∙ map_same (λ j. get_or part j []) (λ j. called (get_or ms j 0)) (members_below (count_below x n) numbers)
    (λ i d l. called_part (get_or (members_below (count_below x n) numbers) i d)
    (omega (arith, members_low (count_below x n) numbers i d l, length-members_below n x)))
    ∙ sym (map_of_map called (λ j. get_or ms j 0) (members_below (count_below x n) numbers))
    ∙ ap (map called) (numbers_back n x z inside n (omega arith))
    ∙ map_same called (λ k. get_or (map spelled names) k []) (members_below n z)
    (λ i d l. sym (called_name (get_or (members_below n z) i d) (members_low n z i d l)))
    ∙ ap (λ (m : ℕ). map (λ k. get_or (map spelled names) k []) (members_below m z)) (sym (length-map names spelled))
    ∙ sym (members_named z (map spelled names))
  where
    called : ℕ → List ℕ
    called k = spelled (get_or names k [])

    called_name : (k : ℕ) → k < length names → get_or (map spelled names) k [] ≡ called k
    called_name k low =
        same_default (map spelled names) k [] (spelled []) (omega (arith, low, length-map names spelled)) ∙ get_or-map spelled names k []

    called_part : (j : ℕ) → j < length (members_below (length names) x)
        → get_or (map spelled (map (λ k. get_or names k []) (members_below (length names) x))) j [] ≡ called (get_or (members_below (length names) x) j 0)
    called_part j low =
        let ms = members_below (length names) x in
        let chosen = map (λ k. get_or names k []) ms in
        let long = length-map ms (λ k. get_or names k []) in
        same_default (map spelled chosen) j [] (spelled []) (omega (arith, low, long, length-map chosen spelled))
        ∙ get_or-map spelled chosen j []
        ∙ ap spelled (same_default chosen j [] (get_or names 0 []) (omega (arith, low, long)) ∙ get_or-map (λ k. get_or names k []) ms j 0)
