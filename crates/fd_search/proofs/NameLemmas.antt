-- Rows with the number of their group as one value more: different rows have different ones.
use Rattle.std.proofs.Common.{◌≡◌, ◌<◌, ◌^◌, ℕ, suc, Bool, true, false, cond, List, [], ◌∷◌, ◌++◌, length, map, get_or, refl, sym, ap, ◌∙◌, ⊎_elim, arith}
use Rattle.std.specs.Prelude.{Contains}
use Rattle.std.specs.Int.{w32, to_le_bytes, from_le_bytes}
use Rattle.std.proofs.lemmas.Bool.{true≢false}
use Rattle.std.proofs.lemmas.Bool.Decides.{nat_tests}
use Rattle.std.proofs.lemmas.List.{get_or-map, get_or_default, length-map, same_lists}
use Rattle.std.proofs.lemmas.List.Elements.{Contains-get_or}
use Rattle.std.proofs.lemmas.Nat.{from_le_bytes-to_le_bytes_4}
use Rattle.attr_sets.specs.Attributes.{below}
use Rattle.row_groups.specs.Numberings.{AreGroups, number_at}
use Rattle.dep_model.specs.Tuples.{Tuple, Relation, IsOver, same_tuple}
use Rattle.dep_model.proofs.DistinctLemmas.{same_tuple-decides}
use Rattle.dep_model.proofs.ListLemmas.{Contains-cases}
use Rattle.dep_model.proofs.TupleLemmas.{IsOver-length, same_tuple-Contains}
use Rattle.row_store.specs.Rows.{row_at}
use Rattle.fd_search.specs.Numbered.{AreNumbered, AreNumberedBy}

-- ---- names
-- a row with its name as one value more
abbrev pub with_name : (Tuple → List ℕ) → Tuple → Tuple
with_name name t = t ++ name t ∷ []

abbrev pub with_names : (Tuple → List ℕ) → Relation → Relation
with_names name r = map (with_name name) r

-- different rows have different names
abbrev pub AreNames : Relation → (Tuple → List ℕ) → Type 0
AreNames r name = (t u : Tuple) → Contains r t → Contains r u → name t ≡ name u → t ≡ u

-- ---- the first place of a row
abbrev place_of : Tuple → Relation → ℕ
place_of t [] = 0
place_of t (u ∷ r) = cond (same_tuple t u) 0 (suc (place_of t r))

-- the row stands there
record StandsAt (t : Tuple) (r : Relation) (i : ℕ) : Type 0 where
  low : i < length r
  is : row_at r i ≡ t

placed : (t : Tuple) (r : Relation) → Contains r t → StandsAt t r (place_of t r)
placed t [] h = absurd (omega (arith, h.1))
placed t (u ∷ r) h = by (same_tuple t u) refl (placed t r)
  where
    later : same_tuple t u ≡ false → Contains r t
    later differ = ⊎_elim
        (λ (here : t ≡ u). absurd (true≢false (sym ((same_tuple-decides t u).1 here) ∙ differ)))
        (λ there. there)
        (Contains-cases u r t h)

    by : (b : Bool) → same_tuple t u ≡ b → (Contains r t → StandsAt t r (place_of t r))
        → StandsAt t (u ∷ r) (cond b 0 (suc (place_of t r)))
    by true same at = record { low = omega arith; is = sym ((same_tuple-decides t u).0 same) }
    by false differ at =
        let there = at (later differ) in
        record { low = omega (arith, there.low); is = there.is }

-- ---- the number of a row as its name
module _ (n : ℕ) (r : Relation) (over : IsOver n r) (numbers : List ℕ) (groups : AreGroups r (below n) numbers) where
  -- the number of a row, as that of the first which is equal
  abbrev pub number_name : Tuple → List ℕ
  number_name t = to_le_bytes w32 (number_at numbers (place_of t r))

  -- equal rows have one number
  same_number : (i j : ℕ) → i < length r → j < length r → row_at r i ≡ row_at r j → number_at numbers i ≡ number_at numbers j
  same_number i j i_low j_low same = (groups.equal i j i_low j_low).1 (λ k has. ap (λ (t : Tuple). get_or t k []) same)

  -- and different rows different ones
  number_once : (i j : ℕ) → i < length r → j < length r → number_at numbers i ≡ number_at numbers j → row_at r i ≡ row_at r j
  number_once i j i_low j_low same =
      same_tuple-Contains n (row_at r i) (row_at r j)
      (IsOver-length n r (row_at r i) over (Contains-get_or r i [] i_low))
      (IsOver-length n r (row_at r j) over (Contains-get_or r j [] j_low))
      (λ k low. (groups.equal i j i_low j_low).0 same k (grind (arith, nat_tests, low)))

  pub numbers_are_names : ((i : ℕ) → i < length r → number_at numbers i < 2 ^ 32) → AreNames r number_name
  numbers_are_names small t u t_in u_in same =
      let first = placed t r t_in in
      let second = placed u r u_in in
      let numbers_same : number_at numbers (place_of t r) ≡ number_at numbers (place_of u r) =
      sym (from_le_bytes-to_le_bytes_4 (number_at numbers (place_of t r)) (small (place_of t r) first.low))
      ∙ ap (from_le_bytes w32) same
      ∙ from_le_bytes-to_le_bytes_4 (number_at numbers (place_of u r)) (small (place_of u r) second.low) in
      sym first.is ∙ number_once (place_of t r) (place_of u r) first.low second.low numbers_same ∙ second.is

  pub named_by_numbers : (made : Relation) → AreNumberedBy r numbers made → made ≡ with_names number_name r
  named_by_numbers made each =
      same_lists made (with_names number_name r) (each.one_each ∙ sym (length-map r (with_name number_name)))
      (λ i d low. at i d (omega (arith, low, each.one_each)))
    where
      at : (i : ℕ) (d : Tuple) → i < length r → get_or made i d ≡ get_or (with_names number_name r) i d
      at i d low =
          let first = placed (row_at r i) r (Contains-get_or r i [] low) in
          get_or_default made i d [] (omega (arith, low, each.one_each)) ∙ each.row i low
          ∙ ap (λ (g : ℕ). row_at r i ++ to_le_bytes w32 g ∷ []) (same_number i (place_of (row_at r i) r) low first.low (sym first.is))
          ∙ sym (get_or-map (with_name number_name) r i [] d low)

  pub numbered_names : (made : Relation) → AreNumberedBy r numbers made
      → (name : Tuple → List ℕ) × AreNames r name × (made ≡ with_names name r)
  numbered_names made each = (number_name, numbers_are_names each.small, named_by_numbers made each)

-- what tells the rows apart, as names
pub names_of : (n : ℕ) (r made : Relation) → IsOver n r → AreNumbered n r made
    → (name : Tuple → List ℕ) × AreNames r name × (made ≡ with_names name r)
names_of n r made over are = numbered_names n r over are.numbers are.groups made are.each
