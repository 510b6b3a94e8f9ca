-- Whether tables can be read back, and whether one of them is optional, does not depend on their order.
use Rattle.std.proofs.Common.{◌≡◌, ◌+◌, ℕ, zero, suc, Bool, true, false, true≢false, if◌then◌else◌, List, [], ◌∷◌, refl, sym, ap, subst, ◌∙◌, arith, IsPermutation}
use Rattle.std.specs.Prelude.{Contains, sum_by, IsSomeAnd, slice_get}
use Rattle.std.proofs.lemmas.List.Sums.{sum_by-cons}
use Rattle.std.proofs.lemmas.List.Sorted.{Contains-permutation, IsPermutation-sym, list_any-IsPermutation, sum_by-IsPermutation}
use Rattle.attr_sets.specs.Attributes.{Attributes}
use Rattle.optional_tables.specs.declared.keyed.KeyedScheme.{KeyedScheme}
use Rattle.optional_tables.specs.Homes.{has_outside_key, is_home_of}
use Rattle.optional_tables.specs.Readable.{HasOneHome, IsHomeAt, IsReadable}

-- ---- one home
module _ (a : ℕ) where
  -- how many homes of an attribute tables are
  abbrev home_count : KeyedScheme → ℕ
  home_count table = if has_outside_key table a then 1 else 0

  abbrev homes_in : List KeyedScheme → ℕ
  homes_in tables = sum_by home_count tables

  -- with one table in front
  counted_home : (t : KeyedScheme) (ts : List KeyedScheme) → has_outside_key t a ≡ true → homes_in (t ∷ ts) ≡ suc (homes_in ts)
  counted_home t ts is =
      let more = sum_by-cons home_count t ts in
      let one : home_count t ≡ 1 = ap (λ (b : Bool). if b then 1 else 0) is in
      omega (arith, more, one)

  counted_other : (t : KeyedScheme) (ts : List KeyedScheme) → has_outside_key t a ≡ false → homes_in (t ∷ ts) ≡ homes_in ts
  counted_other t ts is =
      let more = sum_by-cons home_count t ts in
      let none : home_count t ≡ 0 = ap (λ (b : Bool). if b then 1 else 0) is in
      omega (arith, more, none)

  -- none of them is one
  none_from : (ts : List KeyedScheme) → homes_in ts ≡ 0 → (j : ℕ) → IsHomeAt ts a j → ⊥
  none_from [] none j is = is
  none_from (t ∷ ts) none j is = by_test (has_outside_key t a) refl (λ fewer i at. none_from ts fewer i at) j is
    where
      by_test : (b : Bool) → has_outside_key t a ≡ b → (homes_in ts ≡ 0 → (i : ℕ) → IsHomeAt ts a i → ⊥)
          → (i : ℕ) → IsHomeAt (t ∷ ts) a i → ⊥
      by_test true here later i at = let more = counted_home t ts here in omega (arith, more, none)
      by_test false here later zero at = true≢false (sym at ∙ here)
      by_test false here later (suc i) at = later (sym (counted_other t ts here) ∙ none) i at

  none_to : (ts : List KeyedScheme) → ((j : ℕ) → IsHomeAt ts a j → ⊥) → homes_in ts ≡ 0
  none_to [] none = refl
  none_to (t ∷ ts) none = by_test (has_outside_key t a) refl (none_to ts (λ j at. none (suc j) at))
    where
      by_test : (b : Bool) → has_outside_key t a ≡ b → homes_in ts ≡ 0 → homes_in (t ∷ ts) ≡ 0
      by_test true here later = absurd (none zero here)
      by_test false here later = counted_other t ts here ∙ later

  one_from : (ts : List KeyedScheme) → homes_in ts ≡ 1 → HasOneHome ts a
  one_from [] one = absurd (omega (arith, one))
  one_from (t ∷ ts) one = by_test (has_outside_key t a) refl (one_from ts)
    where
      first : has_outside_key t a ≡ true → (j : ℕ) → IsHomeAt (t ∷ ts) a j → j ≡ 0
      first here zero at = refl
      first here (suc j) at =
          let more = counted_home t ts here in
          absurd (none_from ts (omega (arith, more, one)) j at)

      later : has_outside_key t a ≡ false → (rest : HasOneHome ts a) → (j : ℕ) → IsHomeAt (t ∷ ts) a j → j ≡ suc rest.home
      later here rest zero at = absurd (true≢false (sym at ∙ here))
      later here rest (suc j) at = ap (λ (k : ℕ). suc k) (rest.only j at)

      by_test : (b : Bool) → has_outside_key t a ≡ b → (homes_in ts ≡ 1 → HasOneHome ts a) → HasOneHome (t ∷ ts) a
      by_test true here others = record { home = 0; is_home = here; only = first here }
      by_test false here others =
          let rest = others (sym (counted_other t ts here) ∙ one) in
          record { home = suc rest.home; is_home = rest.is_home; only = later here rest }

  one_to : (ts : List KeyedScheme) → HasOneHome ts a → homes_in ts ≡ 1
  one_to [] is = absurd is.is_home
  one_to (t ∷ ts) is = by_test (has_outside_key t a) refl (one_to ts) is.home is.is_home is.only
    where
      apart : (h j : ℕ) → 0 ≡ h → suc j ≡ h → ⊥
      apart h j first second = omega (arith, first, second)

      by_test : (b : Bool) → has_outside_key t a ≡ b → (HasOneHome ts a → homes_in ts ≡ 1) → (h : ℕ)
          → IsHomeAt (t ∷ ts) a h → ((j : ℕ) → IsHomeAt (t ∷ ts) a j → j ≡ h) → homes_in (t ∷ ts) ≡ 1
      by_test true here others h at only =
          let none = none_to ts (λ j there. apart h j (only 0 here) (only (suc j) there)) in
          let more = counted_home t ts here in
          omega (arith, more, none)
      by_test false here others zero at only = absurd (true≢false (sym at ∙ here))
      by_test false here others (suc h) at only =
          counted_other t ts here
          ∙ others (record { home = h; is_home = at; only = λ j there. let same = only (suc j) there in omega (arith, same) })

  -- so one of them is it in any order
  one_home_moved : (tables others : List KeyedScheme) → IsPermutation tables others → HasOneHome tables a → HasOneHome others a
  one_home_moved tables others moved is =
      one_from others (sum_by-IsPermutation home_count tables others moved ∙ one_to tables is)

-- ---- readable designs
pub readable_moved : (nullable : Attributes) (tables others : List KeyedScheme) → IsPermutation tables others
    → IsReadable nullable tables → IsReadable nullable others
readable_moved nullable tables others moved is = record {
  homes = λ a may. one_home_moved a tables others moved (is.homes a may);
  looked_up = λ table has optional.
      let can = is.looked_up table (Contains-permutation others tables table (IsPermutation-sym tables others moved) has) optional in
      record {
        beside = can.beside;
        home = sym (list_any-IsPermutation (is_home_of nullable table) tables others moved) ∙ can.home;
      };
}
