-- What a list has at the members of a set: one attribute after the other, and what holds of it.
use Rattle.std.proofs.Common.{◌≡◌, ◌+◌, ◌<◌, ◌≤◌, ℕ, zero, suc, true, false, List, [], ◌∷◌, ◌++◌, length, map, refl, sym, ap, subst, ◌∙◌, inl, inr, arith}
use Rattle.std.proofs.lemmas.Bool.{cases_Bool, true≢false, ltb-true}
use Rattle.std.proofs.lemmas.List.{map_push, length-map}
use Rattle.std.proofs.lemmas.List.Elements.{All-nil, All-push, Contains-push_cases}
use Rattle.std.proofs.lemmas.List.Quantifiers.{all_pairs_push}
use Rattle.std.specs.Prelude.{All, AllPairs, Contains, slice_index_or}
use Rattle.attr_sets.specs.Attributes.{Attributes, below, none, IsSubset, IsEmpty, count_below}
use Rattle.dep_model.specs.Projections.{members_below}
use Rattle.dep_model.proofs.SchemeLemmas.{length-members_below, members_below-none, members_below-one_more, members_below-no_more}
use Rattle.schema_printer.specs.Parts.{chosen}

module _ {X : Type 0} (xs : List X) (d : X) (x : Attributes) where
  pub chosen_none : [] ≡ chosen xs d 0 x
  chosen_none = sym (ap (map (λ (k : ℕ). slice_index_or xs k d)) (members_below-none x))

  pub chosen_more : (n : ℕ) → x n ≡ true → chosen xs d (n + 1) x ≡ chosen xs d n x ++ slice_index_or xs n d ∷ []
  chosen_more n member =
      let at : ℕ → X = λ (k : ℕ). slice_index_or xs k d in
      ap (map at) (members_below-one_more n (n + 1) x refl member) ∙ map_push at (members_below n x) n

  pub chosen_skip : (n : ℕ) → x n ≡ false → chosen xs d (n + 1) x ≡ chosen xs d n x
  chosen_skip n outside = ap (map (λ (k : ℕ). slice_index_or xs k d)) (members_below-no_more n (n + 1) x refl outside)

  pub length-chosen : (n : ℕ) → length (chosen xs d n x) ≡ count_below x n
  length-chosen n = length-map (members_below n x) (λ (k : ℕ). slice_index_or xs k d) ∙ length-members_below n x

  -- an element of what is chosen is one of the list, at a member
  pub record IsChosen (n : ℕ) (y : X) : Type 0 where
    pub at : ℕ
    pub short : at < n
    pub member : x at ≡ true
    pub is : slice_index_or xs at d ≡ y

  chosen_later : (n : ℕ) (y : X) → IsChosen n y → IsChosen (n + 1) y
  chosen_later n y one = let lt = one.short in record { at = one.at; short = omega (arith, lt); member = one.member; is = one.is }

  pub chosen_each : (n : ℕ) → All (IsChosen n) (chosen xs d n x)
  chosen_each zero = subst (λ (ys : List X). All (IsChosen 0) ys) chosen_none (All-nil (IsChosen 0))
  chosen_each (suc n) =
      let later : All (IsChosen (n + 1)) (chosen xs d n x) = λ k e l. chosen_later n _ (chosen_each n k e l) in
      let all : All (IsChosen (n + 1)) (chosen xs d (n + 1) x) = elim (cases_Bool (x n)) [
        | inl member ↦ subst (λ (ys : List X). All (IsChosen (n + 1)) ys) (sym (chosen_more n member))
            (All-push (IsChosen (n + 1)) (chosen xs d n x) (slice_index_or xs n d) later (record { at = n; short = omega arith; member = member; is = refl }))
        | inr outside ↦ subst (λ (ys : List X). All (IsChosen (n + 1)) ys) (sym (chosen_skip n outside)) later
      ] in
      let e : n + 1 ≡ suc n = omega arith in
      subst (λ (m : ℕ). All (IsChosen m) (chosen xs d m x)) e all

  -- what holds of each of a list holds of each that is chosen
  pub chosen_all : (P : X → Type 0) (n : ℕ) → n ≤ length xs → All P xs → All P (chosen xs d n x)
  chosen_all P n low all k e l =
      let one = chosen_each n k e l in
      let lt = one.short in
      subst P one.is (all one.at d (omega (arith, lt, low)))

  -- and what holds of each two
  pub chosen_pairs : (R : X → X → Type 0) (n : ℕ) → n ≤ length xs → AllPairs R xs → AllPairs R (chosen xs d n x)
  chosen_pairs R zero low pairs = subst (λ (ys : List X). AllPairs R ys) chosen_none (λ i j e before l. absurd (omega (arith, l)))
  chosen_pairs R (suc n) low pairs =
      let e : n + 1 ≡ suc n = omega arith in
      let before : AllPairs R (chosen xs d n x) = chosen_pairs R n (omega (arith, low)) pairs in
      subst (λ (m : ℕ). AllPairs R (chosen xs d m x)) e (elim (cases_Bool (x n)) [
        | inl member ↦ subst (λ (ys : List X). AllPairs R ys) (sym (chosen_more n member))
            (all_pairs_push R (chosen xs d n x) (slice_index_or xs n d) before
            (λ k f l. let one = chosen_each n k f l in let lt = one.short in
            subst (λ (y : X). R y (slice_index_or xs n d)) one.is (pairs one.at n d lt (omega (arith, low)))))
        | inr outside ↦ subst (λ (ys : List X). AllPairs R ys) (sym (chosen_skip n outside)) before
      ])
