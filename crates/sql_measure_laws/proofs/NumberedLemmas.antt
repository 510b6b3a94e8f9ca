-- The rows of each relation have numbers by each set.
use Rattle.std.proofs.Common.{◌≡◌, ◌≤◌, ◌+◌, ◌⊎◌, ℕ, zero, suc, Bool, true, false, List, [], ◌∷◌, ◌++◌, length, Some, refl, ap, subst, inl, inr, arith}
use Rattle.std.proofs.lemmas.Bool.{cases_Bool, cases_eq}
use Rattle.std.specs.List.{slice_get}
use Rattle.attr_sets.specs.Attributes.{Attributes}
use Rattle.schema_model.specs.Schemas.{Schema}
use Rattle.dep_model.specs.Tuples.{Relation}
use Rattle.legality.proofs.PairLemmas.{member_of}
use Rattle.row_groups.specs.Numberings.{number_at, AreNumbered, AreInOrder, AreGroups, AreFirsts}
use Rattle.row_groups.specs.Pairs.{Gets}
use Rattle.row_groups.proofs.NumberingLemmas.{some_inj, numbered_more, groups_from, FirstsBefore, new_first, old_first}
use Rattle.row_store.specs.Rows.{row_at}
use Rattle.sql_evaluation.specs.Cells.{Cell, same_row}
use Rattle.sql_check_laws.proofs.CellLemmas.{same_row-decides}
use Rattle.sql_check_laws.proofs.CountLemmas.{DecidesSame}
use Rattle.sql_check_laws.proofs.GroupLemmas.{Cells}
use Rattle.sql_check_laws.proofs.SeveralLemmas.{agree-cells}
use Rattle.sql_check_laws.proofs.ValuesLemmas.{cells_on}
use Rattle.sql_measure_laws.proofs.NumberLemmas.{AreSeparate}

-- ---- numbers
-- a value is among those that were seen, or not
place_of : {X : Type 0} (eq : X → X → Bool) → DecidesSame eq → (seen : List X) (v : X)
    → ((g : ℕ) × (slice_get seen g ≡ Some v)) ⊎ ((g : ℕ) → slice_get seen g ≡ Some v → ⊥)
place_of eq same [] v = inr (λ g at. cc)
place_of {X} eq same (x ∷ seen) v = elim (cases_Bool (eq x v)) [
  | inl is ↦ inl (0, ap (λ (z : X). Some z) ((same x v).0 is))
  | inr other ↦ elim (place_of eq same seen v) [
    | inl found ↦ inl (suc found.0, found.1)
    | inr none ↦ inr (none_later x seen v none (λ equal. not_true (eq x v) other ((same x v).1 equal)))
  ]
]
  where
    not_true : (b : Bool) → b ≡ false → b ≡ true → ⊥
    not_true true e h = cc
    not_true false e h = cc

    none_later : {X : Type 0} (x : X) (seen : List X) (v : X) → ((g : ℕ) → slice_get seen g ≡ Some v → ⊥) → (x ≡ v → ⊥)
        → (g : ℕ) → slice_get (x ∷ seen) g ≡ Some v → ⊥
    none_later x seen v none differ zero at = differ (some_inj x v at)
    none_later x seen v none differ (suc g) at = none g at

next_of : {X : Type 0} (eq : X → X → Bool) → DecidesSame eq → (seen : List X) (v : X) → (after : List X) × (number : ℕ) × Gets v seen after number
next_of eq same seen v = elim (place_of eq same seen v) [
  | inl found ↦ (seen, found.0, record { number = inl (refl, found.1) })
  | inr none ↦ (seen ++ v ∷ [], length seen, record { number = inr (refl, refl, none) })
]

none_numbered : {X : Type 0} (value : ℕ → X) → AreNumbered value 0 [] []
none_numbered value = record {
  one_each = refl;
  read = λ i low. absurd (omega (arith, low));
  once = λ g h v first second. cc;
  within_count = omega arith;
  used = λ g low. absurd (omega (arith, low));
  in_order = λ i g low less. absurd (omega (arith, low));
}

numbered : {X : Type 0} (eq : X → X → Bool) → DecidesSame eq → (value : ℕ → X) (n : ℕ) → (seen : List X) × (numbers : List ℕ) × AreNumbered value n seen numbers
numbered eq same value zero = ([], [], none_numbered value)
numbered {X} eq same value (suc n) =
    let before = numbered eq same value n in
    let next = next_of eq same before.0 (value n) in
    let at : n + 1 ≡ suc n = omega arith in (
      next.0,
      before.1 ++ next.1 ∷ [],
      subst (λ (m : ℕ). AreNumbered value m next.0 (before.1 ++ next.1 ∷ [])) at (numbered_more value n before.0 next.0 before.1 next.1 before.2 next.2),
    )

-- ---- first rows
firsts_before : (numbers : List ℕ) → AreInOrder numbers → (i : ℕ) → i ≤ length numbers → (firsts : List ℕ) × FirstsBefore numbers i firsts
firsts_before numbers order zero most = (
  [],
  record {
    each = λ j low. absurd (omega (arith, low));
    within = λ g low. absurd (omega (arith, low));
    number = λ g low. absurd (omega (arith, low));
    least = λ j low. absurd (omega (arith, low));
  },
)
firsts_before numbers order (suc i) most =
    let before = firsts_before numbers order i (omega (arith, most)) in
    let at : i + 1 ≡ suc i = omega arith in
    elim (cases_eq (number_at numbers i) (length before.0)) [
      | inl new ↦ (before.0 ++ i ∷ [], subst (λ (m : ℕ). FirstsBefore numbers m (before.0 ++ i ∷ [])) at (new_first numbers before.0 (before.0 ++ i ∷ []) i before.1 new refl))
      | inr old ↦ (before.0, subst (λ (m : ℕ). FirstsBefore numbers m before.0) at (old_first numbers before.0 i before.1 order (omega (arith, most)) old))
    ]

pub firsts_of_numbers : (numbers : List ℕ) → AreInOrder numbers → (firsts : List ℕ) × AreFirsts numbers firsts
firsts_of_numbers numbers order =
    let all = firsts_before numbers order (length numbers) (omega arith) in
    (all.0, record { each = all.1.each; within = all.1.within; number = all.1.number; least = all.1.least })

-- the numbers of the rows by a set
pub numbers_of_rows : (s : Schema) (cell : Cells) (r : Relation) (x : Attributes) → AreSeparate s cell r x → (numbers firsts : List ℕ) × AreGroups r x numbers × AreFirsts numbers firsts
numbers_of_rows s cell r x apart =
    let value : ℕ → List Cell = λ i. cells_on s cell x (row_at r i) in
    let all = numbered same_row same_row-decides value (length r) in
    let groups : AreGroups r x all.1 = groups_from r x value all.0 all.1 all.2 (λ i j i_in j_in. (
      (λ same. apart (row_at r i) (row_at r j) (member_of r i i_in) (member_of r j j_in) same),
      (λ agree. agree-cells s cell x (row_at r i) (row_at r j) agree),
    )) in
    let firsts = firsts_of_numbers all.1 groups.in_order in
    (all.1, firsts.0, groups, firsts.1)
