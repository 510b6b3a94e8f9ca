-- The rows of each relation have numbers against each functional dependency.
use Rattle.std.proofs.Common.{◌≡◌, ◌<◌, ◌≤◌, ◌+◌, ◌==◌, ◌&&◌, not, ℕ, zero, suc, Bool, true, false, List, length, map, set, refl, sym, ap, subst, ◌∙◌, inl, inr, arith}
use Rattle.std.proofs.lemmas.Bool.{cases_lt, true≢false, eq-eqb, and_from}
use Rattle.std.proofs.lemmas.Bool.Decides.{nat_tests}
use Rattle.std.proofs.lemmas.List.{get_or_past, length-map, length-set}
use Rattle.std.proofs.lemmas.List.FromFn.{length-map-range_with_len, get_or-map-range_with_len}
use Rattle.std.specs.List.{range_with_len}
use Rattle.std.specs.Prelude.{nat_lt}
use Rattle.attr_sets.specs.Attributes.{Attributes, union, count_below}
use Rattle.attr_sets.proofs.AttributesLemmas.{count_below-none, count_below-pos}
use Rattle.schema_model.specs.Schemas.{Schema}
use Rattle.dep_model.specs.Tuples.{Relation}
use Rattle.legality.specs.Parts.{flag_at}
use Rattle.legality.proofs.CountLemmas.{other_number}
use Rattle.removal_laws.specs.Classes.{rows_of}
use Rattle.removal_laws.proofs.CountLemmas.{found_below}
use Rattle.row_groups.specs.Numberings.{number_at, AreGroups, AreFirsts}
use Rattle.row_measures.specs.Broken.{AreChosen, AreFlags, AreRowCounts, HasTwoClasses}
use Rattle.row_measures.specs.ByClass.{AreLargestBelow, AreOutside}
use Rattle.row_measures.specs.Sorted.{Classes}
use Rattle.row_measures.proofs.ChosenLemmas.{class_kept, class_replaced, leaders_first, leaders_are_firsts, are_chosen, two_classes}
use Rattle.sql_check_laws.proofs.GroupLemmas.{Cells}
use Rattle.sql_measure_laws.proofs.NumberLemmas.{AreSeparate}
use Rattle.sql_measure_laws.proofs.NumberedLemmas.{numbers_of_rows}

-- ---- the sizes of classes
sizes_of : List ℕ → ℕ → List ℕ
sizes_of classes count = map (rows_of classes) (range_with_len 0 count)

sizes-are : (classes : List ℕ) (count : ℕ) → AreRowCounts classes count (sizes_of classes count)
unfolding sizes_of
sizes-are classes count = record {
  one_each = length-map-range_with_len (rows_of classes) 0 count;
  each = λ c c_in. get_or-map-range_with_len (rows_of classes) 0 count c c 0 c_in (omega arith);
}

-- ---- the largest class of each group
module _ (owners sizes leaders : List ℕ) (first : AreLargestBelow 0 owners sizes leaders)
    (owned : (c : ℕ) → c < length owners → number_at owners c < length leaders) where
  largest_below : (n : ℕ) → n ≤ length owners → (chosen : List ℕ) × (length chosen ≡ length leaders) × AreLargestBelow n owners sizes chosen
  largest_below zero most = (leaders, refl, first)
  largest_below (suc n) most =
      let before = largest_below n (omega (arith, most)) in
      let chosen = before.0 in
      let low : n < length owners = omega (arith, most) in
      let at : n + 1 ≡ suc n = omega arith in
      let h = number_at owners n in
      elim (cases_lt (number_at sizes (number_at chosen h)) (number_at sizes n)) [
        | inl larger ↦ (
          set chosen h n,
          length-set chosen h n ∙ before.1,
          subst (λ (m : ℕ). AreLargestBelow m owners sizes (set chosen h n)) at
              (class_replaced n owners sizes chosen before.2 larger low (omega (arith, owned n low, before.1))),
        )
        | inr smaller ↦ (chosen, before.1, subst (λ (m : ℕ). AreLargestBelow m owners sizes chosen) at (class_kept n owners sizes chosen before.2 smaller low))
      ]

-- ---- the groups with more than one class
module _ (groups firsts classes chosen : List ℕ) (are : AreChosen groups firsts classes chosen) (low : (i : ℕ) → i < length groups → number_at groups i < length chosen) where
  -- a row of a group, of another class than the chosen one
  abbrev is_outside : ℕ → ℕ → Bool
  is_outside h i = (number_at groups i == h) && not (number_at classes i == number_at chosen h)

  abbrev outside_count : ℕ → ℕ
  outside_count h = count_below (is_outside h) (length groups)

  flags_of : List Bool
  flags_of = map (λ h. nat_lt 0 (outside_count h)) (range_with_len 0 (length chosen))

  flags-size : length flags_of ≡ length chosen
  unfolding flags_of
  flags-size = length-map-range_with_len (λ (h : ℕ). nat_lt 0 (outside_count h)) 0 (length chosen)

  flags-at : (h : ℕ) → h < length chosen → flag_at flags_of h ≡ nat_lt 0 (outside_count h)
  unfolding flags_of
  flags-at h h_in = get_or-map-range_with_len (λ (h : ℕ). nat_lt 0 (outside_count h)) 0 (length chosen) h h false h_in (omega arith)

  flags-low : (h : ℕ) → flag_at flags_of h ≡ true → h < length chosen
  flags-low h set = elim (cases_lt h (length chosen)) [
    | inl h_in ↦ h_in
    | inr past ↦ absurd (true≢false (sym set ∙ get_or_past flags_of h false (omega (arith, past, flags-size))))
  ]

  are-outside : AreOutside groups classes chosen (length groups) flags_of
  are-outside = record {
    seen = λ h set.
        let some : nat_lt 0 (outside_count h) ≡ true = sym (flags-at h (flags-low h set)) ∙ set in
        elim (found_below (is_outside h) (length groups)) [
          | inl found ↦
              let passes = found.2 in (
                found.0,
                found.1,
                grind (arith, nat_tests, passes),
                λ same. let chosen_too : (number_at classes found.0 == number_at chosen h) ≡ true = eq-eqb _ _ same in absurd (grind (arith, nat_tests, passes, chosen_too)),
              )
          | inr none ↦ absurd (let zero_count = count_below-none (length groups) (is_outside h) none in grind (arith, nat_tests, some, zero_count))
        ];
    all = λ i i_in other.
        let h = number_at groups i in
        let passes : is_outside h i ≡ true = and_from _ _ (eq-eqb h h refl) (ap not (other_number (number_at classes i) (number_at chosen h) other)) in
        let more = count_below-pos (length groups) (is_outside h) i i_in passes in
        flags-at h (low i i_in) ∙ grind (arith, nat_tests, more);
  }

  flags-are : AreFlags firsts (HasTwoClasses groups classes) flags_of
  flags-are = two_classes groups firsts classes chosen flags_of are flags-size are-outside

-- ---- the numbers
classes_from : (x y : Attributes) (r : Relation) (groups firsts classes class_firsts : List ℕ) → AreGroups r x groups → AreFirsts groups firsts
    → AreGroups r (union x y) classes → AreFirsts classes class_firsts → Classes x y r
classes_from x y r groups firsts classes class_firsts by_left group_rows by_both class_rows =
    let owners = map (number_at groups) class_firsts in
    let leaders = map (number_at classes) firsts in
    let sizes = sizes_of classes (length class_firsts) in
    let leading = leaders_are_firsts x y r groups firsts classes class_firsts by_left group_rows by_both class_rows in
    let largest = largest_below owners sizes leaders (leaders_first x y r groups firsts classes class_firsts by_left group_rows by_both class_rows sizes)
    leading.each (length owners) (omega arith) in
    let chosen = largest.0 in
    let size : length chosen ≡ length firsts = largest.1 ∙ length-map firsts (number_at classes) in
    let are = are_chosen x y r groups firsts classes class_firsts by_left group_rows by_both class_rows sizes chosen (sizes-are classes (length class_firsts)) size largest.2 in
    let low : (i : ℕ) → i < length groups → number_at groups i < length chosen = λ i i_in. omega (arith, group_rows.each i i_in, size) in
    record {
      groups = groups;
      firsts = firsts;
      classes = classes;
      class_firsts = class_firsts;
      chosen = chosen;
      broken = flags_of groups firsts classes chosen are low;
      by_left = by_left;
      group_rows = group_rows;
      by_both = by_both;
      class_rows = class_rows;
      largest = are;
      flags = flags-are groups firsts classes chosen are low;
    }

pub some_classes : (s : Schema) (cell : Cells) (r : Relation) (x y : Attributes) → AreSeparate s cell r x → AreSeparate s cell r (union x y) → Classes x y r
some_classes s cell r x y apart_x apart_w =
    let by_x = numbers_of_rows s cell r x apart_x in
    let by_w = numbers_of_rows s cell r (union x y) apart_w in
    classes_from x y r by_x.0 by_x.1 by_w.0 by_w.1 by_x.2 by_x.3 by_w.2 by_w.3
