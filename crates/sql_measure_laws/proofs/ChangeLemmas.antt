-- The numbers that the query of a functional dependency gives are those of the measure.
use Rattle.std.proofs.Common.{◌≡◌, ◌<◌, ◌+◌, ◌==◌, ◌&&◌, not, ℕ, Bool, true, false, List, length, map, refl, sym, ap, subst, ◌∙◌, inl, inr, arith}
use Rattle.std.proofs.lemmas.Bool.{cases_Bool, true≢false, and_parts, eqb-true, eq-eqb, lt-ltb, ltb-true}
use Rattle.std.specs.Prelude.{ℤ, pos, ◌-ℤ◌, Contains}
use Rattle.attr_sets.specs.Attributes.{Attributes, union, difference, intersection, count_below, IsSubset}
use Rattle.attr_sets.proofs.AttributesLemmas.{count_below-equal, count_below-none, count_below-difference, same_truth}
use Rattle.schema_model.specs.Schemas.{Schema}
use Rattle.dep_model.specs.Tuples.{Tuple, Relation}
use Rattle.dep_model.proofs.DistinctLemmas.{filter-member, filter-keeps}
use Rattle.dep_model.proofs.ListLemmas.{Contains-map, map-member}
use Rattle.legality.specs.Parts.{flag_at}
use Rattle.legality.proofs.PairLemmas.{member_of}
use Rattle.removal_laws.specs.Classes.{in_chosen, rows_of}
use Rattle.removal_laws.specs.Counts.{total}
use Rattle.removal_laws.proofs.CountLemmas.{in_group, count_by_groups, total-same}
use Rattle.removal_laws.proofs.LargestLemmas.{one_group}
use Rattle.row_groups.specs.Numberings.{number_at}
use Rattle.row_measures.specs.Answers.{measure_by_classes}
use Rattle.row_measures.specs.Broken.{HasTwoClasses, flagged_groups, flagged_rows, rows_outside}
use Rattle.row_measures.specs.Sorted.{Classes}
use Rattle.row_store.specs.Rows.{row_at}
use Rattle.sql_evaluation.specs.Cells.{Cell, number, same_row}
use Rattle.sql_check_laws.proofs.CellLemmas.{same_row-decides}
use Rattle.sql_check_laws.proofs.CountLemmas.{two_of, of_two}
use Rattle.sql_check_laws.proofs.EachLemmas.{filter-known}
use Rattle.sql_check_laws.proofs.GroupLemmas.{Cells, pick, pick-cells, value-row, row-value, class_of}
use Rattle.sql_check_laws.proofs.ValuesLemmas.{cells_on, values_of}
use Rattle.sql_measure_laws.specs.Measured.{rows_of_measure}
use Rattle.sql_measure_laws.proofs.SumLemmas.{when, sum_over, times-total, max-is, total-sum}
use Rattle.sql_measure_laws.proofs.GroupedLemmas.{rows_if, pos-less, rows-stated}
use Rattle.sql_measure_laws.proofs.ClassLemmas.{stands, is_broken, rows_in, largest_in, broken_values, change_rows}
use Rattle.sql_measure_laws.proofs.NumberLemmas.{AreSeparate, number_in, same-number, key-of-row, number-of-key, row-of-tuple, stands-rows}
use Rattle.sql_measure_laws.proofs.FlagLemmas.{passing-sum, passing-count, passing-rows}

not_true : (b : Bool) → not b ≡ true → b ≡ false
not_true true e = absurd (true≢false (sym e))
not_true false e = refl

module _ (s : Schema) (cell : Cells) (r : Relation) (x y : Attributes) (c : Classes x y r)
    (apart_x : AreSeparate s cell r x) (apart_w : AreSeparate s cell r (union x y)) where
  abbrev w : Attributes
  w = union x y

  within : IsSubset x w
  within k m = grind (arith, m)

  -- the values of a group, and of a class
  abbrev group_key : ℕ → List Cell
  group_key h = cells_on s cell x (row_at r (number_at c.firsts h))

  abbrev class_key : ℕ → List Cell
  class_key d = cells_on s cell w (row_at r (number_at c.class_firsts d))

  abbrev groups : ℕ
  groups = length c.firsts

  abbrev flag : ℕ → Bool
  flag h = flag_at c.broken h

  abbrev in_class : List Cell → List Cell → Bool
  in_class key row = same_row (pick s w x row) key

  flag_in : (h : ℕ) → h < groups → h < length c.broken
  flag_in h low = omega (arith, low, c.flags.one_each)

  chosen_in : (h : ℕ) → h < groups → h < length c.chosen
  chosen_in h low = omega (arith, low, c.largest.one_each)

  in_groups : (i : ℕ) → i < length r → i < length c.groups
  in_groups i low = omega (arith, low, c.by_left.one_each)

  in_rows : (i : ℕ) → i < length c.groups → i < length r
  in_rows i low = omega (arith, low, c.by_left.one_each)

  -- a row whose values on x are those of a group is of it
  of-group : (i h : ℕ) → i < length r → h < groups → cells_on s cell x (row_at r i) ≡ group_key h → number_at c.groups i ≡ h
  of-group i h i_in h_in same = number-of-key s cell r x c.groups c.firsts apart_x c.by_left c.group_rows i h i_in h_in same

  group-of : (i h : ℕ) → i < length r → number_at c.groups i ≡ h → cells_on s cell x (row_at r i) ≡ group_key h
  group-of i h i_in at = key-of-row s cell r x c.groups c.firsts apart_x c.by_left c.group_rows i i_in ∙ ap group_key at

  class-of : (i : ℕ) → i < length r → cells_on s cell w (row_at r i) ≡ class_key (number_at c.classes i)
  class-of i i_in = key-of-row s cell r w c.classes c.class_firsts apart_w c.by_both c.class_rows i i_in

  -- ---- a group is broken where it has two classes
  broken-two : (h : ℕ) → h < groups → is_broken s cell x w r (group_key h) ≡ true → HasTwoClasses c.groups c.classes h
  broken-two h h_in is =
      let two = two_of same_row same_row-decides (in_class (group_key h)) (map (cells_on s cell w) r) (ltb-true 1 (length (class_of s cell w x r (group_key h))) is) in
      let t = map-member (cells_on s cell w) r two.0 two.2 in
      let u = map-member (cells_on s cell w) r two.1 two.3 in
      let i = row-of-tuple s cell r w c.classes c.class_firsts apart_w c.by_both c.class_rows t.0 t.1 in
      let j = row-of-tuple s cell r w c.classes c.class_firsts apart_w c.by_both c.class_rows u.0 u.1 in
      let on_x = λ (k : ℕ) (row : List Cell) (at : cells_on s cell w (row_at r k) ≡ row) (passes : in_class (group_key h) row ≡ true).
      sym (pick-cells s cell w x (row_at r k) within) ∙ ap (pick s w x) at ∙ (same_row-decides (pick s w x row) (group_key h)).0 passes in (
        i.0,
        j.0,
        in_groups i.0 i.1,
        in_groups j.0 j.1,
        of-group i.0 h i.1 h_in (on_x i.0 two.0 (i.2 ∙ t.2) two.4),
        of-group j.0 h j.1 h_in (on_x j.0 two.1 (j.2 ∙ u.2) two.5),
        λ same. two.6 (sym t.2 ∙ sym i.2 ∙ class-of i.0 i.1 ∙ ap class_key same ∙ sym (class-of j.0 j.1) ∙ j.2 ∙ u.2),
      )

  two-broken : (h : ℕ) → h < groups → HasTwoClasses c.groups c.classes h → is_broken s cell x w r (group_key h) ≡ true
  two-broken h h_in (i, j, i_in, j_in, i_group, j_group, differ) =
      let i_low = in_rows i i_in in
      let j_low = in_rows j j_in in
      let passes = λ (k : ℕ) (k_in : k < length r) (at : number_at c.groups k ≡ h).
      (same_row-decides (pick s w x (cells_on s cell w (row_at r k))) (group_key h)).1 (pick-cells s cell w x (row_at r k) within ∙ group-of k h k_in at) in
      let more : 1 < length (class_of s cell w x r (group_key h)) =
      of_two same_row same_row-decides (in_class (group_key h)) (map (cells_on s cell w) r) (cells_on s cell w (row_at r i)) (cells_on s cell w (row_at r j))
      (Contains-map (cells_on s cell w) r (row_at r i) (member_of r i i_low)) (Contains-map (cells_on s cell w) r (row_at r j) (member_of r j j_low))
      (passes i i_low i_group) (passes j j_low j_group)
      (λ same. differ (same-number s cell r w c.classes c.class_firsts apart_w c.by_both c.class_rows i j i_low j_low same)) in
      lt-ltb 1 (length (class_of s cell w x r (group_key h))) more

  broken-flag : (h : ℕ) → h < groups → is_broken s cell x w r (group_key h) ≡ flag h
  broken-flag h h_in =
      same_truth (is_broken s cell x w r (group_key h)) (flag h)
      (λ is. (c.flags.told h (flag_in h h_in)).1 (broken-two h h_in is))
      (λ is. two-broken h h_in ((c.flags.told h (flag_in h h_in)).0 is))

  -- a sum over the broken groups
  broken-sum : (f : List Cell → ℕ) → sum_over f (broken_values s cell x w r) ≡ total (λ h. when (flag h) (f (group_key h))) groups
  broken-sum f = passing-sum s cell r x c.groups c.firsts apart_x c.by_left c.group_rows c.broken c.flags.one_each (is_broken s cell x w r) broken-flag f

  -- ---- how many groups are broken, and the rows in them
  groups-counted : length (broken_values s cell x w r) ≡ flagged_groups c.broken
  groups-counted = passing-count s cell r x c.groups c.firsts apart_x c.by_left c.group_rows c.broken c.flags.one_each (is_broken s cell x w r) broken-flag

  rows-of-group : (h : ℕ) → h < groups → rows_in s cell x w r (group_key h) ≡ rows_of c.groups h
  rows-of-group h h_in =
      times-total same_row same_row-decides (cells_on s cell w) (in_class (group_key h)) r
      ∙ ap length (filter-known (λ (t : Tuple). in_class (group_key h) (cells_on s cell w t)) (λ (t : Tuple). same_row (cells_on s cell x t) (group_key h)) r
      (λ t m. ap (λ (row : List Cell). same_row row (group_key h)) (pick-cells s cell w x t within)))
      ∙ stands-rows s cell r x c.groups c.firsts apart_x c.by_left c.group_rows h h_in

  rows-counted : sum_over (rows_in s cell x w r) (broken_values s cell x w r) ≡ flagged_rows c.groups c.broken
  rows-counted =
      passing-rows s cell r x c.groups c.firsts apart_x c.by_left c.group_rows c.broken c.flags.one_each (is_broken s cell x w r) broken-flag
      (rows_in s cell x w r) rows-of-group

  -- ---- the rows of the largest class
  abbrev chosen : ℕ → ℕ
  chosen h = number_at c.chosen h

  abbrev stays : ℕ → Bool
  stays i = in_chosen c.groups c.classes c.chosen i

  -- the values of a row stand as often as its class has rows
  class-stands : (i : ℕ) → i < length r → stands s cell w r (cells_on s cell w (row_at r i)) ≡ rows_of c.classes (number_at c.classes i)
  class-stands i i_in =
      ap (stands s cell w r) (class-of i i_in)
      ∙ stands-rows s cell r w c.classes c.class_firsts apart_w c.by_both c.class_rows (number_at c.classes i)
      (number_in s cell r w c.classes c.class_firsts apart_w c.by_both c.class_rows i i_in)

  -- each class of a group is that of a row of it
  row-of-class : (h : ℕ) (row : List Cell) → h < groups → Contains (class_of s cell w x r (group_key h)) row
      → (i : ℕ) × (i < length r) × (cells_on s cell w (row_at r i) ≡ row) × (number_at c.groups i ≡ h)
  row-of-class h row h_in there =
      let at = filter-member (in_class (group_key h)) (values_of s cell w r) row there in
      let v = value-row s cell w r row at.0 in
      let i = row-of-tuple s cell r w c.classes c.class_firsts apart_w c.by_both c.class_rows v.0 v.1 in
      let is_row : cells_on s cell w (row_at r i.0) ≡ row = i.2 ∙ v.2 in
      let on_x : cells_on s cell x (row_at r i.0) ≡ group_key h =
      sym (pick-cells s cell w x (row_at r i.0) within) ∙ ap (pick s w x) is_row ∙ (same_row-decides (pick s w x row) (group_key h)).0 at.1 in
      (i.0, i.1, is_row, of-group i.0 h i.1 h_in on_x)

  largest-of-group : (h : ℕ) → h < groups → largest_in s cell x w r (group_key h) ≡ rows_of c.classes (chosen h)
  largest-of-group h h_in =
      let of_h = c.largest.largest.largest h (chosen_in h h_in) in
      let (i, i_in, i_group, i_class) = of_h.within in
      let i_low = in_rows i i_in in
      let row = cells_on s cell w (row_at r i) in
      let there : Contains (class_of s cell w x r (group_key h)) row =
      filter-keeps (in_class (group_key h)) (values_of s cell w r) row (row-value s cell w r (row_at r i) (member_of r i i_low))
      ((same_row-decides (pick s w x row) (group_key h)).1 (pick-cells s cell w x (row_at r i) within ∙ group-of i h i_low i_group)) in
      max-is (stands s cell w r) (class_of s cell w x r (group_key h)) row (rows_of c.classes (chosen h)) there
      (class-stands i i_low ∙ ap (rows_of c.classes) i_class)
      (λ z z_in.
      let (j, j_in, j_row, j_group) = row-of-class h z h_in z_in in
      let most = of_h.largest j (in_groups j j_in) j_group in
      let size : stands s cell w r z ≡ rows_of c.classes (number_at c.classes j) = ap (stands s cell w r) (sym j_row) ∙ class-stands j j_in in
      omega (arith, most, size))

  -- ---- the rows outside it
  abbrev outside : ℕ → ℕ
  outside h = count_below (in_group (λ i. not (stays i)) (number_at c.groups) h) (length c.groups)

  -- those that are of the chosen class of a group are of the group
  chosen-class : (h i : ℕ) → h < groups → i < length r → intersection (λ k. number_at c.groups k == h) stays i ≡ (number_at c.classes i == chosen h)
  chosen-class h i h_in i_in =
      let of_h = c.largest.largest.largest h (chosen_in h h_in) in
      let (j, j_in, j_group, j_class) = of_h.within in
      same_truth (intersection (λ (k : ℕ). number_at c.groups k == h) stays i) (number_at c.classes i == chosen h)
      (λ both. both_to (number_at c.groups i) (number_at c.classes i) both)
      (λ is.
      let class_is : number_at c.classes i ≡ chosen h = eqb-true _ _ is in
      let group_is : number_at c.groups i ≡ h =
      one_group x y r c.groups c.classes c.chosen c.by_left c.by_both c.largest.largest i j i_in (in_rows j j_in) (class_is ∙ sym j_class) ∙ j_group in
      both_from (number_at c.groups i) (number_at c.classes i) group_is is)
    where
      both_to : (g d : ℕ) → ((g == h) && (d == chosen g)) ≡ true → (d == chosen h) ≡ true
      both_to g d both = elim (cases_Bool (g == h)) [
        | inl is ↦ ap (λ (k : ℕ). d == chosen k) (sym (eqb-true g h is)) ∙ subst (λ (b : Bool). (b && (d == chosen g)) ≡ true) is both
        | inr other ↦ absurd (true≢false (sym (subst (λ (b : Bool). (b && (d == chosen g)) ≡ true) other both)))
      ]

      both_from : (g d : ℕ) → g ≡ h → (d == chosen h) ≡ true → ((g == h) && (d == chosen g)) ≡ true
      both_from g d at is =
          ap (λ (b : Bool). b && (d == chosen g)) (eq-eqb g h at) ∙ ap (λ (k : ℕ). d == chosen k) at ∙ is

  -- of a group that is broken the rows of the largest class and the others are all
  broken-rows : (h : ℕ) → h < groups → rows_of c.classes (chosen h) + outside h ≡ rows_of c.groups h
  broken-rows h h_in =
      let n = length c.groups in
      let of_group : Attributes = λ i. number_at c.groups i == h in
      let inside : count_below (intersection of_group stays) n ≡ rows_of c.classes (chosen h) =
      count_below-equal n (intersection of_group stays) (λ (i : ℕ). number_at c.classes i == chosen h) (λ i low. chosen-class h i h_in (in_rows i low))
      ∙ ap (count_below (λ (i : ℕ). number_at c.classes i == chosen h)) (c.by_left.one_each ∙ sym c.by_both.one_each) in
      let beyond : outside h ≡ count_below (difference of_group stays) n =
      count_below-equal n (in_group (λ (i : ℕ). not (stays i)) (number_at c.groups) h) (difference of_group stays) (λ i low. and_turned (not (stays i)) (number_at c.groups i == h)) in
      omega (arith, inside, beyond, count_below-difference n of_group stays)
    where
      and_turned : (a b : Bool) → (a && b) ≡ (b && a)
      and_turned true true = refl
      and_turned true false = refl
      and_turned false true = refl
      and_turned false false = refl

  -- of another group there are none
  whole-group : (h : ℕ) → h < groups → flag h ≡ false → outside h ≡ 0
  whole-group h h_in unset =
      let of_h = c.largest.largest.largest h (chosen_in h h_in) in
      let (j, j_in, j_group, j_class) = of_h.within in
      count_below-none (length c.groups) (in_group (λ (i : ℕ). not (stays i)) (number_at c.groups) h) (λ i low. elim (cases_Bool (in_group (λ (k : ℕ). not (stays k)) (number_at c.groups) h i)) [
        | inl there ↦
            let parts = and_parts (not (stays i)) (number_at c.groups i == h) there in
            let i_group : number_at c.groups i ≡ h = eqb-true _ _ parts.1 in
            let i_out : stays i ≡ false = not_true (stays i) parts.0 in
            let differ : number_at c.classes i ≡ number_at c.classes j → ⊥ =
            λ same. true≢false (sym (eq-eqb (number_at c.classes i) (chosen (number_at c.groups i)) (same ∙ j_class ∙ ap chosen (sym i_group))) ∙ i_out) in
            absurd (true≢false (sym ((c.flags.told h (flag_in h h_in)).1 (i, j, low, j_in, i_group, j_group, differ)) ∙ unset))
        | inr nope ↦ nope
      ])

  split-group : (h : ℕ) → h < groups → when (flag h) (rows_in s cell x w r (group_key h)) ≡ when (flag h) (largest_in s cell x w r (group_key h)) + outside h
  split-group h h_in = elim (cases_Bool (flag h)) [
    | inl set ↦ rw set (omega (arith, rows-of-group h h_in, largest-of-group h h_in, broken-rows h h_in))
    | inr unset ↦ rw unset (omega (arith, whole-group h h_in unset))
  ]

  amount-counted : sum_over (rows_in s cell x w r) (broken_values s cell x w r)
      ≡ sum_over (largest_in s cell x w r) (broken_values s cell x w r) + rows_outside c.groups c.classes c.chosen
  amount-counted =
      let f = rows_in s cell x w r in
      let g = largest_in s cell x w r in
      let all = count_by_groups (λ (i : ℕ). not (stays i)) (number_at c.groups) groups (length c.groups) c.group_rows.each in
      broken-sum f
      ∙ total-same (λ (h : ℕ). when (flag h) (f (group_key h))) (λ (h : ℕ). when (flag h) (g (group_key h)) + outside h) groups split-group
      ∙ total-sum (λ (h : ℕ). when (flag h) (g (group_key h))) outside groups
      ∙ ap (λ (n : ℕ). n + total outside groups) (sym (broken-sum g))
      ∙ ap (λ (n : ℕ). sum_over g (broken_values s cell x w r) + n) (sym all)

  -- ---- the row
  pub change-measured : change_rows (rows_in s cell x w r) (largest_in s cell x w r) (broken_values s cell x w r) ≡ rows_of_measure (measure_by_classes c)
  change-measured =
      let keys = broken_values s cell x w r in
      let f = sum_over (rows_in s cell x w r) keys in
      let g = sum_over (largest_in s cell x w r) keys in
      let out = rows_outside c.groups c.classes c.chosen in
      let less : pos f -ℤ pos g ≡ pos out = pos-less f g out amount-counted in
      ap (λ (z : ℤ). rows_if (length keys) (number (pos f)) (number z)) less
      ∙ ap (λ (n : ℕ). rows_if n (number (pos f)) (number (pos out))) groups-counted
      ∙ ap (λ (n : ℕ). rows_if (flagged_groups c.broken) (number (pos n)) (number (pos out))) rows-counted
      ∙ rows-stated (flagged_groups c.broken) (flagged_rows c.groups c.broken) out
