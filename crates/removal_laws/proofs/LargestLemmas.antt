-- The largest class of each group stays: what stays obeys the dependency, and no more rows can.
use Rattle.std.proofs.Common.{◌≡◌, ℕ, ◌<◌, ◌≤◌, true, false, ◌&&◌, ◌==◌, List, length, sym, ap, subst, ◌∙◌, ⊎_elim, arith}
use Rattle.std.proofs.lemmas.Bool.{cases_eq, and_parts, eq-eqb}
use Rattle.std.proofs.lemmas.Bool.Decides.{nat_tests}
use Rattle.attr_sets.specs.Attributes.{Attributes, union, count_below}
use Rattle.attr_sets.proofs.AttributesLemmas.{count_below-equal, count_below-none}
use Rattle.row_groups.specs.Numberings.{AreGroups, number_at}
use Rattle.dep_model.specs.Dependencies.{ObeysFd, fd}
use Rattle.dep_model.specs.Tuples.{Tuple, Relation, AgreeOn}
use Rattle.dep_model.proofs.TwoRowLemmas.{AgreeOn-union}
use Rattle.row_store.specs.Rows.{row_at}
use Rattle.removal_laws.specs.Classes.{AreLargestClasses, in_chosen, rows_of}
use Rattle.removal_laws.specs.Removals.{Positions, IsLeastRemoval, rows_at}
use Rattle.removal_laws.proofs.CountLemmas.{count-le, count_by_groups, found_below, in_group, total-le, total-same}
use Rattle.removal_laws.proofs.StayingLemmas.{count_staying, stands, stay}

-- two rows that agree on both sides agree on each
pub union_parts : (x y : Attributes) (t u : Tuple) → AgreeOn (union x y) t u → AgreeOn x t u × AgreeOn y t u
union_parts x y t u agree = (λ k m. agree k (grind (arith, m)), λ k m. agree k (grind (arith, m)))

module _ (x y : Attributes) (r : Relation) (groups classes chosen : List ℕ)
    (by_left : AreGroups r x groups) (by_both : AreGroups r (union x y) classes)
    (are : AreLargestClasses groups classes chosen) where
  abbrev group : ℕ → ℕ
  group i = number_at groups i

  abbrev class : ℕ → ℕ
  class i = number_at classes i

  abbrev stays : Positions
  stays = in_chosen groups classes chosen

  abbrev count : ℕ
  count = length r

  -- rows of one class are in one group
  pub one_group : (i j : ℕ) → i < count → j < count → class i ≡ class j → group i ≡ group j
  one_group i j i_in j_in same =
      (by_left.equal i j i_in j_in).1 (union_parts x y (row_at r i) (row_at r j) ((by_both.equal i j i_in j_in).0 same)).0

  -- rows that stay and are of one group are of one class
  one_class : (i j : ℕ) → i < count → j < count → stays i ≡ true → stays j ≡ true → group i ≡ group j → class i ≡ class j
  one_class i j i_in j_in i_stays j_stays same =
      let first : class i ≡ number_at chosen (group i) = grind (arith, nat_tests, i_stays) in
      let second : class j ≡ number_at chosen (group j) = grind (arith, nat_tests, j_stays) in
      first ∙ ap (λ (h : ℕ). number_at chosen h) same ∙ sym second

  -- what stays obeys the dependency
  agree_right : (t u : Tuple) (at : (k : ℕ) × (k < count) × (stays k ≡ true) × (row_at r k ≡ t))
      (also : (k : ℕ) × (k < count) × (stays k ≡ true) × (row_at r k ≡ u)) → AgreeOn x t u → AgreeOn y t u
  agree_right t u (i, i_in, i_stays, i_is) (j, j_in, j_stays, j_is) agree =
      let same_rows : AgreeOn x (row_at r i) (row_at r j) =
      subst (λ (v : Tuple). AgreeOn x v (row_at r j)) (sym i_is) (subst (λ (v : Tuple). AgreeOn x t v) (sym j_is) agree) in
      let same_class = one_class i j i_in j_in i_stays j_stays ((by_left.equal i j i_in j_in).1 same_rows) in
      let right = (union_parts x y (row_at r i) (row_at r j) ((by_both.equal i j i_in j_in).0 same_class)).1 in
      subst (λ (v : Tuple). AgreeOn y v u) i_is (subst (λ (v : Tuple). AgreeOn y (row_at r i) v) j_is right)

  pub staying_obeys : ObeysFd x y (rows_at stays r)
  staying_obeys t u t_in u_in agree = agree_right t u (stands stays r t t_in) (stands stays r u u_in) agree

  -- ---- no more rows obey
  -- positions of which no two are of one group and of different classes
  abbrev AreOfOneClass : Positions → Type 0
  AreOfOneClass other = (i j : ℕ) → i < count → j < count → other i ≡ true → other j ≡ true → group i ≡ group j → class i ≡ class j

  of_obeying : (other : Positions) → ObeysFd x y (rows_at other r) → AreOfOneClass other
  of_obeying other obeys i j i_in j_in i_there j_there same =
      let agree = (by_left.equal i j i_in j_in).0 same in
      let right = obeys (row_at r i) (row_at r j) (stay other r i i_in i_there) (stay other r j j_in j_there) agree in
      (by_both.equal i j i_in j_in).1 (AgreeOn-union x y (row_at r i) (row_at r j) agree right)

  -- how many stay in a group
  is_chosen : (h k : ℕ) → h < length chosen → k < count → in_group stays group h k ≡ (class k == number_at chosen h)
  is_chosen h k h_in k_in =
      let within = (are.largest h h_in).within in
      let i_in : within.0 < count = subst (λ (n : ℕ). within.0 < n) by_left.one_each within.1 in
      let inside : class k ≡ number_at chosen h → group k ≡ h =
      λ same. one_group k within.0 k_in i_in (same ∙ sym within.3) ∙ within.2 in
      ⊎_elim
      (λ (here : group k ≡ h). ap (λ (g : ℕ). (class k == number_at chosen g) && (g == h)) here
      ∙ grind (arith, nat_tests))
      (λ (elsewhere : group k ≡ h → ⊥). grind (arith, nat_tests, elsewhere, inside))
      (cases_eq (group k) h)

  stay_in_group : (h : ℕ) → h < length chosen → count_below (in_group stays group h) count ≡ rows_of classes (number_at chosen h)
  stay_in_group h h_in =
      count_below-equal count (in_group stays group h) (λ k. class k == number_at chosen h) (λ k lt. is_chosen h k h_in lt)
      ∙ ap (count_below (λ k. class k == number_at chosen h)) (sym by_both.one_each)

  -- and how many of others can
  few_in_group : (other : Positions) → AreOfOneClass other → (h : ℕ) → h < length chosen
      → count_below (in_group other group h) count ≤ rows_of classes (number_at chosen h)
  few_in_group other are_one h h_in =
      ⊎_elim
      (λ (some : (k : ℕ) × (k < count) × (in_group other group h k ≡ true)). few_beside other are_one h h_in some.0 some.1 some.2)
      (λ (none : (k : ℕ) → k < count → in_group other group h k ≡ false).
      omega (arith, count_below-none count (in_group other group h) none))
      (found_below (in_group other group h) count)
    where
      few_beside : (others : Positions) → AreOfOneClass others → (g : ℕ) → g < length chosen → (i : ℕ) → i < count → in_group others group g i ≡ true
          → count_below (in_group others group g) count ≤ rows_of classes (number_at chosen g)
      few_beside others are_alike g g_in i i_in passes =
          let i_there = and_parts (others i) (group i == g) passes in
          let i_group : group i ≡ g = grind (arith, nat_tests, i_there.1) in
          let low : i < length groups = subst (λ (n : ℕ). i < n) (sym by_left.one_each) i_in in
          let largest = (are.largest g g_in).largest i low i_group in
          let alike : (k : ℕ) → k < count → in_group others group g k ≡ true → (class k == class i) ≡ true =
          λ k lt there.
          let both = and_parts (others k) (group k == g) there in
          let k_group : group k ≡ g = grind (arith, nat_tests, both.1) in
          eq-eqb (class k) (class i) (are_alike k i lt i_in both.0 i_there.0 (k_group ∙ sym i_group)) in
          let few = count-le count (in_group others group g) (λ k. class k == class i) alike in
          let same : count_below (λ k. class k == class i) count ≡ rows_of classes (class i) =
          ap (count_below (λ k. class k == class i)) (sym by_both.one_each) in
          omega (arith, few, same, largest)

  groups_low : (k : ℕ) → k < count → group k < length chosen
  groups_low k lt = are.for_each k (subst (λ (n : ℕ). k < n) (sym by_left.one_each) lt)

  pub staying_is_most : (other : Positions) → AreOfOneClass other → count_below other count ≤ count_below stays count
  staying_is_most other are_one =
      let sizes : ℕ → ℕ = λ h. rows_of classes (number_at chosen h) in
      let all = count_by_groups other group (length chosen) count groups_low in
      let few = total-le (λ h. count_below (in_group other group h) count) sizes (length chosen) (few_in_group other are_one) in
      let chosen_all = count_by_groups stays group (length chosen) count groups_low in
      let same = total-same (λ h. count_below (in_group stays group h) count) sizes (length chosen) stay_in_group in
      omega (arith, all, few, chosen_all, same)

  pub least : (n : ℕ) → IsLeastRemoval n (fd x y) r stays
  least n = record {
    obeys = staying_obeys;
    most = λ other obeys. omega (arith, count_staying other r, count_staying stays r, staying_is_most other (of_obeying other obeys));
  }
