-- As many rows must change as must go: each that does not stay may become the row of a largest class.
use Rattle.std.proofs.Common.{◌≡◌, ℕ, zero, suc, ◌<◌, ◌≤◌, ◌⊎◌, true, false, List, [], ◌∷◌, length, map, refl, sym, ap, subst, ◌∙◌, inl, inr, ⊎_elim, arith}
use Rattle.std.proofs.lemmas.Bool.{cases_Bool, cases_lt, true≢false}
use Rattle.std.proofs.lemmas.Bool.Decides.{nat_tests}
use Rattle.std.proofs.lemmas.List.Elements.{All-from_get_or}
use Rattle.std.proofs.lemmas.List.FromFn.{length-map-range_with_len, get_or-map-range_with_len}
use Rattle.std.specs.List.{range_with_len}
use Rattle.std.specs.Prelude.{Contains}
use Rattle.attr_sets.specs.Attributes.{Attributes, union, count_below}
use Rattle.row_groups.specs.Numberings.{AreGroups, number_at}
use Rattle.dep_model.specs.Dependencies.{ObeysFd}
use Rattle.dep_model.specs.Tuples.{Tuple, Relation, AgreeOn, IsOver}
use Rattle.dep_model.proofs.ListLemmas.{Contains-head, Contains-later, Contains-cases}
use Rattle.dep_model.proofs.TupleLemmas.{IsOver-length}
use Rattle.dep_model.proofs.TwoRowLemmas.{AgreeOn-union}
use Rattle.row_store.specs.Rows.{row_at}
use Rattle.removal_laws.specs.Classes.{AreLargestClasses, in_chosen}
use Rattle.removal_laws.specs.Removals.{Positions, IsChanged, IsLeastChange}
use Rattle.removal_laws.proofs.LargestLemmas.{staying_is_most, union_parts}

-- ---- rows by their positions
row_in : (r : Relation) (i : ℕ) → i < length r → Contains r (row_at r i)
row_in [] i lt = absurd (omega (arith, lt))
row_in (t ∷ r) zero lt = Contains-head t r
row_in (t ∷ r) (suc i) lt = Contains-later t r (row_at r i) (row_in r i (omega (arith, lt)))

abbrev IsRow : Relation → Tuple → Type 0
IsRow r t = (i : ℕ) × (i < length r) × (row_at r i ≡ t)

row_of : (r : Relation) (t : Tuple) → Contains r t → IsRow r t
row_of [] t h = absurd (omega (arith, h.1))
row_of (u ∷ r) t h =
    ⊎_elim (λ (first : t ≡ u). (0, omega arith, sym first))
    (λ (later : Contains r t). let at = row_of r t later in (suc at.0, omega (arith, at.1), at.2))
    (Contains-cases u r t h)

module _ (x y : Attributes) (r : Relation) (groups classes chosen : List ℕ)
    (by_left : AreGroups r x groups) (by_both : AreGroups r (union x y) classes)
    (are : AreLargestClasses groups classes chosen) where
  abbrev group : ℕ → ℕ
  group i = number_at groups i

  abbrev class : ℕ → ℕ
  class i = number_at classes i

  abbrev stays : Positions
  stays = in_chosen groups classes chosen

  abbrev count : ℕ
  count = length r

  -- ---- the row that a row becomes
  -- a position whose row stays, in the group of a row
  record IsSource (i k : ℕ) : Type 0 where
    within : k < count
    group_of : group k ≡ group i
    class_of : class k ≡ number_at chosen (group i)
    kept : stays i ≡ true → k ≡ i

  source_found : (i : ℕ) → i < count → (k : ℕ) × IsSource i k
  source_found i lt =
      ⊎_elim
      (λ (here : stays i ≡ true). (i, record { within = lt; group_of = refl; class_of = grind (arith, nat_tests, here); kept = λ _. refl }))
      (λ (gone : stays i ≡ false).
      let low : i < length groups = subst (λ (n : ℕ). i < n) (sym by_left.one_each) lt in
      let at = (are.largest (group i) (are.for_each i low)).within in
      let at_in : at.0 < count = subst (λ (n : ℕ). at.0 < n) by_left.one_each at.1 in
      (at.0, record { within = at_in; group_of = at.2; class_of = at.3; kept = λ here. absurd (true≢false (sym here ∙ gone)) }))
      (cases_Bool (stays i))

  -- as a function of all positions
  source : ℕ → ℕ
  source i = ⊎_elim (λ (lt : i < count). (source_found i lt).0) (λ (past : count ≤ i). i) (cases_lt i count)

  is_source : (i : ℕ) → i < count → IsSource i (source i)
  unfolding source
  is_source i lt = is_either (cases_lt i count)
    where
      is_either : (either : (i < count) ⊎ (count ≤ i))
          → IsSource i (⊎_elim (λ (low : i < count). (source_found i low).0) (λ (past : count ≤ i). i) either)
      is_either (inl low) = (source_found i low).1
      is_either (inr past) = absurd (omega (arith, lt, past))

  abbrev changed : Relation
  changed = map (λ (i : ℕ). row_at r (source i)) (range_with_len 0 count)

  changed_count : length changed ≡ count
  changed_count = length-map-range_with_len (λ (i : ℕ). row_at r (source i)) 0 count

  changed_row : (i : ℕ) → i < count → row_at changed i ≡ row_at r (source i)
  changed_row i lt = get_or-map-range_with_len (λ (j : ℕ). row_at r (source j)) 0 count i i [] lt (omega arith)

  is_changed : IsChanged x r stays changed
  is_changed = record {
    one_each = changed_count;
    same = λ i lt. ⊎_elim
        (λ (here : stays i ≡ true). inr (changed_row i lt ∙ ap (row_at r) ((is_source i lt).kept here)))
        (λ (gone : stays i ≡ false). inl gone) (cases_Bool (stays i));
    agree = λ i lt.
        let from = is_source i lt in
        subst (λ (t : Tuple). AgreeOn x t (row_at r i)) (sym (changed_row i lt))
        ((by_left.equal (source i) i from.within lt).0 from.group_of);
  }

  -- rows that were changed obey the dependency
  source_agrees : (i j : ℕ) → i < count → j < count → AgreeOn x (row_at r (source i)) (row_at r (source j))
      → AgreeOn y (row_at r (source i)) (row_at r (source j))
  source_agrees i j i_in j_in agree =
      let first = is_source i i_in in
      let second = is_source j j_in in
      let one : group (source i) ≡ group (source j) = (by_left.equal (source i) (source j) first.within second.within).1 agree in
      let same : group i ≡ group j = sym first.group_of ∙ one ∙ second.group_of in
      let alike : class (source i) ≡ class (source j) =
      first.class_of ∙ ap (λ (h : ℕ). number_at chosen h) same ∙ sym second.class_of in
      (union_parts x y (row_at r (source i)) (row_at r (source j))
      ((by_both.equal (source i) (source j) first.within second.within).0 alike)).1

  rows_agree : (t u : Tuple) → IsRow changed t → IsRow changed u → AgreeOn x t u → AgreeOn y t u
  rows_agree t u (i, i_in, i_is) (j, j_in, j_is) agree =
      let i_low : i < count = subst (λ (n : ℕ). i < n) changed_count i_in in
      let j_low : j < count = subst (λ (n : ℕ). j < n) changed_count j_in in
      let t_is : row_at r (source i) ≡ t = sym (changed_row i i_low) ∙ i_is in
      let u_is : row_at r (source j) ≡ u = sym (changed_row j j_low) ∙ j_is in
      let there : AgreeOn x (row_at r (source i)) (row_at r (source j)) =
      subst (λ (v : Tuple). AgreeOn x v (row_at r (source j))) (sym t_is) (subst (λ (v : Tuple). AgreeOn x t v) (sym u_is) agree) in
      subst (λ (v : Tuple). AgreeOn y v u) t_is (subst (λ (v : Tuple). AgreeOn y (row_at r (source i)) v) u_is
      (source_agrees i j i_low j_low there))

  changed_obeys : ObeysFd x y changed
  changed_obeys t u t_in u_in agree = rows_agree t u (row_of changed t t_in) (row_of changed u u_in) agree

  changed_over : (n : ℕ) → IsOver n r → IsOver n changed
  changed_over n over =
      All-from_get_or (λ (t : Tuple). length t ≡ n) changed [] (λ i lt.
      let low : i < count = subst (λ (m : ℕ). i < m) changed_count lt in
      ap (λ (u : Tuple). length u) (changed_row i low)
      ∙ IsOver-length n r (row_at r (source i)) over (row_in r (source i) (is_source i low).within))

  -- ---- fewer are not enough
  pub of_changed : (other : Positions) (s : Relation) → IsChanged x r other s → ObeysFd x y s
      → count_below other count ≤ count_below stays count
  of_changed other s is obeys =
      staying_is_most x y r groups classes chosen by_left by_both are other (λ i j i_in j_in i_there j_there same.
      let i_row = unchanged i i_in i_there in
      let j_row = unchanged j j_in j_there in
      let agree = (by_left.equal i j i_in j_in).0 same in
      let there : AgreeOn x (row_at s i) (row_at s j) =
      subst (λ (v : Tuple). AgreeOn x v (row_at s j)) (sym i_row) (subst (λ (v : Tuple). AgreeOn x (row_at r i) v) (sym j_row) agree) in
      let right = obeys (row_at s i) (row_at s j) (there_in i i_in) (there_in j j_in) there in
      let back : AgreeOn y (row_at r i) (row_at r j) =
      subst (λ (v : Tuple). AgreeOn y v (row_at r j)) i_row (subst (λ (v : Tuple). AgreeOn y (row_at s i) v) j_row right) in
      (by_both.equal i j i_in j_in).1 (AgreeOn-union x y (row_at r i) (row_at r j) agree back))
    where
      unchanged : (i : ℕ) → i < count → other i ≡ true → row_at s i ≡ row_at r i
      unchanged i lt there =
          ⊎_elim (λ (gone : other i ≡ false). absurd (true≢false (sym there ∙ gone))) (λ (same : row_at s i ≡ row_at r i). same) (is.same i lt)

      there_in : (i : ℕ) → i < count → Contains s (row_at s i)
      there_in i lt = row_in s i (subst (λ (n : ℕ). i < n) (sym is.one_each) lt)

  pub least_change : (n : ℕ) → IsOver n r → IsLeastChange n x y r stays
  least_change n over = record {
    reached = (changed, is_changed, changed_over n over, changed_obeys);
    most = of_changed;
  }
