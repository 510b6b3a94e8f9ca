-- The largest class of each group, class by class, and the groups that have more than one.
use Rattle.std.proofs.Common.{◌≡◌, ◌≢◌, ℕ, ◌<◌, ◌≤◌, ◌+◌, ◌⊎◌, Bool, true, List, [], length, map, set, sym, ap, subst, ◌∙◌, inl, inr, ⊎_elim, arith}
use Rattle.std.proofs.lemmas.Bool.{cases_eq, cases_lt}
use Rattle.std.proofs.lemmas.Grind.{get_or-set_at}
use Rattle.std.proofs.lemmas.List.{get_or-map, get_or-set_other, length-map, length-set}
use Rattle.attr_sets.specs.Attributes.{Attributes, union}
use Rattle.row_groups.specs.Numberings.{AreFirsts, AreGroups, number_at}
use Rattle.dep_model.specs.Tuples.{Relation}
use Rattle.legality.specs.Parts.{flag_at}
use Rattle.removal_laws.proofs.LargestLemmas.{union_parts}
use Rattle.row_measures.specs.Broken.{AreChosen, AreFlags, AreRowCounts, HasTwoClasses}
use Rattle.row_measures.specs.ByClass.{AreLargestBelow, AreOutside}

-- ---- one class more
pub class_kept : (n : ℕ) (owners sizes chosen : List ℕ) → AreLargestBelow n owners sizes chosen
    → number_at sizes n ≤ number_at sizes (number_at chosen (number_at owners n)) → n < length owners
    → AreLargestBelow (n + 1) owners sizes chosen
class_kept n owners sizes chosen old small low = record {
  within = old.within;
  owned = old.owned;
  largest = λ c lt. ⊎_elim (λ before. old.largest c before)
      (λ last. let at : n ≡ c = omega (arith, lt, last) in
      subst (λ (k : ℕ). number_at sizes k ≤ number_at sizes (number_at chosen (number_at owners k))) at small)
      (cases_lt c n);
  first = λ c lt equal. ⊎_elim (λ before. old.first c before equal)
      (λ last. old.ahead c last (omega (arith, lt, low)))
      (cases_lt c n);
  ahead = λ c more within. old.ahead c (omega (arith, more)) within;
}

module _ (n : ℕ) (owners sizes chosen : List ℕ) (old : AreLargestBelow n owners sizes chosen)
    (large : number_at sizes (number_at chosen (number_at owners n)) < number_at sizes n) (low : n < length owners)
    (owned : number_at owners n < length chosen) where
  abbrev group : ℕ
  group = number_at owners n

  abbrev new : List ℕ
  new = set chosen group n

  here : (h : ℕ) → h ≡ group → number_at new h ≡ n
  here h is = get_or-set_at chosen group h n 0 is owned

  elsewhere : (h : ℕ) → h ≢ group → number_at new h ≡ number_at chosen h
  elsewhere h other = get_or-set_other chosen group h n 0 other

  old_size : (h : ℕ) → h < length new → h < length chosen
  old_size h lt = omega (arith, lt, length-set chosen group n)

  new_within : (h : ℕ) → h < length new → number_at new h < length owners
  new_within h lt = ⊎_elim (λ is. omega (arith, here h is, low))
      (λ other. omega (arith, elsewhere h other, old.within h (old_size h lt)))
      (cases_eq h group)

  new_owned : (h : ℕ) → h < length new → number_at owners (number_at new h) ≡ h
  new_owned h lt = ⊎_elim (λ is. ap (number_at owners) (here h is) ∙ sym is)
      (λ other. ap (number_at owners) (elsewhere h other) ∙ old.owned h (old_size h lt))
      (cases_eq h group)

  -- a class of this group is no larger than the new one, and is it where it is as large
  small : (c : ℕ) → c < n + 1 → number_at owners c ≡ group
      → (number_at sizes c < number_at sizes n) ⊎ (n ≡ c)
  small c lt is = ⊎_elim
      (λ before. inl (omega (arith, old.largest c before, ap (λ (h : ℕ). number_at sizes (number_at chosen h)) is, large)))
      (λ last. inr (omega (arith, lt, last)))
      (cases_lt c n)

  -- a class of another group stood before
  before_it : (c : ℕ) → c < n + 1 → number_at owners c ≢ group → c < n
  before_it c lt other = ⊎_elim (λ before. before)
      (λ last. absurd (other (ap (number_at owners) (omega (arith, lt, last)))))
      (cases_lt c n)

  new_largest : (c : ℕ) → c < n + 1 → number_at sizes c ≤ number_at sizes (number_at new (number_at owners c))
  new_largest c lt = ⊎_elim
      (λ is. let at = ap (number_at sizes) (here (number_at owners c) is) in
      ⊎_elim (λ less. omega (arith, at, less)) (λ same. omega (arith, at, ap (number_at sizes) same)) (small c lt is))
      (λ other. omega (arith, ap (number_at sizes) (elsewhere (number_at owners c) other), old.largest c (before_it c lt other)))
      (cases_eq (number_at owners c) group)

  new_first : (c : ℕ) → c < n + 1 → number_at sizes c ≡ number_at sizes (number_at new (number_at owners c))
      → number_at new (number_at owners c) ≤ c
  new_first c lt equal = ⊎_elim
      (λ is. let at = here (number_at owners c) is in
      ⊎_elim (λ less. absurd (omega (arith, ap (number_at sizes) at, equal, less))) (λ same. omega (arith, at, same)) (small c lt is))
      (λ other. let at = elsewhere (number_at owners c) other in
      omega (arith, at, old.first c (before_it c lt other) (equal ∙ ap (number_at sizes) at)))
      (cases_eq (number_at owners c) group)

  new_ahead : (c : ℕ) → n + 1 ≤ c → c < length owners → number_at new (number_at owners c) ≤ c
  new_ahead c more lt = ⊎_elim (λ is. omega (arith, here (number_at owners c) is, more))
      (λ other. omega (arith, elsewhere (number_at owners c) other, old.ahead c (omega (arith, more)) lt))
      (cases_eq (number_at owners c) group)

  pub class_replaced : AreLargestBelow (n + 1) owners sizes new
  class_replaced = record {
    within = new_within;
    owned = new_owned;
    largest = new_largest;
    first = new_first;
    ahead = new_ahead;
  }

-- ---- the numbers of rows by their groups and classes
module _ (x y : Attributes) (r : Relation) (groups firsts classes class_firsts : List ℕ)
    (by_left : AreGroups r x groups) (group_rows : AreFirsts groups firsts)
    (by_both : AreGroups r (union x y) classes) (class_rows : AreFirsts classes class_firsts) where
  abbrev owners : List ℕ
  owners = map (number_at groups) class_firsts

  abbrev leaders : List ℕ
  leaders = map (number_at classes) firsts

  pub owner_of : (c : ℕ) → c < length class_firsts → number_at owners c ≡ number_at groups (number_at class_firsts c)
  owner_of c lt = get_or-map (number_at groups) class_firsts c 0 0 lt

  pub leader_of : (h : ℕ) → h < length firsts → number_at leaders h ≡ number_at classes (number_at firsts h)
  leader_of h lt = get_or-map (number_at classes) firsts h 0 0 lt

  class_in : (i : ℕ) → i < length r → number_at classes i < length class_firsts
  class_in i lt = class_rows.each i (omega (arith, lt, by_both.one_each))

  row_in : (c : ℕ) → c < length class_firsts → number_at class_firsts c < length r
  row_in c lt = omega (arith, class_rows.within c lt, by_both.one_each)

  first_in : (h : ℕ) → h < length firsts → number_at firsts h < length r
  first_in h lt = omega (arith, group_rows.within h lt, by_left.one_each)

  one_group : (i j : ℕ) → i < length r → j < length r → number_at classes i ≡ number_at classes j → number_at groups i ≡ number_at groups j
  one_group i j i_in j_in same =
      (by_left.equal i j i_in j_in).1 (union_parts x y _ _ ((by_both.equal i j i_in j_in).0 same)).0

  -- the group of the class of a row is its group
  pub owner_of_row : (i : ℕ) → i < length r → number_at owners (number_at classes i) ≡ number_at groups i
  owner_of_row i lt =
      let c : ℕ = number_at classes i in
      let low = class_in i lt in
      owner_of c low ∙ one_group (number_at class_firsts c) i (row_in c low) lt (class_rows.number c low)

  leader_in : (h : ℕ) → h < length leaders → h < length firsts
  leader_in h lt = omega (arith, lt, length-map firsts (number_at classes))

  in_owners : (c : ℕ) → c < length class_firsts → c < length owners
  in_owners c lt = omega (arith, lt, length-map class_firsts (number_at groups))

  out_owners : (c : ℕ) → c < length owners → c < length class_firsts
  out_owners c lt = omega (arith, lt, length-map class_firsts (number_at groups))

  -- the class of a group's first row comes first
  leads : (c : ℕ) → c < length class_firsts → number_at leaders (number_at owners c) ≤ c
  leads c lt =
      let j : ℕ = number_at class_firsts c in
      let j_in = row_in c lt in
      let h : ℕ = number_at groups j in
      let h_in : h < length firsts = group_rows.each j (omega (arith, j_in, by_left.one_each)) in
      let i : ℕ = number_at firsts h in
      let i_in = first_in h h_in in
      let at : number_at leaders (number_at owners c) ≡ number_at classes i = ap (number_at leaders) (owner_of c lt) ∙ leader_of h h_in in
      ⊎_elim
      (λ less.
      let found = by_both.in_order i c (omega (arith, i_in, by_both.one_each)) less in
      let k : ℕ = found.0 in
      let k_in : k < length r = omega (arith, found.1, i_in) in
      let same : number_at groups k ≡ h = one_group k j k_in j_in (found.2 ∙ sym (class_rows.number c lt)) in
      let least = group_rows.least k (omega (arith, k_in, by_left.one_each)) in
      let there : number_at firsts (number_at groups k) ≡ i = ap (number_at firsts) same in
      absurd (⊎_elim (λ before. omega (arith, before, there, found.1)) (λ equal. omega (arith, equal, there, found.1)) least))
      (λ most. omega (arith, at, most))
      (cases_lt c (number_at classes i))

  pub leaders_first : (sizes : List ℕ) → AreLargestBelow 0 owners sizes leaders
  leaders_first sizes = record {
    within = λ h lt.
        let low = leader_in h lt in
        omega (arith, leader_of h low, in_owners (number_at classes (number_at firsts h)) (class_in (number_at firsts h) (first_in h low)));
    owned = λ h lt.
        let low = leader_in h lt in
        ap (number_at owners) (leader_of h low) ∙ owner_of_row (number_at firsts h) (first_in h low) ∙ group_rows.number h low;
    largest = λ c lt. absurd (omega (arith, lt));
    first = λ c lt equal. absurd (omega (arith, lt));
    ahead = λ c more lt. leads c (out_owners c lt);
  }

  -- the classes of the groups' first rows are the first classes of the groups
  pub leaders_are_firsts : AreFirsts owners leaders
  leaders_are_firsts =
      let are = leaders_first [] in
      record {
        each = λ c lt.
            let low = out_owners c lt in
            omega (arith, owner_of c low, group_rows.each (number_at class_firsts c) (omega (arith, row_in c low, by_left.one_each)), length-map firsts (number_at classes));
        within = are.within;
        number = are.owned;
        least = λ c lt. ⊎_elim (λ less. inl less) (λ most. inr (omega (arith, most, are.ahead c (omega arith) lt))) (cases_lt (number_at leaders (number_at owners c)) c);
      }

  pub are_chosen : (sizes chosen : List ℕ) → AreRowCounts classes (length class_firsts) sizes → length chosen ≡ length firsts
      → AreLargestBelow (length owners) owners sizes chosen → AreChosen groups firsts classes chosen
  are_chosen sizes chosen counts size are = record {
    one_each = size;
    largest = record {
      for_each = λ i lt. omega (arith, group_rows.each i lt, size);
      largest = λ h low. record {
        within =
            let c : ℕ = number_at chosen h in
            let c_in = out_owners c (are.within h low) in
            (number_at class_firsts c, omega (arith, row_in c c_in, by_left.one_each), sym (owner_of c c_in) ∙ are.owned h low, class_rows.number c c_in);
        largest = λ i lt is.
            let i_in : i < length r = omega (arith, lt, by_left.one_each) in
            let c : ℕ = number_at classes i in
            let c_in = class_in i i_in in
            let top : number_at chosen (number_at owners c) ≡ number_at chosen h = ap (number_at chosen) (owner_of_row i i_in ∙ is) in
            omega (arith, are.largest c (in_owners c c_in), ap (number_at sizes) top, counts.each c c_in, counts.each (number_at chosen h) (out_owners _ (are.within h low)));
      };
    };
    first = λ i lt equal.
        let i_in : i < length r = omega (arith, lt, by_left.one_each) in
        let c : ℕ = number_at classes i in
        let c_in = class_in i i_in in
        let h_in : number_at groups i < length chosen = omega (arith, group_rows.each i lt, size) in
        let top : number_at chosen (number_at owners c) ≡ number_at chosen (number_at groups i) = ap (number_at chosen) (owner_of_row i i_in) in
        let counted : number_at sizes c ≡ number_at sizes (number_at chosen (number_at owners c)) =
        counts.each c c_in ∙ equal ∙ sym (counts.each (number_at chosen (number_at groups i)) (out_owners _ (are.within (number_at groups i) h_in))) ∙ ap (number_at sizes) (sym top) in
        omega (arith, top, are.first c (in_owners c c_in) counted);
  }

-- ---- groups with more than one class
pub two_classes : (groups firsts classes chosen : List ℕ) (flags : List Bool) → AreChosen groups firsts classes chosen
    → length flags ≡ length chosen → AreOutside groups classes chosen (length groups) flags
    → AreFlags firsts (HasTwoClasses groups classes) flags
two_classes groups firsts classes chosen flags are size out = record {
  one_each = size ∙ are.one_each;
  told = λ h low. (
    λ is.
        let (i, i_in, i_group, other) = out.seen h is in
        let (j, j_in, j_group, j_class) = (are.largest.largest h (omega (arith, low, size))).within in
        (i, j, i_in, j_in, i_group, j_group, λ same. other (same ∙ j_class)),
    λ two.
        let (i, j, i_in, j_in, i_group, j_group, differ) = two in
        ⊎_elim
        (λ (i_is : number_at classes i ≡ number_at chosen h).
        subst (λ (k : ℕ). flag_at flags k ≡ true) j_group (out.all j j_in
        (λ j_is. differ (i_is ∙ sym (j_is ∙ ap (number_at chosen) j_group)))))
        (λ (i_not : number_at classes i ≢ number_at chosen h).
        subst (λ (k : ℕ). flag_at flags k ≡ true) i_group (out.all i i_in (λ i_is. i_not (i_is ∙ ap (number_at chosen) i_group))))
        (cases_eq (number_at classes i) (number_at chosen h)),
  );
}
