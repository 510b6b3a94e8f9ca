-- Rows have one numbering by a set, one list of first rows, one chosen class of each group and one list of
-- flags.
use Rattle.std.proofs.Common.{◌≡◌, ℕ, zero, suc, ◌<◌, ◌≤◌, Bool, false, List, length, sym, ap, subst, ◌∙◌, ⊎_elim, arith}
use Rattle.std.proofs.lemmas.Bool.{cases_lt}
use Rattle.std.proofs.lemmas.Grind.{same_number_lists}
use Rattle.std.proofs.lemmas.List.{ext_get_or}
use Rattle.attr_sets.specs.Attributes.{Attributes, union, below}
use Rattle.attr_sets.proofs.AttributesLemmas.{same_truth}
use Rattle.row_groups.specs.Numberings.{AreFirsts, AreGroups, number_at}
use Rattle.dep_model.specs.Tuples.{Relation}
use Rattle.dep_model.specs.Dependencies.{rest_beside}
use Rattle.legality.specs.Parts.{flag_at}
use Rattle.removal_laws.specs.Classes.{rows_of}
use Rattle.row_measures.specs.Broken.{AreChosen, AreFlags, HasTwoClasses, LacksRow}
use Rattle.row_measures.specs.Sorted.{Classes, Parts}

-- ---- one numbering
not_less : (r : Relation) (x : Attributes) (one other : List ℕ) → AreGroups r x one → AreGroups r x other
    → (i : ℕ) → i < length r → ((j : ℕ) → j < i → number_at one j ≡ number_at other j)
    → number_at one i < number_at other i → ⊥
not_less r x one other a b i lt before less =
    let found = b.in_order i (number_at one i) (omega (arith, lt, b.one_each)) less in
    let j : ℕ = found.0 in
    let earlier : j < i = found.1 in
    let at : number_at other j ≡ number_at one i = found.2 in
    let within : j < length r = omega (arith, lt, earlier) in
    let again = (b.equal j i within lt).1 ((a.equal j i within lt).0 (before j earlier ∙ at)) in
    omega (arith, again, at, less)

same_at : (r : Relation) (x : Attributes) (one other : List ℕ) → AreGroups r x one → AreGroups r x other
    → (i : ℕ) → i < length r → ((j : ℕ) → j < i → number_at one j ≡ number_at other j)
    → number_at one i ≡ number_at other i
same_at r x one other a b i lt before = ⊎_elim
    (λ less. absurd (not_less r x one other a b i lt before less))
    (λ more. ⊎_elim
    (λ less. absurd (not_less r x other one b a i lt (λ j earlier. sym (before j earlier)) less))
    (λ most. omega (arith, more, most))
    (cases_lt (number_at other i) (number_at one i)))
    (cases_lt (number_at one i) (number_at other i))

same_below : (r : Relation) (x : Attributes) (one other : List ℕ) → AreGroups r x one → AreGroups r x other
    → (n : ℕ) → n ≤ length r → (i : ℕ) → i < n → number_at one i ≡ number_at other i
same_below r x one other a b zero most i lt = absurd (omega (arith, lt))
same_below r x one other a b (suc n) most i lt =
    let before = same_below r x one other a b n (omega (arith, most)) in
    ⊎_elim (λ earlier. before i earlier)
    (λ last. let at : n ≡ i = omega (arith, lt, last) in
    subst (λ (k : ℕ). number_at one k ≡ number_at other k) at
    (same_at r x one other a b n (omega (arith, most)) before))
    (cases_lt i n)

pub one_numbering : (r : Relation) (x : Attributes) (one other : List ℕ) → AreGroups r x one → AreGroups r x other → one ≡ other
one_numbering r x one other a b =
    same_number_lists one other (a.one_each ∙ sym b.one_each)
    (λ i lt. same_below r x one other a b (length r) (omega arith) i (omega (arith, lt, a.one_each)))

-- ---- one list of first rows
no_more : (numbers one other : List ℕ) → AreFirsts numbers one → AreFirsts numbers other → length one < length other → ⊥
no_more numbers one other a b less =
    let g : ℕ = length one in
    let at = b.number g less in
    let low = a.each (number_at other g) (b.within g less) in
    omega (arith, at, low)

no_later : (numbers one other : List ℕ) → AreFirsts numbers one → AreFirsts numbers other
    → (g : ℕ) → g < length one → g < length other → number_at one g ≤ number_at other g
no_later numbers one other a b g low high =
    let i : ℕ = number_at other g in
    let same : number_at one (number_at numbers i) ≡ number_at one g = ap (number_at one) (b.number g high) in
    ⊎_elim (λ less. omega (arith, less, same)) (λ equal. omega (arith, equal, same)) (a.least i (b.within g high))

pub one_list_of_firsts : (numbers one other : List ℕ) → AreFirsts numbers one → AreFirsts numbers other → one ≡ other
one_list_of_firsts numbers one other a b =
    let size : length one ≡ length other = ⊎_elim (λ less. absurd (no_more numbers one other a b less))
    (λ more. ⊎_elim (λ less. absurd (no_more numbers other one b a less)) (λ most. omega (arith, more, most))
    (cases_lt (length other) (length one)))
    (cases_lt (length one) (length other)) in
    same_number_lists one other size (λ g low.
    let high : g < length other = omega (arith, low, size) in
    omega (arith, no_later numbers one other a b g low high, no_later numbers other one b a g high low))

-- ---- one chosen class of each group
as_large : (groups firsts classes one other : List ℕ) → AreChosen groups firsts classes one → AreChosen groups firsts classes other
    → (h : ℕ) → h < length one → h < length other → rows_of classes (number_at one h) ≤ rows_of classes (number_at other h)
as_large groups firsts classes one other a b h low high =
    let (i, within, in_group, is) = (a.largest.largest h low).within in
    let large = (b.largest.largest h high).largest i within in_group in
    omega (arith, large, ap (rows_of classes) is)

no_less : (groups firsts classes one other : List ℕ) → AreChosen groups firsts classes one → AreChosen groups firsts classes other
    → (h : ℕ) → h < length one → h < length other → number_at other h ≤ number_at one h
no_less groups firsts classes one other a b h low high =
    let (i, within, in_group, is) = (a.largest.largest h low).within in
    let there = as_large groups firsts classes one other a b h low high in
    let back = as_large groups firsts classes other one b a h high low in
    let here : number_at other (number_at groups i) ≡ number_at other h = ap (number_at other) in_group in
    let equal : rows_of classes (number_at classes i) ≡ rows_of classes (number_at other (number_at groups i)) =
    omega (arith, ap (rows_of classes) is, ap (rows_of classes) here, there, back) in
    omega (arith, b.first i within equal, here, is)

pub one_choice : (groups firsts classes one other : List ℕ) → AreChosen groups firsts classes one → AreChosen groups firsts classes other → one ≡ other
one_choice groups firsts classes one other a b =
    same_number_lists one other (a.one_each ∙ sym b.one_each) (λ h low.
    let high : h < length other = omega (arith, low, a.one_each, b.one_each) in
    omega (arith, no_less groups firsts classes one other a b h low high, no_less groups firsts classes other one b a h high low))

-- ---- one list of flags
pub one_list_of_flags : (firsts : List ℕ) (IsSo : ℕ → Type 0) (one other : List Bool) → AreFlags firsts IsSo one → AreFlags firsts IsSo other → one ≡ other
one_list_of_flags firsts IsSo one other a b =
    ext_get_or false one other (a.one_each ∙ sym b.one_each) (λ h low.
    let high : h < length other = omega (arith, low, a.one_each, b.one_each) in
    same_truth (flag_at one h) (flag_at other h) (λ is. (b.told h high).1 ((a.told h low).0 is)) (λ is. (a.told h low).1 ((b.told h high).0 is)))

-- ---- one value of a function of the numbers
-- step by step, since each list decides what the next may be
pub same_of_classes : {A : Type 0} {x y : Attributes} {r : Relation}
    (f : List ℕ → List ℕ → List ℕ → List ℕ → List ℕ → List Bool → A) (c d : Classes x y r)
    → f c.groups c.firsts c.classes c.class_firsts c.chosen c.broken ≡ f d.groups d.firsts d.classes d.class_firsts d.chosen d.broken
same_of_classes {A} {x} {y} {r} f c d =
    by d.groups d.firsts d.classes d.class_firsts d.chosen d.broken
    (one_numbering r x c.groups d.groups c.by_left d.by_left)
    (one_numbering r (union x y) c.classes d.classes c.by_both d.by_both)
    d.group_rows d.class_rows d.largest d.flags
  where
    by : (groups firsts classes class_firsts chosen : List ℕ) (broken : List Bool) → c.groups ≡ groups → c.classes ≡ classes
        → AreFirsts groups firsts → AreFirsts classes class_firsts → AreChosen groups firsts classes chosen
        → AreFlags firsts (HasTwoClasses groups classes) broken
        → f c.groups c.firsts c.classes c.class_firsts c.chosen c.broken ≡ f groups firsts classes class_firsts chosen broken
    by groups firsts classes class_firsts chosen broken same same_class group_rows class_rows largest flags =
        let group_rows' : AreFirsts c.groups firsts = subst (λ (l : List ℕ). AreFirsts l firsts) (sym same) group_rows in
        let firsts_same : c.firsts ≡ firsts = one_list_of_firsts c.groups c.firsts firsts c.group_rows group_rows' in
        let class_rows' : AreFirsts c.classes class_firsts = subst (λ (l : List ℕ). AreFirsts l class_firsts) (sym same_class) class_rows in
        let class_firsts_same : c.class_firsts ≡ class_firsts = one_list_of_firsts c.classes c.class_firsts class_firsts c.class_rows class_rows' in
        let largest' : AreChosen c.groups c.firsts c.classes chosen =
        subst (λ (l : List ℕ). AreChosen l c.firsts c.classes chosen) (sym same)
        (subst (λ (l : List ℕ). AreChosen groups l c.classes chosen) (sym firsts_same)
        (subst (λ (l : List ℕ). AreChosen groups firsts l chosen) (sym same_class) largest)) in
        let chosen_same : c.chosen ≡ chosen = one_choice c.groups c.firsts c.classes c.chosen chosen c.largest largest' in
        let flags' : AreFlags c.firsts (HasTwoClasses c.groups c.classes) broken =
        subst (λ (l : List ℕ). AreFlags l (HasTwoClasses c.groups c.classes) broken) (sym firsts_same)
        (subst (λ (l : List ℕ). AreFlags firsts (HasTwoClasses l c.classes) broken) (sym same)
        (subst (λ (l : List ℕ). AreFlags firsts (HasTwoClasses groups l) broken) (sym same_class) flags)) in
        let broken_same : c.broken ≡ broken = one_list_of_flags c.firsts (HasTwoClasses c.groups c.classes) c.broken broken c.flags flags' in
        ap (λ (l : List ℕ). f l c.firsts c.classes c.class_firsts c.chosen c.broken) same
        ∙ ap (λ (l : List ℕ). f groups l c.classes c.class_firsts c.chosen c.broken) firsts_same
        ∙ ap (λ (l : List ℕ). f groups firsts l c.class_firsts c.chosen c.broken) same_class
        ∙ ap (λ (l : List ℕ). f groups firsts classes l c.chosen c.broken) class_firsts_same
        ∙ ap (λ (l : List ℕ). f groups firsts classes class_firsts l c.broken) chosen_same
        ∙ ap (λ (l : List Bool). f groups firsts classes class_firsts chosen l) broken_same

pub same_of_parts : {A : Type 0} {n : ℕ} {x y : Attributes} {r : Relation}
    (f : List ℕ → List ℕ → List ℕ → List ℕ → List ℕ → List ℕ → List Bool → A) (c d : Parts n x y r)
    → f c.groups c.firsts c.lefts c.left_firsts c.rests c.rest_firsts c.broken
    ≡ f d.groups d.firsts d.lefts d.left_firsts d.rests d.rest_firsts d.broken
same_of_parts {A} {n} {x} {y} {r} f c d =
    by d.groups d.firsts d.lefts d.left_firsts d.rests d.rest_firsts d.broken
    (one_numbering r x c.groups d.groups c.by_left d.by_left)
    (one_numbering r (union x y) c.lefts d.lefts c.by_both d.by_both)
    (one_numbering r (union x (rest_beside (below n) x y)) c.rests d.rests c.by_rest d.by_rest)
    d.group_rows d.left_rows d.rest_rows d.flags
  where
    by : (groups firsts lefts left_firsts rests rest_firsts : List ℕ) (broken : List Bool) → c.groups ≡ groups → c.lefts ≡ lefts → c.rests ≡ rests
        → AreFirsts groups firsts → AreFirsts lefts left_firsts → AreFirsts rests rest_firsts
        → AreFlags firsts (LacksRow groups lefts rests) broken
        → f c.groups c.firsts c.lefts c.left_firsts c.rests c.rest_firsts c.broken ≡ f groups firsts lefts left_firsts rests rest_firsts broken
    by groups firsts lefts left_firsts rests rest_firsts broken same same_left same_rest group_rows left_rows rest_rows flags =
        let firsts_same : c.firsts ≡ firsts = one_list_of_firsts c.groups c.firsts firsts c.group_rows
        (subst (λ (l : List ℕ). AreFirsts l firsts) (sym same) group_rows) in
        let left_firsts_same : c.left_firsts ≡ left_firsts = one_list_of_firsts c.lefts c.left_firsts left_firsts c.left_rows
        (subst (λ (l : List ℕ). AreFirsts l left_firsts) (sym same_left) left_rows) in
        let rest_firsts_same : c.rest_firsts ≡ rest_firsts = one_list_of_firsts c.rests c.rest_firsts rest_firsts c.rest_rows
        (subst (λ (l : List ℕ). AreFirsts l rest_firsts) (sym same_rest) rest_rows) in
        let flags' : AreFlags c.firsts (LacksRow c.groups c.lefts c.rests) broken =
        subst (λ (l : List ℕ). AreFlags l (LacksRow c.groups c.lefts c.rests) broken) (sym firsts_same)
        (subst (λ (l : List ℕ). AreFlags firsts (LacksRow l c.lefts c.rests) broken) (sym same)
        (subst (λ (l : List ℕ). AreFlags firsts (LacksRow groups l c.rests) broken) (sym same_left)
        (subst (λ (l : List ℕ). AreFlags firsts (LacksRow groups lefts l) broken) (sym same_rest) flags))) in
        let broken_same : c.broken ≡ broken = one_list_of_flags c.firsts (LacksRow c.groups c.lefts c.rests) c.broken broken c.flags flags' in
        ap (λ (l : List ℕ). f l c.firsts c.lefts c.left_firsts c.rests c.rest_firsts c.broken) same
        ∙ ap (λ (l : List ℕ). f groups l c.lefts c.left_firsts c.rests c.rest_firsts c.broken) firsts_same
        ∙ ap (λ (l : List ℕ). f groups firsts l c.left_firsts c.rests c.rest_firsts c.broken) same_left
        ∙ ap (λ (l : List ℕ). f groups firsts lefts l c.rests c.rest_firsts c.broken) left_firsts_same
        ∙ ap (λ (l : List ℕ). f groups firsts lefts left_firsts l c.rest_firsts c.broken) same_rest
        ∙ ap (λ (l : List ℕ). f groups firsts lefts left_firsts rests l c.broken) rest_firsts_same
        ∙ ap (λ (l : List Bool). f groups firsts lefts left_firsts rests rest_firsts l) broken_same
