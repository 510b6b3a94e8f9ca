-- The numbers that the query of a multivalued dependency gives are those of the measure.
use Rattle.std.proofs.Common.{◌≡◌, ◌<◌, ◌+◌, ◌-◌, ◌*◌, ◌==◌, ◌&&◌, ℕ, Bool, true, false, List, length, map, refl, sym, ap, subst, ◌∙◌, inl, inr, arith}
use Rattle.std.proofs.lemmas.Bool.{cases_Bool, cases_lt, true≢false, eqb-true, eq-eqb}
use Rattle.std.proofs.lemmas.List.{get_or-map, get_or_past, length-map}
use Rattle.std.proofs.lemmas.List.FromFn.{length-map-range_with_len, get_or-map-range_with_len}
use Rattle.std.specs.List.{range_with_len}
use Rattle.std.specs.Prelude.{ℤ, pos, Contains}
use Rattle.attr_sets.specs.Attributes.{Attributes, below, union, difference, count_below, IsSubset}
use Rattle.attr_sets.proofs.AttributesLemmas.{count_below-equal, count_below-none, union_within}
use Rattle.schema_model.specs.Schemas.{Schema}
use Rattle.schema_model.specs.Schemas.{width_of}
use Rattle.dep_model.specs.Dependencies.{mvd, rest_beside}
use Rattle.dep_model.specs.Tuples.{Relation}
use Rattle.dep_model.proofs.TwoRowLemmas.{AgreeOn-left}
use Rattle.dep_model.proofs.DistinctLemmas.{filter-member}
use Rattle.legality.specs.Parts.{ArePartCounts, flag_at, part_count}
use Rattle.legality.proofs.PartLemmas.{Grouping}
use Rattle.removal_laws.specs.Counts.{total}
use Rattle.removal_laws.proofs.CountLemmas.{in_group, count_by_groups, total-same}
use Rattle.row_groups.specs.Numberings.{number_at, AreGroups, AreFirsts}
use Rattle.row_groups.proofs.NumberingLemmas.{same_groups, union-assoc, union-difference, union-rest}
use Rattle.row_measures.specs.Answers.{measure_by_parts, IsMeasure}
use Rattle.row_measures.specs.declared.breach.Measure.{Measure}
use Rattle.row_measures.specs.Broken.{lacks, missing_pairs, flagged_groups, flagged_rows}
use Rattle.row_measures.specs.ByPart.{AreShort}
use Rattle.row_measures.specs.Sorted.{Parts}
use Rattle.row_measures.proofs.MissingLemmas.{shortage_at, lacking_groups}
use Rattle.row_store.specs.Rows.{row_at}
use Rattle.sql_evaluation.specs.Cells.{Cell, number, same_row}
use Rattle.sql_check_laws.proofs.GroupLemmas.{Cells, pick, pick-cells}
use Rattle.sql_check_laws.proofs.ThreeLemmas.{size_on}
use Rattle.sql_check_laws.proofs.UnpairedLemmas.{uneven_at, even_told, told_even}
use Rattle.sql_check_laws.proofs.ValuesLemmas.{cells_on, values_of}
use Rattle.sql_measure_laws.specs.Measured.{rows_of_measure}
use Rattle.sql_measure_laws.proofs.SumLemmas.{when, sum_over, length-sum, total-count, total-sum}
use Rattle.sql_measure_laws.proofs.TotalLemmas.{total-some, part-total, total-by-groups, count-times}
use Rattle.sql_measure_laws.proofs.GroupedLemmas.{rows_if, pos-less, rows-stated}
use Rattle.sql_measure_laws.proofs.NumberLemmas.{AreSeparate, first_in, key-decides, every-value, values-total, stands-rows}
use Rattle.sql_measure_laws.proofs.FlagLemmas.{passing-sum, passing-count, passing-rows}
use Rattle.sql_measure_laws.proofs.NumberedLemmas.{numbers_of_rows}
use Rattle.sql_measure_laws.proofs.FourLemmas.{tuples_with, surplus, uneven_values, int_sum, int-pos, lack_rows}

-- ---- the parts of a group
-- as many values on a larger set stand beside a value as its group has parts by it
pub size-parts : (s : Schema) (cell : Cells) (r : Relation) (x w : Attributes) (groups firsts parts part_firsts : List ℕ)
    → AreSeparate s cell r x → AreGroups r x groups → AreFirsts groups firsts → AreSeparate s cell r w → AreGroups r w parts → AreFirsts parts part_firsts → IsSubset x w
    → (h : ℕ) → h < length firsts
    → size_on s cell x r w (cells_on s cell x (row_at r (number_at firsts h))) ≡ part_count groups part_firsts h
size-parts s cell r x w groups firsts parts part_firsts apart_x by_x group_rows apart_w by_w part_rows within h h_in =
    let key = cells_on s cell x (row_at r (number_at firsts h)) in
    let passes = λ (row : List Cell). same_row (pick s w x row) key in
    let part_key = λ (d : ℕ). cells_on s cell w (row_at r (number_at part_firsts d)) in
    length-sum passes (values_of s cell w r)
    ∙ values-total s cell r w parts part_firsts apart_w by_w part_rows (λ (row : List Cell). when (passes row) 1)
    ∙ total-same (λ (d : ℕ). when (passes (part_key d)) 1) (λ (d : ℕ). when (number_at groups (number_at part_firsts d) == h) 1) (length part_firsts)
    (λ d d_in. ap (λ (b : Bool). when b 1)
    (ap (λ (row : List Cell). same_row row key) (pick-cells s cell w x (row_at r (number_at part_firsts d)) within)
    ∙ key-decides s cell r x groups firsts apart_x by_x group_rows (number_at part_firsts d) h (first_in s cell r w parts part_firsts apart_w by_w part_rows d d_in) h_in))
    ∙ total-count (λ (d : ℕ). number_at groups (number_at part_firsts d) == h) (length part_firsts)

-- a list of the parts of each group
counts_of : List ℕ → List ℕ → List ℕ → List ℕ
counts_of numbers firsts parts = map (part_count numbers parts) (range_with_len 0 (length firsts))

counts-are : (numbers firsts parts : List ℕ) → ArePartCounts numbers firsts parts (counts_of numbers firsts parts)
unfolding counts_of
counts-are numbers firsts parts = record {
  one_each = length-map-range_with_len (part_count numbers parts) 0 (length firsts);
  count = λ h h_in. get_or-map-range_with_len (part_count numbers parts) 0 (length firsts) h h 0 h_in (omega arith);
}

module _ (s : Schema) (cell : Cells) (r : Relation) (x y : Attributes)
    (x_in : IsSubset x (below (width_of s))) (y_in : IsSubset y (below (width_of s)))
    (apart : (v : Attributes) → IsSubset v (below (width_of s)) → AreSeparate s cell r v) where
  abbrev n : ℕ
  n = width_of s

  abbrev right : Attributes
  right = difference y x

  abbrev rest : Attributes
  rest = difference (below n) (union x y)

  abbrev w1 : Attributes
  w1 = union x right

  abbrev w2 : Attributes
  w2 = union x rest

  abbrev w3 : Attributes
  w3 = union x (union right rest)

  both_in : IsSubset (union x y) (below n)
  both_in = union_within n x y x_in y_in

  w1-is : w1 ≡ union x y
  w1-is = union-difference x y

  w3-is : w3 ≡ below n
  w3-is =
      sym (union-assoc x right rest)
      ∙ ap (λ (v : Attributes). union v rest) w1-is
      ∙ union-rest n (union x y) both_in

  w1_in : IsSubset w1 (below n)
  w1_in k has = both_in k (grind (arith, has))

  w2_in : IsSubset w2 (below n)
  w2_in k has = let in_x = x_in k in grind (arith, has, in_x)

  w3_in : IsSubset w3 (below n)
  w3_in k has = let in_x = x_in k in let in_y = y_in k in grind (arith, has, in_x, in_y)

  -- the rows by number, by their groups, left parts, rests and all attributes
  module _ (groups firsts lefts left_firsts rests rest_firsts all all_firsts : List ℕ)
      (by_left : AreGroups r x groups) (group_rows : AreFirsts groups firsts)
      (by_both : AreGroups r (union x y) lefts) (left_rows : AreFirsts lefts left_firsts)
      (by_rest : AreGroups r (union x (rest_beside (below n) x y)) rests) (rest_rows : AreFirsts rests rest_firsts)
      (by_all : AreGroups r (below n) all) (all_rows : AreFirsts all all_firsts) where
    by_w1 : AreGroups r w1 lefts
    by_w1 = same_groups r (union x y) w1 lefts (sym w1-is) by_both

    by_w3 : AreGroups r w3 all
    by_w3 = same_groups r (below n) w3 all (sym w3-is) by_all

    grouping : Grouping n r x y groups firsts lefts left_firsts rests rest_firsts all all_firsts
    grouping = record {
      left = by_left;
      left_firsts = group_rows;
      both = by_both;
      both_firsts = left_rows;
      rest = by_rest;
      rest_firsts = rest_rows;
      all = by_all;
      all_firsts = all_rows;
      x_within = x_in;
      y_within = y_in;
    }

    abbrev group_count : ℕ
    group_count = length firsts

    abbrev left_count : ℕ
    left_count = length left_firsts

    abbrev key_at : ℕ → List Cell
    key_at h = cells_on s cell x (row_at r (number_at firsts h))

    -- the group of a left part
    abbrev owner : ℕ → ℕ
    owner a = number_at groups (number_at left_firsts a)

    -- the pairs that a left part lacks
    abbrev lacking : ℕ → ℕ
    lacking a = count_below (lacks groups lefts left_firsts rests rest_firsts a) (length rest_firsts)

    abbrev wanted : List ℕ
    wanted = counts_of groups firsts rest_firsts

    abbrev present : List ℕ
    present = counts_of lefts left_firsts all_firsts

    abbrev left_groups : List ℕ
    left_groups = map (number_at groups) left_firsts

    left_row : (a : ℕ) → a < left_count → number_at left_firsts a < length r
    left_row a low = omega (arith, left_rows.within a low, by_both.one_each)

    all_row : (d : ℕ) → d < length all_firsts → number_at all_firsts d < length r
    all_row d low = omega (arith, all_rows.within d low, by_all.one_each)

    owner_in : (a : ℕ) → a < left_count → owner a < group_count
    owner_in a low = group_rows.each (number_at left_firsts a) (omega (arith, left_row a low, by_left.one_each))

    owner-is : (a : ℕ) → a < left_count → number_at left_groups a ≡ owner a
    owner-is a low = get_or-map (number_at groups) left_firsts a 0 0 low

    wanted-is : (h : ℕ) → h < group_count → number_at wanted h ≡ part_count groups rest_firsts h
    wanted-is h h_in = (counts-are groups firsts rest_firsts).count h h_in

    present-is : (a : ℕ) → a < left_count → number_at present a ≡ part_count lefts all_firsts a
    present-is a low = (counts-are lefts left_firsts all_firsts).count a low

    short : (a : ℕ) → a < left_count → part_count lefts all_firsts a + lacking a ≡ part_count groups rest_firsts (owner a)
    short a low =
        let at = shortage_at n r x y groups firsts lefts left_firsts rests rest_firsts all all_firsts grouping wanted present
        (counts-are groups firsts rest_firsts) (counts-are lefts left_firsts all_firsts) a low in
        let to : number_at wanted (number_at left_groups a) ≡ number_at wanted (owner a) = ap (number_at wanted) (owner-is a low) in
        omega (arith, at, to, wanted-is (owner a) (owner_in a low), present-is a low)

    -- ---- the counts of a group
    abbrev size_1 : ℕ → ℕ
    size_1 h = size_on s cell x r w1 (key_at h)

    abbrev size_2 : ℕ → ℕ
    size_2 h = size_on s cell x r w2 (key_at h)

    abbrev size_3 : ℕ → ℕ
    size_3 h = size_on s cell x r w3 (key_at h)

    in-union : (v : Attributes) → IsSubset x (union x v)
    in-union v k m = grind (arith, m)

    size-1 : (h : ℕ) → h < group_count → size_1 h ≡ part_count groups left_firsts h
    size-1 = size-parts s cell r x w1 groups firsts lefts left_firsts (apart x x_in) by_left group_rows (apart w1 w1_in) by_w1 left_rows (in-union right)

    size-2 : (h : ℕ) → h < group_count → size_2 h ≡ part_count groups rest_firsts h
    size-2 = size-parts s cell r x w2 groups firsts rests rest_firsts (apart x x_in) by_left group_rows (apart w2 w2_in) by_rest rest_rows (in-union rest)

    size-3 : (h : ℕ) → h < group_count → size_3 h ≡ part_count groups all_firsts h
    size-3 = size-parts s cell r x w3 groups firsts all all_firsts (apart x x_in) by_left group_rows (apart w3 w3_in) by_w3 all_rows (in-union (union right rest))

    -- rows of one left part are of its group
    left-group : (d : ℕ) → d < length all_firsts → number_at groups (number_at all_firsts d) ≡ owner (number_at lefts (number_at all_firsts d))
    left-group d d_in =
        let i = number_at all_firsts d in
        let i_in = all_row d d_in in
        let a_in : number_at lefts i < left_count = left_rows.each i (omega (arith, i_in, by_both.one_each)) in
        let j = number_at left_firsts (number_at lefts i) in
        let j_in = left_row (number_at lefts i) a_in in
        (by_left.equal i j i_in j_in).1
        (AgreeOn-left x y (row_at r i) (row_at r j) ((by_both.equal i j i_in j_in).0 (sym (left_rows.number (number_at lefts i) a_in))))

    -- the tuples of a group, by their left parts
    tuples-by-left : (h : ℕ) → part_count groups all_firsts h ≡ total (λ a. when (owner a == h) (part_count lefts all_firsts a)) left_count
    tuples-by-left h =
        let m = length all_firsts in
        let of_group = λ (d : ℕ). number_at groups (number_at all_firsts d) == h in
        let part = λ (d : ℕ). number_at lefts (number_at all_firsts d) in
        count_by_groups of_group part left_count m (λ d d_in. left_rows.each (number_at all_firsts d) (omega (arith, all_row d d_in, by_both.one_each)))
        ∙ total-same (λ (a : ℕ). count_below (in_group of_group part a) m) (λ (a : ℕ). when (owner a == h) (part_count lefts all_firsts a)) left_count
        (λ a a_in.
        count_below-equal m (in_group of_group part a) (λ (d : ℕ). (owner a == h) && (part d == a)) (λ d d_in. same-owner h a d d_in)
        ∙ counted-if (owner a == h) (λ (d : ℕ). part d == a) m)
      where
        same-owner : (h a d : ℕ) → d < length all_firsts
            → ((number_at groups (number_at all_firsts d) == h) && (number_at lefts (number_at all_firsts d) == a)) ≡ ((owner a == h) && (number_at lefts (number_at all_firsts d) == a))
        same-owner h a d d_in = elim (cases_Bool (number_at lefts (number_at all_firsts d) == a)) [
          | inl is ↦ ap (λ (g : ℕ). (g == h) && (number_at lefts (number_at all_firsts d) == a)) (left-group d d_in ∙ ap owner (eqb-true _ _ is))
          | inr other ↦ and_last (number_at groups (number_at all_firsts d) == h) _ other ∙ sym (and_last (owner a == h) _ other)
        ]
          where
            and_last : (b c : Bool) → c ≡ false → (b && c) ≡ false
            and_last true c e = e
            and_last false c e = refl

        counted-if : (b : Bool) (q : ℕ → Bool) (m : ℕ) → count_below (λ d. b && q d) m ≡ when b (count_below q m)
        counted-if true q m = refl
        counted-if false q m = count_below-none m (λ d. false) (λ d d_in. refl)

    -- the pairs that a group lacks
    abbrev lacked : ℕ → ℕ
    lacked h = total (λ a. when (owner a == h) (lacking a)) left_count

    when-parts : (h a : ℕ) → a < left_count
        → when (owner a == h) (part_count groups rest_firsts h) ≡ when (owner a == h) (part_count lefts all_firsts a) + when (owner a == h) (lacking a)
    when-parts h a low = elim (cases_Bool (owner a == h)) [
      | inl is ↦
          let same : part_count groups rest_firsts (owner a) ≡ part_count groups rest_firsts h = ap (part_count groups rest_firsts) (eqb-true _ _ is) in
          rw is (omega (arith, short a low, same))
      | inr other ↦ rw other (omega arith)
    ]

    product-is : (h : ℕ) → h < group_count → size_1 h * size_2 h ≡ size_3 h + lacked h
    product-is h h_in =
        let b = part_count groups rest_firsts h in
        let of_left = λ (a : ℕ). owner a == h in
        ap (λ (k : ℕ). k * size_2 h) (size-1 h h_in)
        ∙ ap (λ (k : ℕ). part_count groups left_firsts h * k) (size-2 h h_in)
        ∙ count-times of_left left_count b
        ∙ total-same (λ (a : ℕ). when (of_left a) b) (λ (a : ℕ). when (of_left a) (part_count lefts all_firsts a) + when (of_left a) (lacking a)) left_count (when-parts h)
        ∙ total-sum (λ (a : ℕ). when (of_left a) (part_count lefts all_firsts a)) (λ (a : ℕ). when (of_left a) (lacking a)) left_count
        ∙ ap (λ (k : ℕ). k + lacked h) (sym (tuples-by-left h) ∙ sym (size-3 h h_in))

    -- ---- the groups that lack a pair
    abbrev test : List Cell → Bool
    test = uneven_at s cell x r w1 w2 w3

    even-none : (h : ℕ) → h < group_count → test (key_at h) ≡ false → lacked h ≡ 0
    even-none h h_in even =
        let equal = even_told (size_1 h) (size_2 h) (size_3 h) even in
        omega (arith, equal, product-is h h_in)

    none-even : (h : ℕ) → h < group_count → lacked h ≡ 0 → test (key_at h) ≡ false
    none-even h h_in none = told_even (size_1 h) (size_2 h) (size_3 h) (omega (arith, none, product-is h h_in))

    flags : List Bool
    flags = map (λ h. test (key_at h)) (range_with_len 0 group_count)

    flag-size : length flags ≡ group_count
    unfolding flags
    flag-size = length-map-range_with_len (λ (h : ℕ). test (key_at h)) 0 group_count

    flag-is : (h : ℕ) → h < group_count → flag_at flags h ≡ test (key_at h)
    unfolding flags
    flag-is h h_in = get_or-map-range_with_len (λ (h : ℕ). test (key_at h)) 0 group_count h h false h_in (omega arith)

    flag-low : (h : ℕ) → flag_at flags h ≡ true → h < group_count
    flag-low h set = elim (cases_lt h group_count) [
      | inl low ↦ low
      | inr past ↦ absurd (true≢false (sym set ∙ get_or_past flags h false (omega (arith, past, flag-size))))
    ]

    short-is : (a : ℕ) → a < left_count → number_at present a + lacking a ≡ number_at wanted (owner a)
    short-is a low = omega (arith, short a low, present-is a low, wanted-is (owner a) (owner_in a low))

    are-short : AreShort left_groups wanted present (length left_groups) flags
    are-short = record {
      seen = λ h set.
          let h_in = flag-low h set in
          let some : 0 < lacked h = elim (cases_lt 0 (lacked h)) [
            | inl more ↦ more
            | inr none ↦ absurd (true≢false (sym set ∙ flag-is h h_in ∙ none-even h h_in (omega (arith, none))))
          ] in
          let found = total-some (λ (a : ℕ). when (owner a == h) (lacking a)) left_count some in
          elim (cases_Bool (owner found.0 == h)) [
            | inl is ↦
                let at : owner found.0 ≡ h = eqb-true _ _ is in
                let more : 0 < lacking found.0 = subst (λ (b : Bool). 0 < when b (lacking found.0)) is found.2 in
                let to : number_at wanted (owner found.0) ≡ number_at wanted h = ap (number_at wanted) at in (
                  found.0,
                  omega (arith, found.1, length-map left_firsts (number_at groups)),
                  owner-is found.0 found.1 ∙ at,
                  omega (arith, short-is found.0 found.1, more, to),
                )
            | inr other ↦ absurd (let none : 0 < when false (lacking found.0) = subst (λ (b : Bool). 0 < when b (lacking found.0)) other found.2 in omega (arith, none))
          ];
      all = λ a a_in less.
          let low : a < left_count = omega (arith, a_in, length-map left_firsts (number_at groups)) in
          let h_in = owner_in a low in
          let to : number_at wanted (number_at left_groups a) ≡ number_at wanted (owner a) = ap (number_at wanted) (owner-is a low) in
          let more : 0 < lacking a = omega (arith, less, to, short-is a low) in
          let here : when (owner a == owner a) (lacking a) ≡ lacking a = ap (λ (b : Bool). when b (lacking a)) (eq-eqb (owner a) (owner a) refl) in
          let part = part-total (λ (k : ℕ). when (owner k == owner a) (lacking k)) left_count a low in
          ap (flag_at flags) (owner-is a low) ∙ flag-is (owner a) h_in ∙ elim (cases_Bool (test (key_at (owner a)))) [
            | inl odd ↦ odd
            | inr even ↦ absurd (omega (arith, even-none (owner a) h_in even, part, here, more))
          ];
    }

    -- the numbers of the rows
    parts : Parts n x y r
    parts = record {
      groups = groups;
      firsts = firsts;
      lefts = lefts;
      left_firsts = left_firsts;
      rests = rests;
      rest_firsts = rest_firsts;
      broken = flags;
      by_left = by_left;
      group_rows = group_rows;
      by_both = by_both;
      left_rows = left_rows;
      by_rest = by_rest;
      rest_rows = rest_rows;
      flags =
          lacking_groups n r x y groups firsts lefts left_firsts rests rest_firsts all all_firsts grouping wanted present
          (counts-are groups firsts rest_firsts) (counts-are lefts left_firsts all_firsts) flags
          (flag-size ∙ sym (counts-are groups firsts rest_firsts).one_each) are-short;
    }

    test-flag : (h : ℕ) → h < group_count → test (key_at h) ≡ flag_at flags h
    test-flag h h_in = sym (flag-is h h_in)

    -- ---- the numbers
    abbrev keys : List (List Cell)
    keys = uneven_values s cell x right rest r

    groups-counted : length keys ≡ flagged_groups flags
    groups-counted = passing-count s cell r x groups firsts (apart x x_in) by_left group_rows flags flag-size test test-flag

    rows-counted : sum_over (tuples_with s cell x r) keys ≡ flagged_rows groups flags
    rows-counted =
        passing-rows s cell r x groups firsts (apart x x_in) by_left group_rows flags flag-size test test-flag
        (tuples_with s cell x r) (stands-rows s cell r x groups firsts (apart x x_in) by_left group_rows)

    -- by how much the product is more, as a number
    abbrev more_at : List Cell → ℕ
    more_at key = size_on s cell x r w1 key * size_on s cell x r w2 key - size_on s cell x r w3 key

    more-is : (h : ℕ) → h < group_count → more_at (key_at h) ≡ lacked h
    more-is h h_in = omega (arith, product-is h h_in)

    surplus-is : (key : List Cell) → Contains keys key → surplus s cell r x right rest key ≡ pos (more_at key)
    surplus-is key there =
        let at = every-value s cell r x groups firsts (apart x x_in) by_left group_rows key (filter-member test (values_of s cell x r) key there).0 in
        let own : surplus s cell r x right rest (key_at at.0) ≡ pos (more_at (key_at at.0)) =
        pos-less (size_1 at.0 * size_2 at.0) (size_3 at.0) (lacked at.0) (product-is at.0 at.1) ∙ ap pos (sym (more-is at.0 at.1)) in
        subst (λ (z : List Cell). surplus s cell r x right rest z ≡ pos (more_at z)) (sym at.2) own

    amount-counted : sum_over more_at keys ≡ missing_pairs groups lefts left_firsts rests rest_firsts
    amount-counted =
        passing-sum s cell r x groups firsts (apart x x_in) by_left group_rows flags flag-size test test-flag more_at
        ∙ total-same (λ (h : ℕ). when (flag_at flags h) (more_at (key_at h))) lacked group_count
        (λ h h_in. elim (cases_Bool (flag_at flags h)) [
          | inl set ↦ ap (λ (b : Bool). when b (more_at (key_at h))) set ∙ more-is h h_in
          | inr unset ↦ ap (λ (b : Bool). when b (more_at (key_at h))) unset ∙ sym (even-none h h_in (test-flag h h_in ∙ unset))
        ])
        ∙ sym (total-by-groups lacking owner group_count left_count owner_in)

    lack-numbers : lack_rows (tuples_with s cell x r) (surplus s cell r x right rest) keys ≡ rows_of_measure (measure_by_parts parts)
    unfolding parts flags
    lack-numbers =
        let d = missing_pairs groups lefts left_firsts rests rest_firsts in
        let f = sum_over (tuples_with s cell x r) keys in
        let amount : int_sum (surplus s cell r x right rest) keys ≡ pos d =
        int-pos (surplus s cell r x right rest) more_at keys surplus-is ∙ ap pos amount-counted in
        ap (λ (v : ℤ). rows_if (length keys) (number (pos f)) (number v)) amount
        ∙ ap (λ (k : ℕ). rows_if k (number (pos f)) (number (pos d))) groups-counted
        ∙ ap (λ (k : ℕ). rows_if (flagged_groups flags) (number (pos k)) (number (pos d))) rows-counted
        ∙ rows-stated (flagged_groups flags) (flagged_rows groups flags) d

  below-itself : IsSubset (below n) (below n)
  below-itself k m = m

  -- the rows that the query gives are those of a measure
  pub lack-measured : (m : Measure) × IsMeasure n r (mvd x y) m
      × (lack_rows (tuples_with s cell x r) (surplus s cell r x right rest) (uneven_values s cell x right rest r) ≡ rows_of_measure m)
  unfolding parts
  lack-measured =
      let by_x = numbers_of_rows s cell r x (apart x x_in) in
      let by_xy = numbers_of_rows s cell r (union x y) (apart (union x y) both_in) in
      let by_xz = numbers_of_rows s cell r w2 (apart w2 w2_in) in
      let by_n = numbers_of_rows s cell r (below n) (apart (below n) below-itself) in
      let p = parts by_x.0 by_x.1 by_xy.0 by_xy.1 by_xz.0 by_xz.1 by_n.0 by_n.1 by_x.2 by_x.3 by_xy.2 by_xy.3 by_xz.2 by_xz.3 by_n.2 by_n.3 in (
        measure_by_parts p,
        (p, refl),
        lack-numbers by_x.0 by_x.1 by_xy.0 by_xy.1 by_xz.0 by_xz.1 by_n.0 by_n.1 by_x.2 by_x.3 by_xy.2 by_xy.3 by_xz.2 by_xz.3 by_n.2 by_n.3,
      )
