-- The laws: one answer, what the measure counts, the rows that are marked as removed, and those that are kept.
use Rattle.std.proofs.Common.{◌≡◌, ◌↔◌, ◌+◌, ◌<◌, ◌≤◌, ◌==◌, not, ℕ, zero, suc, Bool, true, false, true≢false, List, [], ◌++◌, length, get_or, map, refl, sym, ap, subst, ◌∙◌, ⊎_elim, arith}
use Rattle.std.proofs.lemmas.Bool.{cases_lt, eq-eqb}
use Rattle.std.proofs.lemmas.List.{ext_get_or, get_or_append_left, get_or_default, get_or-append-add, length-append}
use Rattle.std.proofs.lemmas.List.Elements.{All-contains}
use Rattle.std.specs.Prelude.{All, Contains, if◌then◌else◌}
use Rattle.attr_sets.specs.Attributes.{Attributes, count_below}
use Rattle.attr_sets.proofs.AttributesLemmas.{count_below-before_member, same_truth}
use Rattle.row_groups.specs.Numberings.{number_at}
use Rattle.dep_model.specs.Dependencies.{Dependency, Obeys, ObeysFd, fd, mvd, is_fd}
use Rattle.dep_model.specs.Implication.{IsLegal}
use Rattle.dep_model.specs.Projections.{members_below}
use Rattle.dep_model.specs.Tuples.{Relation, IsOver}
use Rattle.dep_model.proofs.ListLemmas.{Contains-map, map-member}
use Rattle.dep_model.proofs.SchemeLemmas.{members_below-at, length-members_below}
use Rattle.dep_model.proofs.TupleLemmas.{IsOver-length}
use Rattle.legality.specs.Parts.{flag_at}
use Rattle.legality.proofs.PairLemmas.{member_of}
use Rattle.removal_laws.specs.Classes.{in_chosen, rows_of}
use Rattle.removal_laws.specs.Removals.{IsLeastChange, IsLeastRemoval, Positions, rows_at}
use Rattle.removal_laws.proofs.ChangeLemmas.{least_change}
use Rattle.removal_laws.proofs.LargestLemmas.{least}
use Rattle.removal_laws.proofs.StayingLemmas.{count_staying, stands, stay}
use Rattle.row_store.specs.Rows.{row_at}
use Rattle.row_measures.specs.Answers.{AreBrokenParts, AreBrokenRows, AreKeptFlags, IsKeptRow, IsMeasure, class_row, mark_of}
use Rattle.row_measures.specs.Broken.{flagged_groups, flagged_rows, in_flagged, missing_pairs, ordinal, positions_of, rows_outside}
use Rattle.row_measures.specs.Laws.{IsRemoved}
use Rattle.row_measures.specs.Sorted.{Classes}
use Rattle.row_measures.specs.declared.breach.BrokenPart.{BrokenPart}
use Rattle.row_measures.specs.declared.breach.BrokenRow.{BrokenRow}
use Rattle.row_measures.specs.declared.breach.RowMark.TheVariants as mark
use Rattle.row_measures.specs.declared.breach.Measure.{Measure}
use Rattle.row_measures.proofs.UniqueLemmas.{same_of_classes, same_of_parts}

-- ---- one answer
pub same_measure : (n : ℕ) (r : Relation) (d : Dependency) (one other : Measure) → IsMeasure n r d one → IsMeasure n r d other → one ≡ other
same_measure n r (fd x y) one other (c, is) (d, also) =
    let by : List ℕ → List ℕ → List ℕ → List ℕ → List ℕ → List Bool → Measure = λ groups firsts classes class_firsts chosen broken. record {
      groups = flagged_groups broken;
      rows = flagged_rows groups broken;
      amount = rows_outside groups classes chosen;
    } in
    is ∙ same_of_classes by c d ∙ sym also
same_measure n r (mvd x y) one other (c, is) (d, also) =
    let by : List ℕ → List ℕ → List ℕ → List ℕ → List ℕ → List ℕ → List Bool → Measure = λ groups firsts lefts left_firsts rests rest_firsts broken. record {
      groups = flagged_groups broken;
      rows = flagged_rows groups broken;
      amount = missing_pairs groups lefts left_firsts rests rest_firsts;
    } in
    is ∙ same_of_parts by c d ∙ sym also

pub same_parts : (n : ℕ) (r : Relation) (d : Dependency) (one other : List BrokenPart) → AreBrokenParts n r d one → AreBrokenParts n r d other → one ≡ other
same_parts n r (fd x y) one other (c, is) (d, also) =
    let by : List ℕ → List ℕ → List ℕ → List ℕ → List ℕ → List Bool → List BrokenPart = λ groups firsts classes class_firsts chosen broken.
    map (λ (class : ℕ). record {
      group = ordinal broken (number_at (map (number_at groups) class_firsts) class);
      rows = rows_of classes class;
      first = number_at class_firsts class;
      mark = mark_of (class == number_at chosen (number_at (map (number_at groups) class_firsts) class));
    }) (in_flagged (map (number_at groups) class_firsts) broken (length broken)) in
    is ∙ same_of_classes by c d ∙ sym also
same_parts n r (mvd x y) one other (c, is) (d, also) =
    let by : List ℕ → List ℕ → List ℕ → List ℕ → List ℕ → List ℕ → List Bool → List BrokenPart = λ groups firsts lefts left_firsts rests rest_firsts broken.
    map (λ (group : ℕ). record {
      group = ordinal broken group;
      rows = rows_of groups group;
      first = number_at firsts group;
      mark = mark.Unmarked;
    }) (members_below (length broken) (flag_at broken)) in
    is ∙ same_of_parts by c d ∙ sym also

pub same_rows : (n : ℕ) (r : Relation) (d : Dependency) (one other : List BrokenRow) → AreBrokenRows n r d one → AreBrokenRows n r d other → one ≡ other
same_rows n r (fd x y) one other (c, is) (d, also) =
    let by : List ℕ → List ℕ → List ℕ → List ℕ → List ℕ → List Bool → List BrokenRow = λ groups firsts classes class_firsts chosen broken.
    map (λ (i : ℕ). record {
      group = ordinal broken (number_at groups i);
      row = i;
      mark = mark_of (in_chosen groups classes chosen i);
    }) (in_flagged groups broken (length broken)) in
    is ∙ same_of_classes by c d ∙ sym also
same_rows n r (mvd x y) one other (c, is) (d, also) =
    let by : List ℕ → List ℕ → List ℕ → List ℕ → List ℕ → List ℕ → List Bool → List BrokenRow = λ groups firsts lefts left_firsts rests rest_firsts broken.
    map (λ (i : ℕ). record {
      group = ordinal broken (number_at groups i);
      row = i;
      mark = mark.Unmarked;
    }) (in_flagged groups broken (length broken)) in
    is ∙ same_of_parts by c d ∙ sym also

pub same_kept : (ds : List Dependency) (r : Relation) (one other : List Bool) → AreKeptFlags ds r one → AreKeptFlags ds r other → one ≡ other
same_kept ds r one other a b =
    ext_get_or false one other (a.one_each ∙ sym b.one_each) (λ i low.
    let within : i < length r = omega (arith, low, a.one_each) in
    same_truth (flag_at one i) (flag_at other i) (λ is. (b.told i within).1 ((a.told i within).0 is)) (λ is. (a.told i within).1 ((b.told i within).0 is)))

-- ---- what the measure counts
pub count_all : (x : Attributes) (n : ℕ) → count_below (λ i. not (x i)) n + count_below x n ≡ n
unfolding count_below
count_all x zero = refl
count_all x (suc n) = grind (arith, count_all x n)

pub measured_least : (n : ℕ) (x y : Attributes) (r : Relation) (m : Measure) → IsOver n r → IsMeasure n r (fd x y) m
    → (stays : Positions) × IsLeastRemoval n (fd x y) r stays × IsLeastChange n x y r stays × (m.amount + length (rows_at stays r) ≡ length r)
measured_least n x y r m over (c, is) =
    let stays : Positions = in_chosen c.groups c.classes c.chosen in
    let amount : m.amount ≡ count_below (λ i. not (stays i)) (length r) =
    ap (λ (q : Measure). q.amount) is ∙ ap (count_below (λ i. not (stays i))) c.by_left.one_each in (
      stays,
      least x y r c.groups c.classes c.chosen c.by_left c.by_both c.largest.largest n,
      least_change x y r c.groups c.classes c.chosen c.by_left c.by_both c.largest.largest n over,
      omega (arith, amount, count_staying stays r, count_all stays (length r)),
    )

-- ---- the rows that are marked as removed
contains_front : (xs ys : List ℕ) (a : ℕ) → Contains xs a → Contains (xs ++ ys) a
contains_front xs ys a (i, low, at) = (i, omega (arith, low, length-append xs ys), get_or_append_left xs ys a i low ∙ at)

contains_back : (xs ys : List ℕ) (a : ℕ) → Contains ys a → Contains (xs ++ ys) a
contains_back xs ys a (i, low, at) = (length xs + i, omega (arith, low, length-append xs ys), get_or-append-add xs ys i a ∙ at)

in_positions : (numbers : List ℕ) (i : ℕ) → i < length numbers → Contains (positions_of numbers (number_at numbers i)) i
in_positions numbers i low =
    let x : Attributes = λ k. number_at numbers k == number_at numbers i in
    let here : x i ≡ true = eq-eqb (number_at numbers i) (number_at numbers i) refl in
    (count_below x i, omega (arith, length-members_below (length numbers) x, count_below-before_member (length numbers) i x low here), members_below-at (length numbers) x i i low here)

in_flagged_has : (numbers : List ℕ) (flags : List Bool) (m i : ℕ) → i < length numbers → number_at numbers i < m
    → flag_at flags (number_at numbers i) ≡ true → Contains (in_flagged numbers flags m) i
unfolding in_flagged
in_flagged_has numbers flags zero i low below set = absurd (omega (arith, below))
in_flagged_has numbers flags (suc m) i low below set = ⊎_elim
    (λ (before : number_at numbers i < m). contains_front (in_flagged numbers flags m) (if flag_at flags m then positions_of numbers m else []) i
    (in_flagged_has numbers flags m i low before set))
    (λ (last : m ≤ number_at numbers i).
    let at : number_at numbers i ≡ m = omega (arith, below, last) in
    let flagged : flag_at flags m ≡ true = subst (λ (h : ℕ). flag_at flags h ≡ true) at set in
    contains_back (in_flagged numbers flags m) (if flag_at flags m then positions_of numbers m else []) i
    (rw flagged (subst (λ (h : ℕ). Contains (positions_of numbers h) i) at (in_positions numbers i low))))
    (cases_lt (number_at numbers i) m)

removed_mark : (kept : Bool) → mark_of kept ≡ mark.Removed → kept ≡ false
removed_mark true is = cc
removed_mark false is = refl

module _ (x y : Attributes) (r : Relation) (c : Classes x y r) where
  abbrev stays : Positions
  stays = in_chosen c.groups c.classes c.chosen

  -- a row outside the chosen class is in a broken group
  outside_broken : (i : ℕ) → i < length c.groups → stays i ≡ false → flag_at c.broken (number_at c.groups i) ≡ true
  outside_broken i low out =
      let h : ℕ = number_at c.groups i in
      let h_in : h < length c.firsts = c.group_rows.each i low in
      let (j, j_in, j_group, j_class) = (c.largest.largest.largest h (omega (arith, h_in, c.largest.one_each))).within in
      (c.flags.told h (omega (arith, h_in, c.flags.one_each))).1
      (i, j, low, j_in, refl, j_group, λ same. true≢false (sym (eq-eqb _ _ (same ∙ j_class)) ∙ out))

  pub removed_are : (rows : List BrokenRow) → rows ≡ map (class_row c) (in_flagged c.groups c.broken (length c.broken))
      → (i : ℕ) → i < length r → (stays i ≡ false) ↔ IsRemoved rows i
  removed_are rows is i low = (
    λ out.
        let within : i < length c.groups = omega (arith, low, c.by_left.one_each) in
        let h_in : number_at c.groups i < length c.broken = omega (arith, c.group_rows.each i within, c.flags.one_each) in
        let there = in_flagged_has c.groups c.broken (length c.broken) i within h_in (outside_broken i within out) in
        (class_row c i, subst (λ (l : List BrokenRow). Contains l (class_row c i)) (sym is) (Contains-map (class_row c) (in_flagged c.groups c.broken (length c.broken)) i there), refl, ap mark_of out),
    λ removed.
        let (b, there, row, marked) = removed in
        let from = map-member (class_row c) (in_flagged c.groups c.broken (length c.broken)) b (subst (λ (l : List BrokenRow). Contains l b) is there) in
        let same : from.0 ≡ i = ap (λ (q : BrokenRow). q.row) from.2 ∙ row in
        ap stays (sym same) ∙ removed_mark (stays from.0) (ap (λ (q : BrokenRow). q.mark) from.2 ∙ marked),
  )

-- ---- the rows that are kept
module _ (ds : List Dependency) (r : Relation) (kept : List Bool) (are : AreKeptFlags ds r kept) where
  kept_by : (x y : Attributes) → Contains ds (fd x y) → (c : Classes x y r) → (i : ℕ) → i < length r → flag_at kept i ≡ true → in_chosen c.groups c.classes c.chosen i ≡ true
  kept_by x y there c i low set =
      let here = All-contains (IsKeptRow r i) ds (fd x y) ((are.told i low).0 set) there in
      same_of_classes (λ groups firsts classes class_firsts chosen broken. in_chosen groups classes chosen i) c here.0 ∙ here.1

  kept_obey : (n : ℕ) (x y : Attributes) → Contains ds (fd x y) → ObeysFd x y (rows_at (flag_at kept) r)
  kept_obey n x y there t u t_in u_in agree =
      let (i, i_in, i_kept, i_is) = stands (flag_at kept) r t t_in in
      let (j, j_in, j_kept, j_is) = stands (flag_at kept) r u u_in in
      let first = All-contains (IsKeptRow r i) ds (fd x y) ((are.told i i_in).0 i_kept) there in
      let c = first.0 in
      let stays : Positions = in_chosen c.groups c.classes c.chosen in
      let obeys = (least x y r c.groups c.classes c.chosen c.by_left c.by_both c.largest.largest n).obeys in
      let t_stays : Contains (rows_at stays r) t = subst (Contains (rows_at stays r)) i_is (stay stays r i i_in first.1) in
      let u_stays : Contains (rows_at stays r) u = subst (Contains (rows_at stays r)) j_is (stay stays r j j_in (kept_by x y there c j j_in j_kept)) in
      obeys t u t_stays u_stays agree

  obeyed : (n : ℕ) (d : Dependency) → is_fd d ≡ true → Contains ds d → Obeys n d (rows_at (flag_at kept) r)
  obeyed n (fd x y) is there = kept_obey n x y there
  obeyed n (mvd x y) is there = absurd (true≢false (sym is))

  pub kept_legal : (n : ℕ) → IsOver n r → All (λ d. is_fd d ≡ true) ds → IsLegal n ds (rows_at (flag_at kept) r)
  kept_legal n over functional = record {
    over = λ k d low.
        let (i, i_in, i_kept, i_is) = stands (flag_at kept) r (get_or (rows_at (flag_at kept) r) k d) (k, low, get_or_default (rows_at (flag_at kept) r) k (get_or (rows_at (flag_at kept) r) k d) d low) in
        ap length (sym i_is) ∙ IsOver-length n r (row_at r i) over (member_of r i i_in);
    obeys = λ k d low. obeyed n (get_or ds k d) (functional k d low) (k, low, get_or_default ds k (get_or ds k d) d low);
  }
