-- How many pairs of a left part and a rest are missing, by how many rests stand beside each left part.
use Rattle.std.proofs.Common.{◌≡◌, ◌+◌, ◌-◌, ◌<◌, ◌≤◌, ◌==◌, ◌&&◌, not, ℕ, suc, Bool, true, false, true≢false, List, length, map, refl, sym, ap, subst, ◌∙◌, ⊎_elim, arith}
use Rattle.std.proofs.lemmas.Bool.{and_parts, cases_Bool, eq-eqb, eqb-true, and_from}
use Rattle.std.proofs.lemmas.List.{get_or-map, length-map}
use Rattle.attr_sets.specs.Attributes.{Attributes, below, union, difference, count_below}
use Rattle.attr_sets.proofs.AttributesLemmas.{tell_member, count_below-difference, count_below-none, count_below-pos, union_within}
use Rattle.row_groups.specs.Numberings.{AreFirsts, AreGroups, number_at}
use Rattle.dep_model.specs.Tuples.{Relation, AgreeOn}
use Rattle.dep_model.proofs.TwoRowLemmas.{AgreeOn-left}
use Rattle.dep_model.specs.Dependencies.{rest_beside}
use Rattle.legality.specs.Parts.{ArePartCounts, flag_at, part_count}
use Rattle.legality.proofs.CountLemmas.{count_below-injection}
use Rattle.legality.proofs.PartLemmas.{Grouping, rest_within, agree_all}
use Rattle.removal_laws.specs.Counts.{total}
use Rattle.removal_laws.proofs.CountLemmas.{total-same}
use Rattle.row_store.specs.Rows.{row_at}
use Rattle.row_measures.specs.Broken.{AreFlags, LacksRow, is_absent, lacks, missing_pairs}
use Rattle.row_measures.specs.ByPart.{AreShort, shortage}

number_of : (r : Relation) (x : Attributes) (numbers : List ℕ) (i j : ℕ) → AreGroups r x numbers → i < length r → j < length r
    → AgreeOn x (row_at r i) (row_at r j) → number_at numbers i ≡ number_at numbers j
number_of r x numbers i j are i_in j_in = (are.equal i j i_in j_in).1

agree_of : (r : Relation) (x : Attributes) (numbers : List ℕ) (i j : ℕ) → AreGroups r x numbers → i < length r → j < length r
    → number_at numbers i ≡ number_at numbers j → AgreeOn x (row_at r i) (row_at r j)
agree_of r x numbers i j are i_in j_in = (are.equal i j i_in j_in).0

-- ---- a row has a left part and a rest
abbrev has_both : List ℕ → List ℕ → ℕ → ℕ → Attributes
has_both l z p q v = (number_at l v == p) && (number_at z v == q)

pub stands_beside : (l z : List ℕ) (p q v : ℕ) → v < length l → number_at l v ≡ p → number_at z v ≡ q → is_absent l z p q ≡ false
stands_beside l z p q v low left right =
    let there : has_both l z p q v ≡ true = and_from _ _ (eq-eqb _ _ left) (eq-eqb _ _ right) in
    let more = count_below-pos (length l) (has_both l z p q) v low there in
    ⊎_elim (λ (none : is_absent l z p q ≡ true). absurd (omega (arith, more, eqb-true (count_below (has_both l z p q) (length l)) 0 none)))
    (λ (some : is_absent l z p q ≡ false). some) (cases_Bool (is_absent l z p q))

pub none_beside : (l z : List ℕ) (p q : ℕ) → ((v : ℕ) → v < length l → number_at l v ≡ p → number_at z v ≡ q → ⊥) → is_absent l z p q ≡ true
none_beside l z p q none =
    eq-eqb _ 0 (count_below-none (length l) (has_both l z p q) (λ v low.
    ⊎_elim (λ (there : has_both l z p q v ≡ true).
    let both = and_parts (number_at l v == p) (number_at z v == q) there in
    absurd (none v low (eqb-true _ _ both.0) (eqb-true _ _ both.1)))
    (λ (nope : has_both l z p q v ≡ false). nope) (cases_Bool (has_both l z p q v))))

row_beside : (l z : List ℕ) (p q : ℕ) → is_absent l z p q ≡ false → (v : ℕ) × (v < length l) × (number_at l v ≡ p) × (number_at z v ≡ q)
row_beside l z p q some =
    ⊎_elim
    (λ found.
    let both = and_parts (number_at l found.0 == p) (number_at z found.0 == q) found.2 in
    (found.0, found.1, eqb-true _ _ both.0, eqb-true _ _ both.1))
    (λ none. absurd (true≢false (sym (eq-eqb _ 0 (count_below-none (length l) (has_both l z p q) none)) ∙ some)))
    (tell_member (length l) (has_both l z p q))

module _ (n : ℕ) (r : Relation) (x y : Attributes) (g fg l fl z fz a fa : List ℕ) (k : Grouping n r x y g fg l fl z fz a fa) where
  abbrev left_groups : List ℕ
  left_groups = map (number_at g) fl

  first_in : (numbers firsts : List ℕ) → AreFirsts numbers firsts → length numbers ≡ length r → (h : ℕ) → h < length firsts → number_at firsts h < length r
  first_in numbers firsts are size h low = omega (arith, are.within h low, size)

  left_in : (p : ℕ) → p < length fl → number_at fl p < length r
  left_in p low = first_in l fl k.both_firsts k.both.one_each p low

  -- rows with one left part, or with one rest, are of one group
  group_of_left : (i j : ℕ) → i < length r → j < length r → number_at l i ≡ number_at l j → number_at g i ≡ number_at g j
  group_of_left i j i_in j_in same =
      number_of r x g i j k.left i_in j_in (AgreeOn-left x y _ _ (agree_of r (union x y) l i j k.both i_in j_in same))

  group_of_rest : (i j : ℕ) → i < length r → j < length r → number_at z i ≡ number_at z j → number_at g i ≡ number_at g j
  group_of_rest i j i_in j_in same =
      number_of r x g i j k.left i_in j_in (AgreeOn-left x (rest_beside (below n) x y) _ _ (agree_of r (union x (rest_beside (below n) x y)) z i j k.rest i_in j_in same))

  not_absent : (p q v : ℕ) → v < length r → number_at l v ≡ p → number_at z v ≡ q → is_absent l z p q ≡ false
  not_absent p q v v_in left right = stands_beside l z p q v (omega (arith, v_in, k.both.one_each)) left right

  absent : (p q : ℕ) → ((v : ℕ) → v < length r → number_at l v ≡ p → number_at z v ≡ q → ⊥) → is_absent l z p q ≡ true
  absent p q none = none_beside l z p q (λ v low left right. none v (omega (arith, low, k.both.one_each)) left right)

  beside : (p q : ℕ) → is_absent l z p q ≡ false → (v : ℕ) × (v < length r) × (number_at l v ≡ p) × (number_at z v ≡ q)
  beside p q some =
      let (v, low, left, right) = row_beside l z p q some in
      (v, omega (arith, low, k.both.one_each), left, right)

  -- the rests of the group of a left part, those that no row has beside any part, and those that stand beside it
  abbrev of_group : ℕ → Attributes
  of_group p q = number_at g (number_at fz q) == number_at g (number_at fl p)

  abbrev stands : ℕ → Attributes
  stands p = difference (of_group p) (is_absent l z p)

  split_rests : (p : ℕ) → count_below (stands p) (length fz) + count_below (lacks g l fl z fz p) (length fz) ≡ count_below (of_group p) (length fz)
  split_rests p = count_below-difference (length fz) (of_group p) (is_absent l z p)

  -- one row for each rest that stands beside a left part
  row_of_rest : (p q : ℕ) → stands p q ≡ true → (h : ℕ) × (h < length fa) × ((number_at l (number_at fa h) == p) ≡ true) × (number_at z (number_at fa h) ≡ q)
  row_of_rest p q is =
      let parts = and_parts (of_group p q) (not (is_absent l z p q)) is in
      let some : is_absent l z p q ≡ false = ⊎_elim (λ (none : is_absent l z p q ≡ true). absurd (true≢false (sym parts.1 ∙ ap not none))) (λ (h : is_absent l z p q ≡ false). h) (cases_Bool (is_absent l z p q)) in
      let (v, v_in, left, right) = beside p q some in
      let h : ℕ = number_at a v in
      let h_in : h < length fa = k.all_firsts.each v (omega (arith, v_in, k.all.one_each)) in
      let w_in = first_in a fa k.all_firsts k.all.one_each h h_in in
      let same : AgreeOn (below n) (row_at r (number_at fa h)) (row_at r v) = agree_of r (below n) a (number_at fa h) v k.all w_in v_in (k.all_firsts.number h h_in) in
      let both_in = union_within n x y k.x_within k.y_within in
      let rest_in = union_within n x (rest_beside (below n) x y) k.x_within (rest_within n x y) in (
        h,
        h_in,
        eq-eqb _ _ (number_of r (union x y) l (number_at fa h) v k.both w_in v_in (λ m has. same m (both_in m has)) ∙ left),
        number_of r (union x (rest_beside (below n) x y)) z (number_at fa h) v k.rest w_in v_in (λ m has. same m (rest_in m has)) ∙ right,
      )

  rest_of_row : (p h : ℕ) → p < length fl → h < length fa → (number_at l (number_at fa h) == p) ≡ true
      → (q : ℕ) × (q < length fz) × (stands p q ≡ true) × (number_at z (number_at fa h) ≡ q)
  rest_of_row p h low h_in is =
      let v : ℕ = number_at fa h in
      let v_in = first_in a fa k.all_firsts k.all.one_each h h_in in
      let left : number_at l v ≡ p = eqb-true _ _ is in
      let q : ℕ = number_at z v in
      let q_in : q < length fz = k.rest_firsts.each v (omega (arith, v_in, k.rest.one_each)) in
      let w_in = first_in z fz k.rest_firsts k.rest.one_each q q_in in
      let grouped : number_at g (number_at fz q) ≡ number_at g (number_at fl p) =
      group_of_rest (number_at fz q) v w_in v_in (k.rest_firsts.number q q_in)
      ∙ group_of_left v (number_at fl p) v_in (left_in p low) (left ∙ sym (k.both_firsts.number p low)) in
      (q, q_in, and_from _ _ (eq-eqb _ _ grouped) (ap not (not_absent p q v v_in left refl)), refl)

  one_row : (p h m : ℕ) → h < length fa → m < length fa → (number_at l (number_at fa h) == p) ≡ true → (number_at l (number_at fa m) == p) ≡ true
      → number_at z (number_at fa h) ≡ number_at z (number_at fa m) → h ≡ m
  one_row p h m h_in m_in left other same =
      let v_in = first_in a fa k.all_firsts k.all.one_each h h_in in
      let w_in = first_in a fa k.all_firsts k.all.one_each m m_in in
      let alike = agree_all n x y _ _ (agree_of r (union x y) l _ _ k.both v_in w_in (eqb-true _ _ left ∙ sym (eqb-true _ _ other)))
      (agree_of r (union x (rest_beside (below n) x y)) z _ _ k.rest v_in w_in same) in
      sym (k.all_firsts.number h h_in) ∙ number_of r (below n) a _ _ k.all v_in w_in alike ∙ k.all_firsts.number m m_in

  present_rests : (p : ℕ) → p < length fl → part_count l fa p ≡ count_below (stands p) (length fz)
  present_rests p low =
      let few = count_below-injection (length fa) (length fz) (λ h. number_at l (number_at fa h) == p) (stands p) (λ h q. number_at z (number_at fa h) ≡ q)
      (λ h h_in is. rest_of_row p h low h_in is)
      (λ h m q h_in m_in left other at also. one_row p h m h_in m_in left other (at ∙ sym also)) in
      let many = count_below-injection (length fz) (length fa) (stands p) (λ h. number_at l (number_at fa h) == p) (λ q h. number_at z (number_at fa h) ≡ q)
      (λ q q_in is. row_of_rest p q is)
      (λ q m h q_in m_in is other at also. sym at ∙ also) in
      omega (arith, few, many)

  module _ (wanted present : List ℕ) (w : ArePartCounts g fg fz wanted) (s : ArePartCounts l fl fa present) where
    group_low : (p : ℕ) → p < length fl → number_at g (number_at fl p) < length fg
    group_low p low = k.left_firsts.each (number_at fl p) (omega (arith, left_in p low, k.left.one_each))

    group_at : (p : ℕ) → p < length fl → number_at left_groups p ≡ number_at g (number_at fl p)
    group_at p low = get_or-map (number_at g) fl p 0 0 low

    -- of a left part as many rests are missing as its group has more than stand beside it
    pub shortage_at : (p : ℕ) → p < length fl
        → number_at present p + count_below (lacks g l fl z fz p) (length fz) ≡ number_at wanted (number_at left_groups p)
    shortage_at p low =
        let here : number_at wanted (number_at left_groups p) ≡ number_at wanted (number_at g (number_at fl p)) = ap (number_at wanted) (group_at p low) in
        omega (arith, here, w.count (number_at g (number_at fl p)) (group_low p low), s.count p low, present_rests p low, split_rests p)

    pub enough : (p : ℕ) → p < length left_groups → number_at present p ≤ number_at wanted (number_at left_groups p)
    enough p low = omega (arith, shortage_at p (omega (arith, low, length-map fl (number_at g))))

    pub missing_known : shortage left_groups wanted present ≡ missing_pairs g l fl z fz
    missing_known =
        ap (total (λ p. number_at wanted (number_at left_groups p) - number_at present p)) (length-map fl (number_at g))
        ∙ total-same _ _ (length fl) (λ p low. omega (arith, shortage_at p low))

    short_has : (p : ℕ) → p < length fl → number_at present p < number_at wanted (number_at left_groups p) → LacksRow g l z (number_at left_groups p)
    short_has p low less =
        ⊎_elim
        (λ found.
        let q : ℕ = found.0 in
        let parts = and_parts (of_group p q) (is_absent l z p q) found.2 in
        let w_in = first_in z fz k.rest_firsts k.rest.one_each q found.1 in (
          number_at fl p,
          number_at fz q,
          omega (arith, left_in p low, k.left.one_each),
          omega (arith, w_in, k.left.one_each),
          sym (group_at p low),
          eqb-true _ _ parts.0 ∙ sym (group_at p low),
          λ v v_in left right. true≢false (sym parts.1 ∙ not_absent p q v (omega (arith, v_in, k.left.one_each)) (left ∙ k.both_firsts.number p low) (right ∙ k.rest_firsts.number q found.1)),
        ))
        (λ none. absurd (omega (arith, less, shortage_at p low, count_below-none (length fz) (lacks g l fl z fz p) none)))
        (tell_member (length fz) (lacks g l fl z fz p))

    has_short : (i j : ℕ) → i < length g → j < length g → number_at g i ≡ number_at g j
        → ((v : ℕ) → v < length g → number_at l v ≡ number_at l i → number_at z v ≡ number_at z j → ⊥)
        → number_at present (number_at l i) < number_at wanted (number_at left_groups (number_at l i))
    has_short i j i_in j_in same none =
        let i_low : i < length r = omega (arith, i_in, k.left.one_each) in
        let j_low : j < length r = omega (arith, j_in, k.left.one_each) in
        let p : ℕ = number_at l i in
        let q : ℕ = number_at z j in
        let p_in : p < length fl = k.both_firsts.each i (omega (arith, i_low, k.both.one_each)) in
        let q_in : q < length fz = k.rest_firsts.each j (omega (arith, j_low, k.rest.one_each)) in
        let grouped : number_at g (number_at fz q) ≡ number_at g (number_at fl p) =
        group_of_rest (number_at fz q) j (first_in z fz k.rest_firsts k.rest.one_each q q_in) j_low (k.rest_firsts.number q q_in)
        ∙ sym same ∙ sym (group_of_left (number_at fl p) i (left_in p p_in) i_low (k.both_firsts.number p p_in)) in
        let there : lacks g l fl z fz p q ≡ true = and_from _ _ (eq-eqb _ _ grouped)
        (absent p q (λ v v_in left right. none v (omega (arith, v_in, k.left.one_each)) left right)) in
        omega (arith, shortage_at p p_in, count_below-pos (length fz) (lacks g l fl z fz p) q q_in there)

    pub lacking_groups : (flags : List Bool) → length flags ≡ length wanted → AreShort left_groups wanted present (length left_groups) flags
        → AreFlags fg (LacksRow g l z) flags
    lacking_groups flags size are = record {
      one_each = size ∙ w.one_each;
      told = λ h low. (
        λ is.
            let (p, p_in, at, less) = are.seen h is in
            subst (LacksRow g l z) at (short_has p (omega (arith, p_in, length-map fl (number_at g)))
            (subst (λ (m : ℕ). number_at present p < number_at wanted m) (sym at) less)),
        λ lacking.
            let (i, j, i_in, j_in, i_group, j_group, none) = lacking in
            let p : ℕ = number_at l i in
            let i_low : i < length r = omega (arith, i_in, k.left.one_each) in
            let p_in : p < length fl = k.both_firsts.each i (omega (arith, i_low, k.both.one_each)) in
            let here : number_at left_groups p ≡ h = group_at p p_in ∙ group_of_left (number_at fl p) i (left_in p p_in) i_low (k.both_firsts.number p p_in) ∙ i_group in
            subst (λ (m : ℕ). flag_at flags m ≡ true) here
            (are.all p (omega (arith, p_in, length-map fl (number_at g))) (has_short i j i_in j_in (i_group ∙ sym j_group) none)),
      );
    }

-- ---- sums
pub total-start : (f : ℕ → ℕ) → total f 0 ≡ 0
unfolding total
total-start f = refl

pub total-more : (f : ℕ → ℕ) (n : ℕ) → total f (n + 1) ≡ total f n + f n
unfolding total
total-more f n =
    let at : n + 1 ≡ suc n = omega arith in
    ap (total f) at
