-- The least pair that breaks a multivalued dependency, by counts of parts.
use Rattle.std.proofs.Common.{inl, inr, ◌≡◌, ◌+◌, ◌<◌, ◌≤◌, ◌==◌, ◌&&◌, ◌||◌, not, nat_lt, ℕ, Bool, true, false, true≢false, List, set, replicate, length, Option, Some, None, refl, sym, ap, subst, ◌∙◌, arith}
use mathlib.Core.Path.{fun_ext}
use Rattle.std.proofs.lemmas.List.{get_or-set_other, length-set}
use Rattle.std.proofs.lemmas.Grind.{get_or-set_at}
use Rattle.std.proofs.lemmas.Bool.{cases_Bool, cases_lt, eqb-true, eq-eqb}
use Rattle.attr_sets.specs.Attributes.{Attributes, IsSubset, below, union, difference, only, count_below}
use Rattle.attr_sets.proofs.AttributesLemmas.{tell_member, count_below-difference_only, count_below-member, count_below-outside, union_within, same_at}
use Rattle.dep_model.specs.Tuples.{Tuple, Relation, AgreeOn, value_at}
use Rattle.dep_model.specs.Dependencies.{mvd, Obeys, rest_beside}
use Rattle.row_groups.specs.Numberings.{number_at, AreGroups, AreFirsts}
use Rattle.row_store.specs.Rows.{row_at}
use Rattle.row_groups.proofs.NumberingLemmas.{zeros_at, row_of}
use Rattle.legality.specs.Offences.{BreaksAt}
use Rattle.legality.specs.Answers.{IsLeastOffence}
use Rattle.legality.specs.Parts.{part_count, ArePartCounts, IsFirstShort, flag_at, AreBeside, IsFirstMissing}
use Rattle.legality.specs.declared.pair.Pair.{Pair}
use Rattle.legality.proofs.CountLemmas.{count_below-injection, other_number}
use Rattle.legality.proofs.PairLemmas.{member_of}
use Rattle.dep_model.proofs.TwoRowLemmas.{AgreeOn-union, AgreeOn-left, AgreeOn-right, AgreeOn-trans}
use Rattle.dep_model.proofs.SchemeLemmas.{count_below-start}

-- rows over n attributes, grouped by x, by x and y, by x and the rest, and by all attributes
pub record Grouping (n : ℕ) (r : Relation) (x y : Attributes) (g fg l fl z fz a fa : List ℕ) : Type 0 where
  pub left : AreGroups r x g
  pub left_firsts : AreFirsts g fg
  pub both : AreGroups r (union x y) l
  pub both_firsts : AreFirsts l fl
  pub rest : AreGroups r (union x (rest_beside (below n) x y)) z
  pub rest_firsts : AreFirsts z fz
  pub all : AreGroups r (below n) a
  pub all_firsts : AreFirsts a fa
  pub x_within : IsSubset x (below n)
  pub y_within : IsSubset y (below n)

agree_of : (r : Relation) (x : Attributes) (g : List ℕ) (i j : ℕ) → AreGroups r x g → i < length r → j < length r → number_at g i ≡ number_at g j → AgreeOn x (row_at r i) (row_at r j)
agree_of r x g i j k li lj e = (k.equal i j li lj).0 e

number_of : (r : Relation) (x : Attributes) (g : List ℕ) (i j : ℕ) → AreGroups r x g → i < length r → j < length r → AgreeOn x (row_at r i) (row_at r j) → number_at g i ≡ number_at g j
number_of r x g i j k li lj e = (k.equal i j li lj).1 e

-- what agrees on both parts agrees everywhere
pub agree_all : (n : ℕ) (x y : Attributes) (t u : Tuple) → AgreeOn (union x y) t u → AgreeOn (union x (rest_beside (below n) x y)) t u → AgreeOn (below n) t u
agree_all n x y t u a b m low = elim (cases_Bool (union x y m)) [
  | inl has ↦ a m has
  | inr lacks ↦ AgreeOn-right x (rest_beside (below n) x y) t u b m (ap (λ (c : Bool). c && not (union x y m)) low ∙ ap not lacks)
]

agree_part : (n : ℕ) (x : Attributes) (t u : Tuple) → IsSubset x (below n) → AgreeOn (below n) t u → AgreeOn x t u
agree_part n x t u within a m has = a m (within m has)

pub rest_within : (n : ℕ) (x y : Attributes) → IsSubset (rest_beside (below n) x y) (below n)
rest_within n x y m has = by (nat_lt m n) has
  where
    by : (c : Bool) → (c && not (union x y m)) ≡ true → c ≡ true
    by true h = refl
    by false h = h

module _ (n : ℕ) (r : Relation) (x y : Attributes) (g fg l fl z fz a fa : List ℕ) (k : Grouping n r x y g fg l fl z fz a fa) where
  first_in : (xs firsts : List ℕ) → AreFirsts xs firsts → length xs ≡ length r → (h : ℕ) → h < length firsts → number_at firsts h < length r
  first_in xs firsts f size h low = omega (arith, f.within h low, size)

  -- a row between two others: it is the first on x and y, and the second on the rest
  abbrev Beside : ℕ → ℕ → Type 0
  Beside i j = (v : ℕ) × (v < length r) × (number_at l v ≡ number_at l i) × (number_at z v ≡ number_at z j)

  -- the same left part and the same rest are one row
  one_row : (i h q : ℕ) → i < length r → h < length fa → q < length fa → number_at l (number_at fa h) ≡ number_at l i → number_at l (number_at fa q) ≡ number_at l i
      → number_at z (number_at fa h) ≡ number_at z (number_at fa q) → h ≡ q
  one_row i h q li hl ql eh eq ez =
      let lh : number_at fa h < length r = first_in a fa k.all_firsts k.all.one_each h hl in
      let lq : number_at fa q < length r = first_in a fa k.all_firsts k.all.one_each q ql in
      let same = agree_all n x y _ _ (agree_of r _ l _ _ k.both lh lq (eh ∙ sym eq)) (agree_of r _ z _ _ k.rest lh lq ez) in
      sym (k.all_firsts.number h hl) ∙ number_of r (below n) a _ _ k.all lh lq same ∙ k.all_firsts.number q ql

  -- where a row has all parts of its group, it has the rest of each row of the group beside it
  enough : (i j : ℕ) → i < length r → j < length r → number_at g j ≡ number_at g i → part_count g fz (number_at g i) ≤ part_count l fa (number_at l i) → Beside i j
  enough i j li lj same counts = elim (tell_member (length r) (λ v. (number_at l v == number_at l i) && (number_at z v == number_at z j))) [
    | inl found ↦ (found.0, found.1, eqb-true _ _ (and_left _ _ found.2), eqb-true _ _ (and_right _ _ found.2))
    | inr none ↦
        let z0 : ℕ = number_at z j in
        let low : z0 < length fz = k.rest_firsts.each j (omega (arith, lj, k.rest.one_each)) in
        let f0 : number_at fz z0 < length r = first_in z fz k.rest_firsts k.rest.one_each z0 low in
        let owner : number_at g (number_at fz z0) ≡ number_at g i =
        number_of r x g _ _ k.left f0 lj (AgreeOn-left x (rest_beside (below n) x y) _ _ (agree_of r _ z _ _ k.rest f0 lj (k.rest_firsts.number z0 low))) ∙ same in
        let fewer = count_below-injection (length fa) (length fz) (λ h. number_at l (number_at fa h) == number_at l i) (difference (λ h. number_at g (number_at fz h) == number_at g i) (only z0)) (λ h p. number_at z (number_at fa h) ≡ p)
        (λ h hl is.
        let v : ℕ = number_at fa h in
        let lv : v < length r = first_in a fa k.all_firsts k.all.one_each h hl in
        let at : number_at l v ≡ number_at l i = eqb-true _ _ is in
        let p : ℕ = number_at z v in
        let pl : p < length fz = k.rest_firsts.each v (omega (arith, lv, k.rest.one_each)) in
        let fp : number_at fz p < length r = first_in z fz k.rest_firsts k.rest.one_each p pl in
        let mine : number_at g (number_at fz p) ≡ number_at g i =
        number_of r x g _ _ k.left fp lv (AgreeOn-left x (rest_beside (below n) x y) _ _ (agree_of r _ z _ _ k.rest fp lv (k.rest_firsts.number p pl)))
        ∙ number_of r x g _ _ k.left lv li (AgreeOn-left x y _ _ (agree_of r _ l _ _ k.both lv li at)) in
        let apart : (p == z0) ≡ false = other_number p z0 (λ e. true≢false (sym (ap (λ (b : Bool). b && (number_at z v == z0)) is ∙ eq-eqb p z0 e) ∙ none v lv)) in
        (p, pl, ap (λ (b : Bool). b && not (p == z0)) (eq-eqb _ _ mine) ∙ ap not apart, refl))
        (λ h q p hl ql ih iq eh eq. one_row i h q li hl ql (eqb-true _ _ ih) (eqb-true _ _ iq) (eh ∙ sym eq)) in
        absurd (omega (arith, fewer, counts, count_below-difference_only (length fz) (λ h. number_at g (number_at fz h) == number_at g i) z0 low (eq-eqb _ _ owner)))
  ]
    where
      and_left : (b c : Bool) → (b && c) ≡ true → b ≡ true
      and_left true c h = refl
      and_left false c h = h

      and_right : (b c : Bool) → (b && c) ≡ true → c ≡ true
      and_right true c h = h
      and_right false c h = absurd (true≢false (sym h))

  -- where each row of the group has a row beside it, a row has all parts of its group
  short : (i : ℕ) → i < length r → part_count l fa (number_at l i) < part_count g fz (number_at g i)
      → ((j : ℕ) → j < length r → number_at g j ≡ number_at g i → Beside i j) → ⊥
  short i li less every =
      let all = count_below-injection (length fz) (length fa) (λ p. number_at g (number_at fz p) == number_at g i) (λ h. number_at l (number_at fa h) == number_at l i) (λ p h. number_at z (number_at fa h) ≡ p)
      (λ p pl is.
      let lp : number_at fz p < length r = first_in z fz k.rest_firsts k.rest.one_each p pl in
      let (v, lv, left, rest) = every (number_at fz p) lp (eqb-true _ _ is) in
      let h : ℕ = number_at a v in
      let hl : h < length fa = k.all_firsts.each v (omega (arith, lv, k.all.one_each)) in
      let lh : number_at fa h < length r = first_in a fa k.all_firsts k.all.one_each h hl in
      let same : AgreeOn (below n) (row_at r (number_at fa h)) (row_at r v) = agree_of r (below n) a _ _ k.all lh lv (k.all_firsts.number h hl) in (
        h,
        hl,
        eq-eqb _ _ (number_of r _ l _ _ k.both lh lv (agree_part n (union x y) _ _ (union_within n x y k.x_within k.y_within) same) ∙ left),
        number_of r _ z _ _ k.rest lh lv (agree_part n (union x (rest_beside (below n) x y)) _ _ (union_within n x (rest_beside (below n) x y) k.x_within (rest_within n x y)) same) ∙ rest ∙ k.rest_firsts.number p pl,
      ))
      (λ p q h pl ql ip iq ep eq. sym ep ∙ eq) in
      absurd (omega (arith, all, less))

  -- a row beside two others keeps them from breaking the dependency
  not_broken : (i j : ℕ) → BreaksAt n r (mvd x y) i j → Beside i j → ⊥
  not_broken i j (li, lj, (agrees, none)) (v, lv, left, rest) =
      none (row_at r v) (member_of r v lv) (agree_of r _ l _ _ k.both lv li left) (AgreeOn-right x (rest_beside (below n) x y) _ _ (agree_of r _ z _ _ k.rest lv lj rest))

  broken : (i j : ℕ) → i < length r → j < length r → number_at g j ≡ number_at g i → (Beside i j → ⊥) → BreaksAt n r (mvd x y) i j
  broken i j li lj same nope =
      let agrees : AgreeOn x (row_at r i) (row_at r j) = agree_of r x g _ _ k.left li lj (sym same) in (
        li,
        lj,
        (
          agrees,
          λ v member av au.
              let (m, lm, at) = row_of r v member in
              let am : AgreeOn (union x y) (row_at r m) (row_at r i) = λ p h. ap (λ (t : Tuple). value_at t p) at ∙ av p h in
              let bm : AgreeOn (rest_beside (below n) x y) (row_at r m) (row_at r j) = λ p h. ap (λ (t : Tuple). value_at t p) at ∙ au p h in
              nope (
                m,
                lm,
                number_of r _ l _ _ k.both lm li am,
                number_of r _ z _ _ k.rest lm lj (AgreeOn-union x (rest_beside (below n) x y) _ _ (AgreeOn-trans x _ _ _ (AgreeOn-left x y _ _ am) agrees) bm),
              ),
        ),
      )

  enough_counts : (wanted present : List ℕ) → ArePartCounts g fg fz wanted → ArePartCounts l fl fa present → (i : ℕ) → i < length r
      → number_at wanted (number_at g i) ≤ number_at present (number_at l i) → part_count g fz (number_at g i) ≤ part_count l fa (number_at l i)
  enough_counts wanted present w p i li c =
      omega (arith, c, w.count (number_at g i) (k.left_firsts.each i (omega (arith, li, k.left.one_each))), p.count (number_at l i) (k.both_firsts.each i (omega (arith, li, k.both.one_each))))

  -- no row is short of parts
  pub none_short : (wanted present : List ℕ) → ArePartCounts g fg fz wanted → ArePartCounts l fl fa present → IsFirstShort g wanted l present None → Obeys n (mvd x y) r
  none_short wanted present w p counts t u ht hu agrees =
      let (i, li, ti) = row_of r t ht in
      let (j, lj, uj) = row_of r u hu in
      let same : number_at g j ≡ number_at g i = sym (number_of r x g _ _ k.left li lj (λ m h. ap (λ (v : Tuple). value_at v m) ti ∙ agrees m h ∙ ap (λ (v : Tuple). value_at v m) (sym uj))) in
      let (v, lv, left, rest) = enough i j li lj same (enough_counts wanted present w p i li (counts i (omega (arith, li, k.left.one_each)))) in (
        row_at r v,
        member_of r v lv,
        (λ m h. agree_of r _ l _ _ k.both lv li left m h ∙ ap (λ (w : Tuple). value_at w m) ti),
        (λ m h. AgreeOn-right x (rest_beside (below n) x y) _ _ (agree_of r _ z _ _ k.rest lv lj rest) m h ∙ ap (λ (w : Tuple). value_at w m) uj),
      )

  -- the first row that is short of parts, and the first whose rest is missing beside it
  pub first_short : (wanted present : List ℕ) (flags : List Bool) (f : ℕ) (o : Option Pair) → ArePartCounts g fg fz wanted → ArePartCounts l fl fa present
      → IsFirstShort g wanted l present (Some f) → AreBeside l z f (length l) flags → IsFirstMissing g z flags f o → IsLeastOffence n r (mvd x y) o
  first_short wanted present flags f None w p (lf, less, before) beside missing =
      let fl' : f < length r = omega (arith, lf, k.left.one_each) in
      absurd (short f fl'
      (omega (arith, less, w.count (number_at g f) (k.left_firsts.each f lf), p.count (number_at l f) (k.both_firsts.each f (omega (arith, fl', k.both.one_each)))))
      (λ j lj same. let (v, lv, left, rest) = beside.seen (number_at z j) (missing j (omega (arith, lj, k.left.one_each)) same) in (v, omega (arith, lv, k.both.one_each), left, rest)))
  first_short wanted present flags f (Some q) w p (lf, less, before) beside (first, low, same, gone, earlier) =
      let fr : f < length r = omega (arith, lf, k.left.one_each) in
      let qr : q.second < length r = omega (arith, low, k.left.one_each) in
      let break : BreaksAt n r (mvd x y) f q.second = broken f q.second fr qr same
      (λ b. true≢false (sym (ap (flag_at flags) (sym b.3) ∙ beside.all b.0 (omega (arith, b.1, k.both.one_each)) b.2) ∙ gone)) in
      record {
        breaks = subst (λ (i : ℕ). BreaksAt n r (mvd x y) i q.second) (sym first) break;
        least = λ i j h. elim (cases_lt i f) [
          | inl front ↦ absurd (not_broken i j h (enough i j h.0 h.1 (sym (number_of r x g _ _ k.left h.0 h.1 h.2.0)) (enough_counts wanted present w p i h.0 (before i front))))
          | inr over ↦ elim (cases_lt f i) [
            | inl after ↦ inl (omega (arith, after, first))
            | inr at ↦
                let e : f ≡ i = omega (arith, over, at) in
                inr (
                  first ∙ e,
                  elim (cases_lt j q.second) [
                    | inl less ↦
                        let one : number_at g j ≡ number_at g f = sym (number_of r x g _ _ k.left h.0 h.1 h.2.0) ∙ ap (number_at g) (sym e) in
                        let (v, lv, left, rest) = beside.seen (number_at z j) (earlier j less one) in
                        absurd (not_broken i j h (v, omega (arith, lv, k.both.one_each), left ∙ ap (number_at l) e, rest))
                    | inr more ↦ more
                  ],
                )
          ]
        ];
      }

-- ---- what the code finds out

-- the sets by which the rows are grouped
rest_set : (n : ℕ) (x y u s m t : Attributes) → u ≡ below n → s ≡ union x y → m ≡ difference u s → t ≡ union x m → t ≡ union x (rest_beside (below n) x y)
rest_set n x y u s m t hu hs hm ht = fun_ext (λ k.
    let rest : m k ≡ rest_beside (below n) x y k = same_at hm k ∙ ap (λ (b : Bool). b && not (s k)) (same_at hu k) ∙ ap (λ (b : Bool). nat_lt k n && not b) (same_at hs k) in
    same_at ht k ∙ ap (λ (b : Bool). x k || b) rest)

pub grouping : (n : ℕ) (r : Relation) (x y u s m t : Attributes) (g fg l fl z fz a fa : List ℕ) → u ≡ below n → s ≡ union x y → m ≡ difference u s → t ≡ union x m
    → IsSubset x (below n) → IsSubset y (below n) → AreGroups r x g → AreFirsts g fg → AreGroups r s l → AreFirsts l fl → AreGroups r t z → AreFirsts z fz → AreGroups r u a → AreFirsts a fa
    → Grouping n r x y g fg l fl z fz a fa
grouping n r x y u s m t g fg l fl z fz a fa hu hs hm ht hx hy left left_firsts both both_firsts rest rest_firsts all all_firsts = record {
  left = left;
  left_firsts = left_firsts;
  both = subst (λ (p : Attributes). AreGroups r p l) hs both;
  both_firsts = both_firsts;
  rest = subst (λ (p : Attributes). AreGroups r p z) (rest_set n x y u s m t hu hs hm ht) rest;
  rest_firsts = rest_firsts;
  all = subst (λ (p : Attributes). AreGroups r p a) hu all;
  all_firsts = all_firsts;
  x_within = hx;
  y_within = hy;
}

-- the group of the first row of a part
pub group_of : (numbers firsts xs ys : List ℕ) (i : ℕ) → xs ≡ numbers → ys ≡ firsts → number_at xs (number_at ys i) ≡ number_at numbers (number_at firsts i)
group_of numbers firsts xs ys i e f = ap (λ (zs : List ℕ). number_at zs (number_at ys i)) e ∙ ap (λ (zs : List ℕ). number_at numbers (number_at zs i)) f

pub group_within : (numbers firsts other parts : List ℕ) (i : ℕ) → AreFirsts numbers firsts → AreFirsts other parts → length numbers ≡ length other → i < length parts
    → number_at numbers (number_at parts i) < length firsts
group_within numbers firsts other parts i f p same l = f.each (number_at parts i) (omega (arith, same, p.within i l))

-- one part more is counted
pub part_counted : (value : ℕ → ℕ) (counts new : List ℕ) (n : ℕ) → value n < length counts → new ≡ set counts (value n) (number_at counts (value n) + 1)
    → ((h : ℕ) → h < length counts → number_at counts h ≡ count_below (λ g. value g == h) n)
    → (h : ℕ) → h < length new → number_at new h ≡ count_below (λ g. value g == h) (n + 1)
part_counted value counts new n low e old h l =
    let hl : h < length counts = omega (arith, l, ap length e, length-set counts (value n) (number_at counts (value n) + 1)) in
    elim (cases_Bool (value n == h)) [
      | inl is ↦
          let at : value n ≡ h = eqb-true _ _ is in
          ap (λ (xs : List ℕ). number_at xs h) e ∙ get_or-set_at counts (value n) h (number_at counts (value n) + 1) 0 (sym at) low
          ∙ ap (λ (m : ℕ). number_at counts m + 1) at ∙ ap (λ (m : ℕ). m + 1) (old h hl) ∙ sym (count_below-member n (λ g. value g == h) is)
      | inr other ↦
          ap (λ (xs : List ℕ). number_at xs h) e ∙ get_or-set_other counts (value n) h (number_at counts (value n) + 1) 0 (λ q. true≢false (sym (eq-eqb _ _ (sym q)) ∙ other))
          ∙ old h hl ∙ sym (count_below-outside n (λ g. value g == h) other)
    ]

pub no_parts : (value : ℕ → ℕ) (n h : ℕ) (counts : List ℕ) → counts ≡ replicate n 0 → number_at counts h ≡ count_below (λ g. value g == h) 0
no_parts value n h counts e = ap (λ (xs : List ℕ). number_at xs h) e ∙ zeros_at n h ∙ sym (count_below-start (λ g. value g == h))

-- a slice that is a list known
pub below_firsts : (numbers firsts xs ys : List ℕ) → xs ≡ numbers → ys ≡ firsts → AreFirsts numbers firsts → (i : ℕ) → i < length xs → number_at xs i < length ys
below_firsts numbers firsts xs ys e f a i l =
    let each : number_at numbers i < length firsts = a.each i (subst (λ (zs : List ℕ). i < length zs) e l) in
    subst (λ (zs : List ℕ). number_at xs i < length zs) (sym f) (subst (λ (zs : List ℕ). number_at zs i < length firsts) (sym e) each)

pub short_known : (g w l p gs ws ls ps : List ℕ) (o : Option ℕ) → gs ≡ g → ws ≡ w → ls ≡ l → ps ≡ p → IsFirstShort gs ws ls ps o → IsFirstShort g w l p o
short_known g w l p gs ws ls ps o eg ew el ep h =
    subst (λ (xs : List ℕ). IsFirstShort g w l xs o) ep (subst (λ (xs : List ℕ). IsFirstShort g w xs ps o) el
    (subst (λ (xs : List ℕ). IsFirstShort g xs ls ps o) ew (subst (λ (xs : List ℕ). IsFirstShort xs ws ls ps o) eg h)))

pub beside_known : (l z ls zs : List ℕ) (f : ℕ) (flags : List Bool) → ls ≡ l → zs ≡ z → AreBeside ls zs f (length ls) flags → AreBeside l z f (length l) flags
beside_known l z ls zs f flags el ez h =
    subst (λ (xs : List ℕ). AreBeside l xs f (length l) flags) ez (subst (λ (xs : List ℕ). AreBeside xs zs f (length xs) flags) el h)

pub missing_known : (g z gs zs : List ℕ) (flags bs : List Bool) (f : ℕ) (o : Option Pair) → gs ≡ g → zs ≡ z → bs ≡ flags → IsFirstMissing gs zs bs f o → IsFirstMissing g z flags f o
missing_known g z gs zs flags bs f o eg ez eb h =
    subst (λ (xs : List Bool). IsFirstMissing g z xs f o) eb (subst (λ (xs : List ℕ). IsFirstMissing g xs bs f o) ez (subst (λ (xs : List ℕ). IsFirstMissing xs zs bs f o) eg h))
