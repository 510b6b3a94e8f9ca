-- A multivalued dependency by counting: a relation obeys it exactly where, for each of its different rows, those that
-- agree with it on the left side are as many as those that agree on both sides times those that agree on the left side
-- and the rest.
use Rattle.std.proofs.Common.{◌≡◌, ◌+◌, ◌*◌, ◌<◌, ◌≤◌, ◌⊎◌, ◌==◌, ◌&&◌, ℕ, zero, suc, Bool, true, false, List, length, refl, sym, ap, subst, ◌∙◌, inl, inr, ⊎_elim, arith}
use Rattle.std.specs.Prelude.{◌↔◌, if◌then◌else◌, Contains}
use Rattle.std.proofs.lemmas.Bool.{cases_Bool, eq-eqb, eqb-true, true≢false, and_from}
use Rattle.attr_sets.specs.Attributes.{Attributes, below, count_below, difference, union, IsSubset}
use Rattle.attr_sets.proofs.AttributesLemmas.{count_below-equal, count_below-pos, count_below-none}
use Rattle.row_groups.specs.Numberings.{number_at}
use Rattle.row_groups.proofs.NumberingLemmas.{row_of}
use Rattle.dep_model.specs.Tuples.{Tuple, Relation, AgreeOn}
use Rattle.dep_model.specs.Dependencies.{ObeysFd, ObeysMvd}
use Rattle.dep_model.proofs.TwoRowLemmas.{AgreeOn-left, AgreeOn-union}
use Rattle.legality.proofs.CountLemmas.{count_below-injection}
use Rattle.legality.proofs.PairLemmas.{member_of}
use Rattle.removal_laws.specs.Counts.{total}
use Rattle.removal_laws.proofs.CountLemmas.{count-le, found_below, total-le, total-same}
use Rattle.mvd_laws.specs.Sizes.{AreDifferentRows, AreSizes, one_at, size_at}

-- ---- sums
abbrev one_if : Bool → ℕ
one_if b = if b then 1 else 0

total-none : (n : ℕ) → total (λ j. 0) n ≡ 0
unfolding total
total-none zero = refl
total-none (suc n) = omega (arith, total-none n)

total-plus : (f g : ℕ → ℕ) (n : ℕ) → total (λ j. f j + g j) n ≡ total f n + total g n
unfolding total
total-plus f g zero = omega arith
total-plus f g (suc n) = omega (arith, total-plus f g n)

total-test : (x : Attributes) (n : ℕ) → total (λ j. if x j then 1 else 0) n ≡ count_below x n
unfolding total count_below
total-test x zero = refl
total-test x (suc n) = omega (arith, total-test x n)

total-scaled : (x : Attributes) (q n : ℕ) → total (λ j. if x j then q else 0) n ≡ count_below x n * q
unfolding total count_below
total-scaled x q zero = omega arith
total-scaled x q (suc n) = elim (cases_Bool (x n)) [
  | inl member ↦ rw member (grind (arith, total-scaled x q n))
  | inr out ↦ rw out (grind (arith, total-scaled x q n))
]

-- pairs can be counted either way
total-count : (p : ℕ → ℕ → Bool) (m n : ℕ) → total (λ j. count_below (λ v. p v j) m) n ≡ total (λ v. count_below (λ j. p v j) n) m
unfolding total count_below
total-count p zero n = total-none n
total-count p (suc m) n =
    total-plus (λ j. count_below (λ v. p v j) m) (λ j. if p m j then 1 else 0) n
    ∙ ap (λ (k : ℕ). total (λ j. count_below (λ v. p v j) m) n + k) (total-test (p m) n)
    ∙ ap (λ (k : ℕ). k + count_below (p m) n) (total-count p m n)

-- sums of which one is nowhere greater, and that are equal, are equal everywhere
total-everywhere : (f g : ℕ → ℕ) (n : ℕ) → ((k : ℕ) → k < n → f k ≤ g k) → total f n ≡ total g n → (k : ℕ) → k < n → f k ≡ g k
unfolding total
total-everywhere f g zero each same k low = absurd (omega (arith, low))
total-everywhere f g (suc n) each same k low =
    let rest = total-le f g n (λ j l. each j (omega (arith, l))) in
    let last = each n (omega arith) in
    let here : f n ≡ g n = omega (arith, rest, last, same) in
    ⊎_elim (λ (at : k ≡ n). subst (λ (j : ℕ). f j ≡ g j) (sym at) here)
    (λ (other : k < n). total-everywhere f g n (λ j l. each j (omega (arith, l))) (omega (arith, same, here)) k other)
    (last_or k n low)
  where
    last_or : (k n : ℕ) → k < suc n → (k ≡ n) ⊎ (k < n)
    last_or k n low = elim (cases_Bool (k == n)) [
      | inl same ↦ inl (eqb-true k n same)
      | inr other ↦ inr (omega (arith, low, (λ (e : k ≡ n). true≢false (sym (eq-eqb k n e) ∙ other))))
    ]

one_place : count_below (λ (k : ℕ). true) 1 ≡ 1
unfolding count_below
one_place = refl

-- tests of which one gives the other, and that pass equally often, are the same
equal_tests : (m : ℕ) (p q : Attributes) → ((k : ℕ) → k < m → p k ≡ true → q k ≡ true) → count_below p m ≡ count_below q m → (k : ℕ) → k < m → p k ≡ q k
equal_tests m p q each same k low =
    let e = total-everywhere (λ k. if p k then 1 else 0) (λ k. if q k then 1 else 0) m (λ k l. at_most (p k) (q k) (each k l))
    (total-test p m ∙ same ∙ sym (total-test q m)) k low in
    told (p k) (q k) e
  where
    at_most : (s t : Bool) → (s ≡ true → t ≡ true) → (if s then 1 else 0) ≤ (if t then 1 else 0)
    at_most true t gives = rw (gives refl) (omega arith)
    at_most false t gives = omega arith

    told : (s t : Bool) → one_if s ≡ one_if t → s ≡ t
    told true true e = refl
    told true false e = absurd (omega (arith, e))
    told false true e = absurd (omega (arith, e))
    told false false e = refl

-- ---- tests
first_of_both : (a b : Bool) → (a && b) ≡ true → a ≡ true
first_of_both true b h = refl
first_of_both false b h = h

second_of_both : (a b : Bool) → (a && b) ≡ true → b ≡ true
second_of_both true b h = h
second_of_both false b h = absurd (true≢false (sym h))

same_test : (a b c d : ℕ) → (a ≡ b → c ≡ d) → (c ≡ d → a ≡ b) → (a == b) ≡ (c == d)
same_test a b c d to from = elim (cases_Bool (a == b)) [
  | inl same ↦ same ∙ sym (eq-eqb c d (to (eqb-true a b same)))
  | inr other ↦ other ∙ sym (elim (cases_Bool (c == d)) [
    | inl found ↦ absurd (true≢false (sym (eq-eqb a b (from (eqb-true c d found))) ∙ other))
    | inr none ↦ none
  ])
]

cancel : (a b q : ℕ) → 0 < q → q * a ≡ q * b → a ≡ b
cancel a b q pos same = grind (arith, pos, same)

-- ---- places numbered in three ways: by a, and finer by b and by c, which together tell places apart
module _ (d : ℕ) (a b c : ℕ → ℕ) (b_finer : (i j : ℕ) → i < d → j < d → b i ≡ b j → a i ≡ a j)
    (c_finer : (i j : ℕ) → i < d → j < d → c i ≡ c j → a i ≡ a j)
    (once : (i j : ℕ) → i < d → j < d → b i ≡ b j → c i ≡ c j → i ≡ j) where
  -- for two places of one number some place has the first one's by b and the second one's by c
  abbrev pub ArePaired : Type 0
  ArePaired = (i j : ℕ) → i < d → j < d → a i ≡ a j → (v : ℕ) × (v < d) × (b v ≡ b i) × (c v ≡ c j)

  abbrev pub AreProducts : Type 0
  AreProducts = (i : ℕ) → i < d → size_at a d i ≡ size_at b d i * size_at c d i

  -- place v has the number of i by b, and that of j by c
  abbrev pairs : ℕ → ℕ → ℕ → Bool
  pairs i v j = (b v == b i) && (c j == c v)

  abbrev found : ℕ → ℕ → ℕ
  found i j = count_below (λ v. pairs i v j) d

  found_one : (i j : ℕ) → i < d → j < d → found i j ≤ 1
  found_one i j i_in j_in =
      let few = count_below-injection d 1 (λ v. pairs i v j) (λ k. true) (λ v k. Unit {0})
      (λ v low h. (0, omega arith, refl, tt))
      (λ v w k v_in w_in h g s t. once v w v_in w_in
      (eqb-true (b v) (b i) (first_of_both _ _ h) ∙ sym (eqb-true (b w) (b i) (first_of_both _ _ g)))
      (sym (eqb-true (c j) (c v) (second_of_both _ _ h)) ∙ eqb-true (c j) (c w) (second_of_both _ _ g))) in
      omega (arith, few, one_place)

  -- only places of the number of i are found
  found_within : (i j : ℕ) → i < d → j < d → found i j ≤ (if a j == a i then 1 else 0)
  found_within i j i_in j_in = elim (cases_Bool (a j == a i)) [
    | inl same ↦ rw same (found_one i j i_in j_in)
    | inr other ↦ rw other (omega (
      arith,
      count_below-none d (λ v. pairs i v j) (λ v low. elim (cases_Bool (pairs i v j)) [
        | inl h ↦ absurd (true≢false (sym (eq-eqb (a j) (a i)
            (c_finer j v j_in low (eqb-true (c j) (c v) (second_of_both _ _ h)) ∙ b_finer v i low i_in (eqb-true (b v) (b i) (first_of_both _ _ h)))) ∙ other))
        | inr none ↦ none
      ]),
    ))
  ]

  -- what is found beside the places of one number by b
  beside : ℕ → ℕ → ℕ
  beside i v = if b v == b i then size_at c d v else 0

  counted : (i : ℕ) → total (found i) d ≡ total (beside i) d
  unfolding beside
  counted i = total-count (pairs i) d d ∙ total-same (λ v. count_below (λ j. pairs i v j) d) (beside i) d (λ v low. row v)
    where
      row : (v : ℕ) → count_below (λ j. pairs i v j) d ≡ (if b v == b i then size_at c d v else 0)
      row v = elim (cases_Bool (b v == b i)) [
        | inl same ↦ rw same refl
        | inr other ↦ rw other (count_below-none d (λ j. false) (λ j low. refl))
      ]

  all_counted : (i : ℕ) → ((v : ℕ) → v < d → b v ≡ b i → size_at c d v ≡ size_at c d i) → total (found i) d ≡ size_at b d i * size_at c d i
  unfolding beside
  all_counted i same =
      counted i ∙ total-same (beside i) (λ v. if b v == b i then size_at c d i else 0) d (λ v low. at v low)
      ∙ total-scaled (λ v. b v == b i) (size_at c d i) d
    where
      at : (v : ℕ) → v < d → (if b v == b i then size_at c d v else 0) ≡ (if b v == b i then size_at c d i else 0)
      at v low = elim (cases_Bool (b v == b i)) [
        | inl is ↦ rw is (same v low (eqb-true (b v) (b i) is))
        | inr other ↦ rw other refl
      ]

  size_same : (f : ℕ → ℕ) (i j : ℕ) → f i ≡ f j → size_at f d i ≡ size_at f d j
  size_same f i j same = ap (λ (m : ℕ). count_below (λ k. f k == m) d) same

  size_some : (f : ℕ → ℕ) (i : ℕ) → i < d → 0 < size_at f d i
  size_some f i low = count_below-pos d (λ k. f k == f i) i low (eq-eqb (f i) (f i) refl)

  -- ---- from products to pairs
  pub products_paired : AreProducts → ArePaired
  products_paired products i j i_in j_in same =
      let sizes : (v : ℕ) → v < d → b v ≡ b i → size_at c d v ≡ size_at c d i = λ v low is.
      cancel (size_at c d v) (size_at c d i) (size_at b d i) (size_some b i i_in)
      (ap (λ (m : ℕ). m * size_at c d v) (sym (size_same b v i is)) ∙ sym (products v low)
      ∙ size_same a v i (b_finer v i low i_in is) ∙ products i i_in) in
      let sums : total (found i) d ≡ total (λ k. if a k == a i then 1 else 0) d =
      all_counted i sizes ∙ sym (products i i_in) ∙ sym (total-test (λ k. a k == a i) d) in
      let here : found i j ≡ (if a j == a i then 1 else 0) =
      total-everywhere (found i) (λ k. if a k == a i then 1 else 0) d (λ k low. found_within i k i_in low) sums j j_in in
      let one : found i j ≡ 1 = here ∙ ap one_if (eq-eqb (a j) (a i) (sym same)) in
      ⊎_elim
      (λ some. (some.0, some.1, eqb-true (b some.0) (b i) (first_of_both _ _ some.2), sym (eqb-true (c j) (c some.0) (second_of_both _ _ some.2))))
      (λ none. absurd (omega (arith, one, count_below-none d (λ v. pairs i v j) none)))
      (found_below (λ v. pairs i v j) d)

  -- ---- from pairs to products
  few_rests : ArePaired → (v i : ℕ) → v < d → i < d → a v ≡ a i → size_at c d v ≤ size_at c d i
  few_rests paired v i v_in i_in same =
      count_below-injection d d (λ k. c k == c v) (λ k. c k == c i) (λ w u. b u ≡ b w)
      (λ w low h.
      let at : a w ≡ a i = c_finer w v low v_in (eqb-true (c w) (c v) h) ∙ same in
      let u = paired w i low i_in at in
      (u.0, u.1, eq-eqb (c u.0) (c i) u.3, u.2))
      (λ w k u w_in k_in h g first second. once w k w_in k_in (sym first ∙ second) (eqb-true (c w) (c v) h ∙ sym (eqb-true (c k) (c v) g)))

  pub paired_products : ArePaired → AreProducts
  paired_products paired i i_in =
      let sizes : (v : ℕ) → v < d → b v ≡ b i → size_at c d v ≡ size_at c d i = λ v low is.
      let at = b_finer v i low i_in is in
      omega (arith, few_rests paired v i low i_in at, few_rests paired i v i_in low (sym at)) in
      let all : total (λ k. if a k == a i then 1 else 0) d ≡ total (found i) d =
      total-same (λ k. if a k == a i then 1 else 0) (found i) d (λ k low. there k low) in
      sym (total-test (λ k. a k == a i) d) ∙ all ∙ all_counted i sizes
    where
      at_most : (k : ℕ) → k < d → (a k == a i) ≡ false → found i k ≤ 0
      at_most k low other = subst (λ (t : Bool). found i k ≤ (if t then 1 else 0)) other (found_within i k i_in low)

      there : (k : ℕ) → k < d → (if a k == a i then 1 else 0) ≡ found i k
      there k low = elim (cases_Bool (a k == a i)) [
        | inl same ↦
            let v = paired i k i_in low (sym (eqb-true (a k) (a i) same)) in
            let some = count_below-pos d (λ w. pairs i w k) v.0 v.1 (and_from _ _ (eq-eqb (b v.0) (b i) v.2) (eq-eqb (c k) (c v.0) (sym v.3))) in
            rw same (omega (arith, some, found_one i k i_in low))
        | inr other ↦ rw other (omega (arith, at_most k low other))
      ]

-- ---- a relation with its different rows
module _ (n : ℕ) (r : Relation) (ones : List ℕ) (different : AreDifferentRows n r ones) (x y : Attributes) (x_in : IsSubset x (below n))
    (y_in : IsSubset y (below n)) where
  d : ℕ
  d = length ones

  abbrev one : ℕ → Tuple
  one j = one_at r ones j

  -- a row as one of the different ones
  the_one : (t : Tuple) → Contains r t → (j : ℕ) × (j < length ones) × AgreeOn (below n) t (one j)
  the_one t t_in =
      let at = row_of r t t_in in
      let j = different.all at.0 at.1 in
      (j.0, j.1, subst (λ (z : Tuple). AgreeOn (below n) z (one j.0)) at.2 j.2)

  one_in : (j : ℕ) → j < length ones → Contains r (one j)
  one_in j low = member_of r (number_at ones j) (different.within j low)

  abbrev left : Attributes
  left = union x y

  abbrev rest : Attributes
  rest = difference (below n) (union x y)

  left_in : IsSubset (union x y) (below n)
  left_in k m = ⊎_elim (λ (h : x k ≡ true). x_in k h) (λ (h : x k ≡ false). y_in k (grind (arith, m, h))) (cases_Bool (x k))

  rest_in : IsSubset (difference (below n) (union x y)) (below n)
  rest_in k m = grind (arith, m)

  -- ---- functional dependencies
  module _ (sx sl : List ℕ) (by_x : AreSizes r ones x sx) (by_left : AreSizes r ones (union x y) sl) where
    to_coarse : (j k : ℕ) → j < length ones → k < length ones → by_left.numbers j ≡ by_left.numbers k → by_x.numbers j ≡ by_x.numbers k
    to_coarse j k j_in k_in same = (by_x.agreement j k j_in k_in).1 (AgreeOn-left x y (one j) (one k) ((by_left.agreement j k j_in k_in).0 same))

    obeyed_equal : ObeysFd x y r → (j : ℕ) → j < length ones → number_at sx j ≡ number_at sl j
    obeyed_equal obeys j j_in =
        by_x.each j j_in
        ∙ count_below-equal (length ones) (λ k. by_x.numbers k == by_x.numbers j) (λ k. by_left.numbers k == by_left.numbers j)
        (λ k k_in. same_test _ _ _ _
        (λ same. let agree = (by_x.agreement k j k_in j_in).0 same in
        (by_left.agreement k j k_in j_in).1 (AgreeOn-union x y (one k) (one j) agree (obeys (one k) (one j) (one_in k k_in) (one_in j j_in) agree)))
        (λ same. to_coarse k j k_in j_in same))
        ∙ sym (by_left.each j j_in)

    equal_obeyed : ((j : ℕ) → j < length ones → number_at sx j ≡ number_at sl j) → ObeysFd x y r
    equal_obeyed equal t u t_in u_in agree k m =
        let i = the_one t t_in in
        let j = the_one u u_in in
        let low = y_in k m in
        let coarse : by_x.numbers i.0 ≡ by_x.numbers j.0 = (by_x.agreement i.0 j.0 i.1 j.1).1 (λ a h.
        sym (i.2 a (x_in a h)) ∙ agree a h ∙ j.2 a (x_in a h)) in
        ⊎_elim
        (λ (same : (by_left.numbers i.0 == by_left.numbers j.0) ≡ true).
        let all = (by_left.agreement i.0 j.0 i.1 j.1).0 (eqb-true _ _ same) in
        i.2 k low ∙ all k (grind (arith, m)) ∙ sym (j.2 k low))
        (λ (other : (by_left.numbers i.0 == by_left.numbers j.0) ≡ false).
        let less = fewer j.0 i.0 j.1 i.1 other (eq-eqb _ _ coarse) in
        absurd (omega (arith, less, equal j.0 j.1, by_x.each j.0 j.1, by_left.each j.0 j.1)))
        (cases_Bool (by_left.numbers i.0 == by_left.numbers j.0))
      where
        fewer : (j i : ℕ) → j < length ones → i < length ones → (by_left.numbers i == by_left.numbers j) ≡ false
            → (by_x.numbers i == by_x.numbers j) ≡ true
            → size_at by_left.numbers (length ones) j < size_at by_x.numbers (length ones) j
        fewer j i j_in i_in other coarse =
            let within = count-le (length ones) (λ k. by_left.numbers k == by_left.numbers j) (λ k. by_x.numbers k == by_x.numbers j)
            (λ k k_in h. eq-eqb _ _ (to_coarse k j k_in j_in (eqb-true _ _ h))) in
            let apart : size_at by_left.numbers (length ones) j ≡ size_at by_x.numbers (length ones) j → ⊥ = λ same.
            true≢false (sym coarse ∙ sym (equal_tests (length ones) (λ k. by_left.numbers k == by_left.numbers j) (λ k. by_x.numbers k == by_x.numbers j)
            (λ k k_in h. eq-eqb _ _ (to_coarse k j k_in j_in (eqb-true _ _ h))) same i i_in) ∙ other) in
            omega (arith, within, apart)

    pub fd_by_counts : ((j : ℕ) → j < length ones → number_at sx j ≡ number_at sl j) ↔ ObeysFd x y r
    fd_by_counts = (equal_obeyed, obeyed_equal)

  -- ---- multivalued dependencies
  module _ (sx sl sr : List ℕ) (by_x : AreSizes r ones x sx) (by_left : AreSizes r ones (union x y) sl)
      (by_rest : AreSizes r ones (union x (difference (below n) (union x y))) sr) where
    left_finer : (i j : ℕ) → i < length ones → j < length ones → by_left.numbers i ≡ by_left.numbers j → by_x.numbers i ≡ by_x.numbers j
    left_finer i j i_in j_in same = (by_x.agreement i j i_in j_in).1 (AgreeOn-left x y (one i) (one j) ((by_left.agreement i j i_in j_in).0 same))

    rest_finer : (i j : ℕ) → i < length ones → j < length ones → by_rest.numbers i ≡ by_rest.numbers j → by_x.numbers i ≡ by_x.numbers j
    rest_finer i j i_in j_in same = (by_x.agreement i j i_in j_in).1 (AgreeOn-left x rest (one i) (one j) ((by_rest.agreement i j i_in j_in).0 same))

    apart : (i j : ℕ) → i < length ones → j < length ones → by_left.numbers i ≡ by_left.numbers j → by_rest.numbers i ≡ by_rest.numbers j → i ≡ j
    apart i j i_in j_in first second =
        let on_left = (by_left.agreement i j i_in j_in).0 first in
        let on_rest = (by_rest.agreement i j i_in j_in).0 second in
        different.once i j i_in j_in (λ k low. ⊎_elim
        (λ (h : union x y k ≡ true). on_left k h)
        (λ (h : union x y k ≡ false). on_rest k (grind (arith, low, h)))
        (cases_Bool (union x y k)))

    paired_obeyed : ArePaired (length ones) by_x.numbers by_left.numbers by_rest.numbers left_finer rest_finer apart → ObeysMvd (below n) x y r
    paired_obeyed paired t u t_in u_in agree =
        let i = the_one t t_in in
        let j = the_one u u_in in
        let same = (by_x.agreement i.0 j.0 i.1 j.1).1 (λ a h. sym (i.2 a (x_in a h)) ∙ agree a h ∙ j.2 a (x_in a h)) in
        let v = paired i.0 j.0 i.1 j.1 same in (
          one v.0,
          one_in v.0 v.1,
          (λ k m. (by_left.agreement v.0 i.0 v.1 i.1).0 v.2 k m ∙ sym (i.2 k (left_in k m))),
          (λ k m. (by_rest.agreement v.0 j.0 v.1 j.1).0 v.3 k (grind (arith, m)) ∙ sym (j.2 k (rest_in k m))),
        )

    obeyed_paired : ObeysMvd (below n) x y r → ArePaired (length ones) by_x.numbers by_left.numbers by_rest.numbers left_finer rest_finer apart
    obeyed_paired obeys i j i_in j_in same =
        let agree = (by_x.agreement i j i_in j_in).0 same in
        let v = obeys (one i) (one j) (one_in i i_in) (one_in j j_in) agree in
        let k = the_one v.0 v.1 in (
          k.0,
          k.1,
          (by_left.agreement k.0 i k.1 i_in).1 (λ a h. sym (k.2 a (left_in a h)) ∙ v.2 a h),
          (by_rest.agreement k.0 j k.1 j_in).1 (AgreeOn-union x rest (one k.0) (one j)
              (λ a h. sym (k.2 a (x_in a h)) ∙ v.2 a (grind (arith, h)) ∙ agree a h)
              (λ a h. sym (k.2 a (rest_in a h)) ∙ v.3 a h)),
        )

    pub mvd_by_counts : ((j : ℕ) → j < length ones → number_at sx j ≡ number_at sl j * number_at sr j) ↔ ObeysMvd (below n) x y r
    mvd_by_counts = (
      (λ products. paired_obeyed (products_paired (length ones) by_x.numbers by_left.numbers by_rest.numbers left_finer rest_finer apart
          (λ j low. sym (by_x.each j low) ∙ products j low ∙ ap (λ (m : ℕ). m * number_at sr j) (by_left.each j low)
          ∙ ap (λ (m : ℕ). size_at by_left.numbers (length ones) j * m) (by_rest.each j low)))),
      (λ obeys j low.
          by_x.each j low
          ∙ paired_products (length ones) by_x.numbers by_left.numbers by_rest.numbers left_finer rest_finer apart (obeyed_paired obeys) j low
          ∙ sym (ap (λ (m : ℕ). m * number_at sr j) (by_left.each j low)
          ∙ ap (λ (m : ℕ). size_at by_left.numbers (length ones) j * m) (by_rest.each j low))),
    )
