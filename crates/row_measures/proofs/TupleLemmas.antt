-- The tuples that the groups lack: one for each left part and rest of a group that no row has.
use Rattle.std.proofs.Common.{◌≡◌, ◌⊎◌, ◌+◌, ◌-◌, ◌<◌, ◌≤◌, ◌==◌, ℕ, zero, suc, Bool, true, false, true≢false, List, [], ◌∷◌, ◌++◌, length, map, refl, sym, ap, subst, ◌∙◌, inl, inr, ⊎_elim, arith}
use Rattle.std.proofs.lemmas.Bool.{and_parts, cases_Bool, cases_lt, eq-eqb, eqb-true, and_from}
use Rattle.std.proofs.lemmas.Bool.Decides.{nat_tests}
use Rattle.std.proofs.lemmas.List.{append-nil, ext_get_or, get_or_append_left, get_or-append_right, get_or-append-add, length-append, length-map, map-append}
use Rattle.std.proofs.lemmas.List.FromFn.{length-map-range_with_len, get_or-map-range_with_len}
use Rattle.std.specs.List.{range_with_len}
use Rattle.std.specs.Prelude.{Contains, if◌then◌else◌}
use Rattle.attr_sets.specs.Attributes.{Attributes, IsSubset, below, union, count_below}
use Rattle.row_groups.specs.Numberings.{number_at}
use Rattle.row_groups.proofs.NumberingLemmas.{row_of}
use Rattle.dep_model.specs.Projections.{members_below}
use Rattle.dep_model.specs.Tuples.{Tuple, Relation, AgreeOn, IsOver, value_at}
use Rattle.dep_model.proofs.ListLemmas.{Contains-map}
use Rattle.attr_sets.proofs.AttributesLemmas.{count_below-before_member}
use Rattle.dep_model.proofs.SchemeLemmas.{length-members_below, members_below-at}
use Rattle.dep_model.proofs.TupleLemmas.{IsOver-length}
use Rattle.dep_model.specs.Dependencies.{rest_beside}
use Rattle.legality.proofs.PairLemmas.{member_of}
use Rattle.removal_laws.specs.Counts.{total}
use Rattle.removal_laws.proofs.CountLemmas.{total-same}
use Rattle.row_store.specs.Rows.{row_at}
use Rattle.row_measures.specs.Broken.{is_absent, lacks, missing_pairs}
use Rattle.row_measures.specs.Laws.{AreMissing, IsMissing, IsOnce}
use Rattle.row_measures.specs.Sorted.{Parts}
use Rattle.row_measures.proofs.MissingLemmas.{none_beside, stands_beside}

-- ---- lists in which no tuple stands twice
once_append : (xs ys : List Tuple) → IsOnce xs → IsOnce ys → ((t : Tuple) → Contains xs t → Contains ys t → ⊥) → IsOnce (xs ++ ys)
once_append xs ys one other apart i j i_in j_in same = ⊎_elim
    (λ (i_left : i < length xs). ⊎_elim
    (λ (j_left : j < length xs). one i j i_left j_left (sym (left i i_left) ∙ same ∙ left j j_left))
    (λ (j_right : length xs ≤ j). absurd (apart (row_at xs i) (member_of xs i i_left)
    (subst (Contains ys) (sym (right j j_right) ∙ sym same ∙ left i i_left) (member_of ys (j - length xs) (right_in j j_in j_right)))))
    (cases_lt j (length xs)))
    (λ (i_right : length xs ≤ i). ⊎_elim
    (λ (j_left : j < length xs). absurd (apart (row_at xs j) (member_of xs j j_left)
    (subst (Contains ys) (sym (right i i_right) ∙ same ∙ left j j_left) (member_of ys (i - length xs) (right_in i i_in i_right)))))
    (λ (j_right : length xs ≤ j).
    let at = other (i - length xs) (j - length xs) (right_in i i_in i_right) (right_in j j_in j_right) (sym (right i i_right) ∙ same ∙ right j j_right) in
    omega (arith, at, i_right, j_right))
    (cases_lt j (length xs)))
    (cases_lt i (length xs))
  where
    left : (k : ℕ) → k < length xs → row_at (xs ++ ys) k ≡ row_at xs k
    left k low = get_or_append_left xs ys [] k low

    right : (k : ℕ) → length xs ≤ k → row_at (xs ++ ys) k ≡ row_at ys (k - length xs)
    right k high = get_or-append_right xs ys (length xs) k [] refl high

    right_in : (k : ℕ) → k < length (xs ++ ys) → length xs ≤ k → k - length xs < length ys
    right_in k low high = omega (arith, low, high, length-append xs ys)

once_none : IsOnce []
once_none i j i_in j_in same = absurd (omega (arith, i_in))

once_one : (t : Tuple) → IsOnce (t ∷ [])
once_one t i j i_in j_in same = omega (arith, i_in, j_in)

one_member : (t u : Tuple) → Contains (t ∷ []) u → u ≡ t
one_member t u (zero, low, at) = sym at
one_member t u (suc i, low, at) = absurd (omega (arith, low))

in_front : (xs ys : List Tuple) (t : Tuple) → Contains xs t → Contains (xs ++ ys) t
in_front xs ys t (i, low, at) = (i, omega (arith, low, length-append xs ys), get_or_append_left xs ys t i low ∙ at)

in_back : (xs ys : List Tuple) (t : Tuple) → Contains ys t → Contains (xs ++ ys) t
in_back xs ys t (i, low, at) = (length xs + i, omega (arith, low, length-append xs ys), get_or-append-add xs ys i t ∙ at)

in_either : (xs ys : List Tuple) (t : Tuple) → Contains (xs ++ ys) t → Contains xs t ⊎ Contains ys t
in_either xs ys t (i, low, at) = ⊎_elim
    (λ (front : i < length xs). inl (i, front, sym (get_or_append_left xs ys t i front) ∙ at))
    (λ (back : length xs ≤ i). inr (i - length xs, omega (arith, low, back, length-append xs ys), sym (get_or-append_right xs ys (length xs) i t refl back) ∙ at))
    (cases_lt i (length xs))

-- ---- a tuple for each member of a set
abbrev for_members : (ℕ → Tuple) → ℕ → Attributes → List Tuple
for_members f m x = map f (members_below m x)

for_next : (f : ℕ → Tuple) (m : ℕ) (x : Attributes) → for_members f (suc m) x ≡ for_members f m x ++ (if x m then f m ∷ [] else [])
unfolding members_below
for_next f m x = ⊎_elim
    (λ (there : x m ≡ true). rw there (map-append f (members_below m x) (m ∷ [])))
    (λ (nope : x m ≡ false). rw nope (map-append f (members_below m x) []))
    (cases_Bool (x m))

for_has : (f : ℕ → Tuple) (m : ℕ) (x : Attributes) (t : Tuple) → Contains (for_members f m x) t → (k : ℕ) × (k < m) × (x k ≡ true) × (f k ≡ t)
unfolding members_below
for_has f zero x t (i, low, at) = absurd (omega (arith, low))
for_has f (suc m) x t h = ⊎_elim
    (λ (there : x m ≡ true). ⊎_elim
    (λ (front : Contains (for_members f m x) t). before (for_has f m x t front))
    (λ (last : Contains (f m ∷ []) t). (m, omega arith, there, sym (one_member (f m) t last)))
    (in_either (for_members f m x) (f m ∷ []) t
    (subst (λ (b : Bool). Contains (for_members f m x ++ (if b then f m ∷ [] else [])) t) there (subst (λ (l : List Tuple). Contains l t) (for_next f m x) h))))
    (λ (nope : x m ≡ false). before (for_has f m x t (subst (λ (l : List Tuple). Contains l t) (append-nil (for_members f m x))
    (subst (λ (b : Bool). Contains (for_members f m x ++ (if b then f m ∷ [] else [])) t) nope (subst (λ (l : List Tuple). Contains l t) (for_next f m x) h)))))
    (cases_Bool (x m))
  where
    before : (k : ℕ) × (k < m) × (x k ≡ true) × (f k ≡ t) → (k : ℕ) × (k < suc m) × (x k ≡ true) × (f k ≡ t)
    before (k, low, has, is) = (k, omega (arith, low), has, is)

for_in : (f : ℕ → Tuple) (m : ℕ) (x : Attributes) (k : ℕ) → k < m → x k ≡ true → Contains (for_members f m x) (f k)
for_in f m x k low has = Contains-map f (members_below m x) k
    (count_below x k, omega (arith, length-members_below m x, count_below-before_member m k x low has), members_below-at m x k k low has)

for_once : (f : ℕ → Tuple) (m : ℕ) (x : Attributes) → ((i j : ℕ) → i < m → j < m → x i ≡ true → x j ≡ true → f i ≡ f j → i ≡ j) → IsOnce (for_members f m x)
unfolding members_below
for_once f zero x apart = once_none
for_once f (suc m) x apart =
    let rest = for_once f m x (λ i j i_in j_in. apart i j (omega (arith, i_in)) (omega (arith, j_in))) in
    subst IsOnce (sym (for_next f m x)) (⊎_elim
    (λ (there : x m ≡ true). rw there (once_append (for_members f m x) (f m ∷ []) rest (once_one (f m)) (λ t front last.
    let found = for_has f m x t front in
    omega (arith, found.1, apart found.0 m (omega (arith, found.1)) (omega arith) found.2 there (found.3 ∙ one_member (f m) t last)))))
    (λ (nope : x m ≡ false). rw nope (rw (append-nil (for_members f m x)) rest))
    (cases_Bool (x m)))

-- ---- list after list
unfoldable listed : (ℕ → List Tuple) → ℕ → List Tuple
listed f zero = []
listed f (suc m) = listed f m ++ f m

listed_count : (f : ℕ → List Tuple) (m : ℕ) → length (listed f m) ≡ total (λ a. length (f a)) m
unfolding listed total
listed_count f zero = refl
listed_count f (suc m) = omega (arith, length-append (listed f m) (f m), listed_count f m)

listed_has : (f : ℕ → List Tuple) (m : ℕ) (t : Tuple) → Contains (listed f m) t → (a : ℕ) × (a < m) × Contains (f a) t
unfolding listed
listed_has f zero t (i, low, at) = absurd (omega (arith, low))
listed_has f (suc m) t h = ⊎_elim
    (λ (front : Contains (listed f m) t). let found = listed_has f m t front in (found.0, omega (arith, found.1), found.2))
    (λ (last : Contains (f m) t). (m, omega arith, last))
    (in_either (listed f m) (f m) t h)

listed_in : (f : ℕ → List Tuple) (m a : ℕ) (t : Tuple) → a < m → Contains (f a) t → Contains (listed f m) t
unfolding listed
listed_in f zero a t low there = absurd (omega (arith, low))
listed_in f (suc m) a t low there = ⊎_elim
    (λ (before : a < m). in_front (listed f m) (f m) t (listed_in f m a t before there))
    (λ (last : m ≤ a). let at : a ≡ m = omega (arith, low, last) in in_back (listed f m) (f m) t (subst (λ (k : ℕ). Contains (f k) t) at there))
    (cases_lt a m)

listed_once : (f : ℕ → List Tuple) (m : ℕ) → ((a : ℕ) → a < m → IsOnce (f a)) → ((a b : ℕ) (t : Tuple) → a < m → b < m → Contains (f a) t → Contains (f b) t → a ≡ b)
    → IsOnce (listed f m)
unfolding listed
listed_once f zero each apart = once_none
listed_once f (suc m) each apart =
    once_append (listed f m) (f m)
    (listed_once f m (λ a low. each a (omega (arith, low))) (λ a b t a_in b_in. apart a b t (omega (arith, a_in)) (omega (arith, b_in))))
    (each m (omega arith))
    (λ t front last. let found = listed_has f m t front in omega (arith, found.1, apart found.0 m t (omega (arith, found.1)) (omega arith) found.2 last))

-- ---- the tuple of a left part and a rest
module _ (n : ℕ) (x y : Attributes) (r : Relation) (p : Parts n x y r) (over : IsOver n r) (x_in : IsSubset x (below n)) (y_in : IsSubset y (below n)) where
  abbrev lefts : ℕ
  lefts = length p.left_firsts

  abbrev rests : ℕ
  rests = length p.rest_firsts

  abbrev left_row : ℕ → Tuple
  left_row a = row_at r (number_at p.left_firsts a)

  abbrev rest_row : ℕ → Tuple
  rest_row b = row_at r (number_at p.rest_firsts b)

  abbrev lacked : ℕ → Attributes
  lacked = lacks p.groups p.lefts p.left_firsts p.rests p.rest_firsts

  abbrev chosen_value : ℕ → ℕ → ℕ → List ℕ
  chosen_value a b k = if union x y k then value_at (left_row a) k else value_at (rest_row b) k

  joined : ℕ → ℕ → Tuple
  joined a b = map (chosen_value a b) (range_with_len 0 n)

  joined_size : (a b : ℕ) → length (joined a b) ≡ n
  unfolding joined
  joined_size a b = length-map-range_with_len (chosen_value a b) 0 n

  joined_at : (a b k : ℕ) → k < n → value_at (joined a b) k ≡ chosen_value a b k
  unfolding joined
  joined_at a b k low = get_or-map-range_with_len (chosen_value a b) 0 n k k [] low (omega arith)

  low_in : (k : ℕ) → union x y k ≡ true → k < n
  low_in k has = ⊎_elim (λ (of_x : x k ≡ true). low_of k (x_in k of_x)) (λ (not_x : x k ≡ false). low_of k (y_in k (grind (arith, has, not_x)))) (cases_Bool (x k))
    where
      low_of : (m : ℕ) → below n m ≡ true → m < n
      low_of m is = grind (arith, nat_tests, is)

  left_in : (a : ℕ) → a < lefts → number_at p.left_firsts a < length r
  left_in a low = omega (arith, p.left_rows.within a low, p.by_both.one_each)

  rest_in : (b : ℕ) → b < rests → number_at p.rest_firsts b < length r
  rest_in b low = omega (arith, p.rest_rows.within b low, p.by_rest.one_each)

  -- a pair that lacks: both are of one group, and no row has both
  lacked_parts : (a b : ℕ) → lacked a b ≡ true → (number_at p.groups (number_at p.rest_firsts b) ≡ number_at p.groups (number_at p.left_firsts a)) × (is_absent p.lefts p.rests a b ≡ true)
  lacked_parts a b is =
      let parts = and_parts (number_at p.groups (number_at p.rest_firsts b) == number_at p.groups (number_at p.left_firsts a)) (is_absent p.lefts p.rests a b) is in
      (eqb-true _ _ parts.0, parts.1)

  agree_left : (a b : ℕ) → AgreeOn (union x y) (joined a b) (left_row a)
  agree_left a b k has = joined_at a b k (low_in k has) ∙ ap (λ (c : Bool). if c then value_at (left_row a) k else value_at (rest_row b) k) has

  agree_rest : (a b : ℕ) → a < lefts → b < rests → lacked a b ≡ true → AgreeOn (union x (rest_beside (below n) x y)) (joined a b) (rest_row b)
  agree_rest a b a_in b_in is k has = ⊎_elim
      (λ (inside : union x y k ≡ true).
      let of_x : x k ≡ true = grind (arith, has, inside) in
      agree_left a b k inside ∙ sym ((p.by_left.equal (number_at p.rest_firsts b) (number_at p.left_firsts a) (rest_in b b_in) (left_in a a_in)).0 (lacked_parts a b is).0 k of_x))
      (λ (outside : union x y k ≡ false).
      let low : k < n = grind (arith, nat_tests, has, outside) in
      joined_at a b k low ∙ ap (λ (c : Bool). if c then value_at (left_row a) k else value_at (rest_row b) k) outside)
      (cases_Bool (union x y k))

  same_tuple_by : (t u : Tuple) → length t ≡ n → length u ≡ n → ((k : ℕ) → k < n → value_at t k ≡ value_at u k) → t ≡ u
  same_tuple_by t u t_size u_size same = ext_get_or [] t u (t_size ∙ sym u_size) (λ k low. same k (omega (arith, low, t_size)))

  row_size : (i : ℕ) → i < length r → length (row_at r i) ≡ n
  row_size i low = IsOver-length n r (row_at r i) over (member_of r i low)

  -- ---- the tuple of a pair that lacks is missing
  joined_no_row : (a b : ℕ) → a < lefts → b < rests → lacked a b ≡ true → Contains r (joined a b) → ⊥
  joined_no_row a b a_in b_in is there =
      let (v, v_in, at) = row_of r (joined a b) there in
      let left : number_at p.lefts v ≡ a =
      (p.by_both.equal v (number_at p.left_firsts a) v_in (left_in a a_in)).1 (λ k has. ap (λ (t : Tuple). value_at t k) at ∙ agree_left a b k has) ∙ p.left_rows.number a a_in in
      let right : number_at p.rests v ≡ b =
      (p.by_rest.equal v (number_at p.rest_firsts b) v_in (rest_in b b_in)).1 (λ k has. ap (λ (t : Tuple). value_at t k) at ∙ agree_rest a b a_in b_in is k has) ∙ p.rest_rows.number b b_in in
      true≢false (sym (lacked_parts a b is).1 ∙ stands_beside p.lefts p.rests a b v (omega (arith, v_in, p.by_both.one_each)) left right)

  missing_of : (a b : ℕ) → a < lefts → b < rests → lacked a b ≡ true → IsMissing n x y r (joined a b)
  missing_of a b a_in b_in is = record {
    size = joined_size a b;
    no_row = joined_no_row a b a_in b_in is;
    left = (left_row a, member_of r (number_at p.left_firsts a) (left_in a a_in), agree_left a b);
    rest = (rest_row b, member_of r (number_at p.rest_firsts b) (rest_in b b_in), agree_rest a b a_in b_in is);
  }

  -- ---- a missing tuple is that of a pair that lacks
  module _ (t : Tuple) (m : IsMissing n x y r t) (i j : ℕ) (i_in : i < length r) (j_in : j < length r) (left : AgreeOn (union x y) t (row_at r i)) (rest : AgreeOn (union x (rest_beside (below n) x y)) t (row_at r j)) where
    abbrev a : ℕ
    a = number_at p.lefts i

    abbrev b : ℕ
    b = number_at p.rests j

    a_in : a < lefts
    a_in = p.left_rows.each i (omega (arith, i_in, p.by_both.one_each))

    b_in : b < rests
    b_in = p.rest_rows.each j (omega (arith, j_in, p.by_rest.one_each))

    in_rest : (k : ℕ) → k < n → union x y k ≡ false → union x (rest_beside (below n) x y) k ≡ true
    in_rest k low outside = grind (arith, nat_tests, low, outside)

    of_left : (v : ℕ) → v < length r → number_at p.lefts v ≡ a → AgreeOn (union x y) (row_at r v) t
    of_left v v_in at k has = (p.by_both.equal v i v_in i_in).0 at k has ∙ sym (left k has)

    of_rest : (v : ℕ) → v < length r → number_at p.rests v ≡ b → AgreeOn (union x (rest_beside (below n) x y)) (row_at r v) t
    of_rest v v_in at k has = (p.by_rest.equal v j v_in j_in).0 at k has ∙ sym (rest k has)

    none_both : (v : ℕ) → v < length p.lefts → number_at p.lefts v ≡ a → number_at p.rests v ≡ b → ⊥
    none_both v low left_is rest_is =
        let v_in : v < length r = omega (arith, low, p.by_both.one_each) in
        let same : row_at r v ≡ t = same_tuple_by (row_at r v) t (row_size v v_in) m.size (λ k k_low. ⊎_elim
        (λ (inside : union x y k ≡ true). of_left v v_in left_is k inside)
        (λ (outside : union x y k ≡ false). of_rest v v_in rest_is k (in_rest k k_low outside))
        (cases_Bool (union x y k))) in
        m.no_row (subst (Contains r) same (member_of r v v_in))

    one_group : number_at p.groups (number_at p.rest_firsts b) ≡ number_at p.groups (number_at p.left_firsts a)
    one_group = (p.by_left.equal (number_at p.rest_firsts b) (number_at p.left_firsts a) (rest_in b b_in) (left_in a a_in)).1 (λ k of_x.
        of_rest (number_at p.rest_firsts b) (rest_in b b_in) (p.rest_rows.number b b_in) k (grind (arith, of_x))
        ∙ sym (of_left (number_at p.left_firsts a) (left_in a a_in) (p.left_rows.number a a_in) k (grind (arith, of_x))))

    is_lacked : lacked a b ≡ true
    is_lacked = and_from _ _ (eq-eqb _ _ one_group) (none_beside p.lefts p.rests a b none_both)

    is_joined : joined a b ≡ t
    is_joined = same_tuple_by (joined a b) t (joined_size a b) m.size (λ k low. ⊎_elim
        (λ (inside : union x y k ≡ true). agree_left a b k inside ∙ of_left (number_at p.left_firsts a) (left_in a a_in) (p.left_rows.number a a_in) k inside)
        (λ (outside : union x y k ≡ false). agree_rest a b a_in b_in is_lacked k (in_rest k low outside) ∙ of_rest (number_at p.rest_firsts b) (rest_in b b_in) (p.rest_rows.number b b_in) k (in_rest k low outside))
        (cases_Bool (union x y k)))

  abbrev of_left_part : ℕ → List Tuple
  of_left_part a = for_members (joined a) rests (lacked a)

  tuples : List Tuple
  tuples = listed of_left_part lefts

  tuple_in : (t : Tuple) → IsMissing n x y r t → Contains tuples t
  unfolding tuples
  tuple_in t m =
      let (u, u_in, u_agrees) = m.left in
      let (w, w_in, w_agrees) = m.rest in
      let (i, i_in, i_is) = row_of r u u_in in
      let (j, j_in, j_is) = row_of r w w_in in
      let left : AgreeOn (union x y) t (row_at r i) = λ k has. u_agrees k has ∙ sym (ap (λ (q : Tuple). value_at q k) i_is) in
      let rest : AgreeOn (union x (rest_beside (below n) x y)) t (row_at r j) = λ k has. w_agrees k has ∙ sym (ap (λ (q : Tuple). value_at q k) j_is) in
      subst (Contains (listed of_left_part lefts)) (is_joined t m i j i_in j_in left rest)
      (listed_in of_left_part lefts (number_at p.lefts i) _ (a_in t m i j i_in j_in left rest)
      (for_in (joined (number_at p.lefts i)) rests (lacked (number_at p.lefts i)) (number_at p.rests j) (b_in t m i j i_in j_in left rest) (is_lacked t m i j i_in j_in left rest)))

  in_tuple : (t : Tuple) → Contains tuples t → IsMissing n x y r t
  unfolding tuples
  in_tuple t h =
      let (a, a_in, there) = listed_has of_left_part lefts t h in
      let (b, b_in, is, same) = for_has (joined a) rests (lacked a) t there in
      subst (IsMissing n x y r) same (missing_of a b a_in b_in is)

  same_left : (a b c d : ℕ) → a < lefts → c < lefts → joined a b ≡ joined c d → a ≡ c
  same_left a b c d a_in c_in same =
      sym (p.left_rows.number a a_in)
      ∙ (p.by_both.equal (number_at p.left_firsts a) (number_at p.left_firsts c) (left_in a a_in) (left_in c c_in)).1
      (λ k has. sym (agree_left a b k has) ∙ ap (λ (t : Tuple). value_at t k) same ∙ agree_left c d k has)
      ∙ p.left_rows.number c c_in

  same_rest : (a b d : ℕ) → a < lefts → b < rests → d < rests → lacked a b ≡ true → lacked a d ≡ true → joined a b ≡ joined a d → b ≡ d
  same_rest a b d a_in b_in d_in b_is d_is same =
      sym (p.rest_rows.number b b_in)
      ∙ (p.by_rest.equal (number_at p.rest_firsts b) (number_at p.rest_firsts d) (rest_in b b_in) (rest_in d d_in)).1
      (λ k has. sym (agree_rest a b a_in b_in b_is k has) ∙ ap (λ (t : Tuple). value_at t k) same ∙ agree_rest a d a_in d_in d_is k has)
      ∙ p.rest_rows.number d d_in

  pub missing_tuples : (ts : List Tuple) × AreMissing n x y r ts × (length ts ≡ missing_pairs p.groups p.lefts p.left_firsts p.rests p.rest_firsts)
  unfolding tuples
  missing_tuples = (
    tuples,
    record {
      each = λ t. (in_tuple t, tuple_in t);
      once = listed_once of_left_part lefts
          (λ a a_in. for_once (joined a) rests (lacked a) (λ b d b_in d_in b_is d_is same. same_rest a b d a_in b_in d_in b_is d_is same))
          (λ a c t a_in c_in first second.
          let (b, b_in, b_is, b_same) = for_has (joined a) rests (lacked a) t first in
          let (d, d_in, d_is, d_same) = for_has (joined c) rests (lacked c) t second in
          same_left a b c d a_in c_in (b_same ∙ sym d_same));
    },
    listed_count of_left_part lefts
        ∙ total-same (λ a. length (of_left_part a)) (λ a. count_below (lacked a) rests) lefts
        (λ a low. length-map (members_below rests (lacked a)) (joined a) ∙ length-members_below rests (lacked a)),
  )
