-- Numbers in the order of first occurrence.
use Rattle.std.proofs.Common.{inl, inr, true≢false, unwrap_or, option_map, ◌||◌, ◌&&◌, ◌==◌, not, nat_lt, replicate, ◌≡◌, ◌≢◌, ◌+◌, ◌<◌, ◌≤◌, ◌↔◌, ◌⊎◌, ℕ, zero, suc, Bool, true, false, if◌then◌else◌, nat_eq, List, [], ◌∷◌, ◌++◌, length, map, Option, Some, slice_index_or, get_or, refl, sym, ap, subst, ◌∙◌, arith}
use mathlib.Core.Path.{fun_ext}
use Rattle.std.specs.List.{slice_get, list_any, position_or_len}
use Rattle.std.proofs.Math.Seq.{get_or-append_seam}
use Rattle.std.proofs.lemmas.Bool.{cases_Bool, cases_lt, eqb-true, eq-eqb}
use Rattle.std.proofs.lemmas.List.{length-append, length-map, length-replicate, map-append, get_or_append_left, get_or_default}
use Rattle.std.proofs.lemmas.List.Folds.{list_any_at, list_any_none}
use Rattle.std.proofs.lemmas.List.Sums.{position_or_len_is, fails_before_first, passes_at_first}
use Rattle.std.proofs.lemmas.Slice.Eq.{bytes_eq-Decides}
use Rattle.std.specs.Cmp.Lexicographic.{pointwise}
use Rattle.std.proofs.lemmas.Option.{slice_get-map, slice_get_within, slice_get-get_or}
use Rattle.attr_sets.specs.Attributes.{Attributes, IsSubset, below, difference, intersection, only, union, none}
use Rattle.dep_model.specs.Tuples.{Tuple, Relation, AgreeOn, value_at}
use Rattle.indexmap.specs.IndexSet.{insert_key}
use Rattle.row_groups.specs.Numberings.{number_at, AreGroups, AreNumbered, AreInOrder}
use Rattle.row_groups.specs.Pairs.{Gets}
use Rattle.row_store.specs.Rows.{row_at}
use Rattle.row_store.specs.declared.hashing.LentValue.{LentValue}
use Rattle.dep_model.proofs.TwoRowLemmas.{AgreeOn-union, AgreeOn-left, AgreeOn-right}
use Rattle.std.specs.Prelude.{Contains}
use Rattle.attr_sets.proofs.AttributesLemmas.{same_at}
use Rattle.dep_model.proofs.ListLemmas.{same_default}

pub some_inj : {X : Type 0} (v w : X) → Some v ≡ Some w → v ≡ w
some_inj {X} v w e = ap (λ (o : Option X). unwrap_or o v) e

pub get_or-front : {X : Type 0} (xs ys : List X) (g : ℕ) (v : X) → slice_get xs g ≡ Some v → slice_get (xs ++ ys) g ≡ Some v
get_or-front [] ys g v h = cc
get_or-front (x ∷ xs) ys zero v h = h
get_or-front (x ∷ xs) ys (suc g) v h = get_or-front xs ys g v h

pub get_or-last : {X : Type 0} (xs : List X) (v : X) → slice_get (xs ++ v ∷ []) (length xs) ≡ Some v
get_or-last [] v = refl
get_or-last (x ∷ xs) v = get_or-last xs v

pub get_or-either : {X : Type 0} (xs : List X) (w v : X) (g : ℕ) → slice_get (xs ++ w ∷ []) g ≡ Some v → (slice_get xs g ≡ Some v) ⊎ ((g ≡ length xs) × (w ≡ v))
get_or-either [] w v zero h = inr (refl, some_inj w v h)
get_or-either [] w v (suc g) h = cc
get_or-either (x ∷ xs) w v zero h = inl h
get_or-either (x ∷ xs) w v (suc g) h = elim (get_or-either xs w v g h) [
  | inl front ↦ inl front
  | inr last ↦ inr (ap (λ (n : ℕ). suc n) last.0, last.1)
]

-- the numbers after one more
pub at_front : (numbers : List ℕ) (n r i : ℕ) → length numbers ≡ n → i < n → number_at (numbers ++ r ∷ []) i ≡ number_at numbers i
at_front numbers n r i size l = get_or_append_left numbers (r ∷ []) 0 i (omega (arith, size, l))

pub at_last : (numbers : List ℕ) (n r : ℕ) → length numbers ≡ n → number_at (numbers ++ r ∷ []) n ≡ r
at_last numbers n r size = ap (λ (j : ℕ). number_at (numbers ++ r ∷ []) j) (sym size) ∙ get_or-append_seam numbers r [] 0

at_end : (i n : ℕ) → i < n + 1 → n ≤ i → n ≡ i
at_end i n l m = omega (arith, l, m)

pub numbered_more : {X : Type 0} (value : ℕ → X) (n : ℕ) (seen after : List X) (numbers : List ℕ) (r : ℕ) → AreNumbered value n seen numbers → Gets (value n) seen after r
    → AreNumbered value (n + 1) after (numbers ++ r ∷ [])
numbered_more {X} value n seen after numbers r old gets = elim gets.number [
  | inl same ↦
      let short : r < length seen = slice_get_within seen r (value n) same.1 in
      subst (λ (xs : List X). AreNumbered value (n + 1) xs (numbers ++ r ∷ [])) (sym same.0) (record {
        one_each = size;
        within_count = omega (arith, old.within_count);
        read = λ i l. elim (cases_lt i n) [
          | inl front ↦ ap (slice_get seen) (at_front numbers n r i old.one_each front) ∙ old.read i front
          | inr last ↦ subst (λ (j : ℕ). slice_get seen (number_at (numbers ++ r ∷ []) j) ≡ Some (value j)) (at_end i n l last) (ap (slice_get seen) (at_last numbers n r old.one_each) ∙ same.1)
        ];
        once = old.once;
        used = λ g l. seen_before g l;
        in_order = λ i g l m. ordered (λ g h. omega (arith, h, short)) i g l m;
      })
  | inr new ↦
      subst (λ (xs : List X). AreNumbered value (n + 1) xs (numbers ++ r ∷ [])) (sym new.0) (record {
        one_each = size;
        within_count = omega (arith, old.within_count, length-append seen (value n ∷ []));
        read = λ i l. elim (cases_lt i n) [
          | inl front ↦ get_or-front seen (value n ∷ []) _ (value i) (ap (slice_get seen) (at_front numbers n r i old.one_each front) ∙ old.read i front)
          | inr last ↦ subst (λ (j : ℕ). slice_get (seen ++ value n ∷ []) (number_at (numbers ++ r ∷ []) j) ≡ Some (value j)) (at_end i n l last)
              (ap (slice_get (seen ++ value n ∷ [])) (at_last numbers n r old.one_each ∙ new.1) ∙ get_or-last seen (value n))
        ];
        once = λ g h v a b. elim (get_or-either seen (value n) v g a) [
          | inl ga ↦ elim (get_or-either seen (value n) v h b) [
            | inl hb ↦ old.once g h v ga hb
            | inr hb ↦ absurd (new.2 g (ga ∙ ap Some (sym hb.1)))
          ]
          | inr ga ↦ elim (get_or-either seen (value n) v h b) [
            | inl hb ↦ absurd (new.2 h (hb ∙ ap Some (sym ga.1)))
            | inr hb ↦ ga.0 ∙ sym hb.0
          ]
        ];
        used = λ g l. elim (cases_lt g (length seen)) [
          | inl front ↦ seen_before g front
          | inr last ↦ (n, omega arith, at_last numbers n r old.one_each ∙ new.1 ∙ at_end g (length seen) (omega (arith, l, length-append seen (value n ∷ []))) last)
        ];
        in_order = λ i g l m. ordered (λ g h. omega (arith, h, new.1)) i g l m;
      })
]
  where
    size : length (numbers ++ r ∷ []) ≡ n + 1
    size = length-append numbers (r ∷ []) ∙ ap (λ (m : ℕ). m + 1) old.one_each

    seen_before : (g : ℕ) → g < length seen → (j : ℕ) × (j < n + 1) × (number_at (numbers ++ r ∷ []) j ≡ g)
    seen_before g l = let (j, below, at) = old.used g l in (j, omega (arith, below), at_front numbers n r j old.one_each below ∙ at)

    ordered : ((g : ℕ) → g < r → g < length seen) → (i g : ℕ) → i < n + 1 → g < number_at (numbers ++ r ∷ []) i → (j : ℕ) × (j < i) × (number_at (numbers ++ r ∷ []) j ≡ g)
    ordered within i g l m = elim (cases_lt i n) [
      | inl front ↦
          let (j, below, at) = old.in_order i g front (subst (λ (k : ℕ). g < k) (at_front numbers n r i old.one_each front) m) in
          (j, below, at_front numbers n r j old.one_each (omega (arith, below, front)) ∙ at)
      | inr last ↦
          let here : n ≡ i = at_end i n l last in
          let least : g < r = subst (λ (k : ℕ). g < k) (ap (number_at (numbers ++ r ∷ [])) (sym here) ∙ at_last numbers n r old.one_each) m in
          let (j, below, at) = old.used g (within g least) in
          (j, omega (arith, below, here), at_front numbers n r j old.one_each below ∙ at)
    ]

-- what a set in the order of insertion does with a value
pub insert_full-Gets : {K X : Type 0} (eq : K → K → Bool) (view : K → X) → ((x y : K) → eq x y ≡ true → view x ≡ view y) → ((x y : K) → view x ≡ view y → eq x y ≡ true)
    → (keys after : List K) (key : K) (r : ℕ) → after ≡ insert_key eq keys key → r ≡ position_or_len (eq key) keys
    → Gets (view key) (map view keys) (map view after) r
insert_full-Gets {K} {X} eq view same back keys after key r is at = elim (cases_lt (position_or_len (eq key) keys) (length keys)) [
  | inl l ↦
      let p : ℕ = position_or_len (eq key) keys in
      let hit : eq key (get_or keys p key) ≡ true = passes_at_first (eq key) keys key l in
      let has : list_any (eq key) keys ≡ true = list_any_at (eq key) keys p key l hit in
      record {
        number = inl (
          ap (map view) (is ∙ ap (λ (b : Bool). if b then keys else keys ++ key ∷ []) has),
          slice_get-map view keys r ∙ ap (λ (j : ℕ). option_map view (slice_get keys j)) at ∙ ap (option_map view) (slice_get-get_or keys p key l) ∙ ap Some (sym (same key _ hit)),
        );
      }
  | inr over ↦
      let none : (k : ℕ) (d : K) → k < length keys → eq key (get_or keys k d) ≡ false = λ k d m. fails_before_first (eq key) keys k d (omega (arith, m, over)) in
      let lacks : list_any (eq key) keys ≡ false = list_any_none (eq key) keys none in
      let end : position_or_len (eq key) keys ≡ length keys = position_or_len_is (eq key) keys (length keys) key (omega arith) (λ k m. none k key m) (λ m. absurd (omega (arith, m))) in
      record {
        number = inr (
          ap (map view) (is ∙ ap (λ (b : Bool). if b then keys else keys ++ key ∷ []) lacks) ∙ map-append view keys (key ∷ []),
          at ∙ end ∙ sym (length-map keys view),
          λ g h. fresh none g h,
        );
      }
]
  where
    fresh : ((k : ℕ) (d : K) → k < length keys → eq key (get_or keys k d) ≡ false) → (g : ℕ) → slice_get (map view keys) g ≡ Some (view key) → ⊥
    fresh none g h =
        let l : g < length keys = omega (arith, slice_get_within (map view keys) g (view key) h, length-map keys view) in
        let y : K = get_or keys g key in
        let seen : view y ≡ view key = some_inj _ _ (ap (option_map view) (sym (slice_get-get_or keys g key l)) ∙ sym (slice_get-map view keys g) ∙ h) in
        true≢false (sym (back key y (sym seen)) ∙ none g key l)

-- numbers of values that are equal exactly where rows agree on a set
pub groups_from : {X : Type 0} (rows : Relation) (x : Attributes) (value : ℕ → X) (seen : List X) (numbers : List ℕ) → AreNumbered value (length rows) seen numbers
    → ((i j : ℕ) → i < length rows → j < length rows → (value i ≡ value j) ↔ AgreeOn x (row_at rows i) (row_at rows j))
    → AreGroups rows x numbers
groups_from rows x value seen numbers n same = record {
  one_each = n.one_each;
  equal = λ i j li lj. (
    (λ e. (same i j li lj).0 (some_inj _ _ (sym (n.read i li) ∙ ap (slice_get seen) e ∙ n.read j lj))),
    (λ a. n.once _ _ (value j) (n.read i li ∙ ap Some ((same i j li lj).1 a)) (n.read j lj)),
  );
  in_order = λ i g l m. n.in_order i g (omega (arith, l, n.one_each)) m;
}

-- one attribute
pub column_groups : (rows : Relation) (k : ℕ) (seen : List (List ℕ)) (numbers : List ℕ) → AreNumbered (λ i. value_at (row_at rows i) k) (length rows) seen numbers → AreGroups rows (only k) numbers
column_groups rows k seen numbers n = groups_from rows (only k) (λ i. value_at (row_at rows i) k) seen numbers n (λ i j li lj.
    ((λ e m at. subst (λ (p : ℕ). value_at (row_at rows i) p ≡ value_at (row_at rows j) p) (sym (eqb-true m k at)) e), (λ a. a k (grind arith))))

pub refined_groups : (rows : Relation) (x y : Attributes) (groups codes : List ℕ) (seen : List (ℕ × ℕ)) (numbers : List ℕ) → AreGroups rows x groups → AreGroups rows y codes
    → AreNumbered (λ i. (number_at groups i, number_at codes i)) (length rows) seen numbers → AreGroups rows (union x y) numbers
refined_groups rows x y groups codes seen numbers g c n = groups_from rows (union x y) (λ i. (number_at groups i, number_at codes i)) seen numbers n (λ i j li lj. (
  (λ e. AgreeOn-union x y _ _ ((g.equal i j li lj).0 (ap (λ (p : ℕ × ℕ). p.0) e)) ((c.equal i j li lj).0 (ap (λ (p : ℕ × ℕ). p.1) e))),
  (λ a. pair_path _ _ _ _ ((g.equal i j li lj).1 (AgreeOn-left x y _ _ a)) ((c.equal i j li lj).1 (AgreeOn-right x y _ _ a))),
))
  where
    pair_path : (a b c d : ℕ) → a ≡ b → c ≡ d → ◌≡◌ {A = ℕ × ℕ} (a, c) (b, d)
    pair_path a b c d e f = cc

-- where all rows are in one group, one attribute more numbers them alone
pub single_group : (rows : Relation) (x : Attributes) (k : ℕ) (groups codes : List ℕ) → AreGroups rows x groups → ((i : ℕ) → i < length rows → number_at groups i ≡ 0) → AreGroups rows (only k) codes
    → AreGroups rows (union x (only k)) codes
single_group rows x k groups codes g zeros c = record {
  one_each = c.one_each;
  equal = λ i j li lj. (
    (λ e. AgreeOn-union x (only k) _ _ ((g.equal i j li lj).0 (zeros i li ∙ sym (zeros j lj))) ((c.equal i j li lj).0 e)),
    (λ a. (c.equal i j li lj).1 (AgreeOn-right x (only k) _ _ a)),
  );
  in_order = c.in_order;
}

-- a set looks at its members alone
pub same_groups : (rows : Relation) (x y : Attributes) (groups : List ℕ) → x ≡ y → AreGroups rows x groups → AreGroups rows y groups
same_groups rows x y groups same g = record {
  one_each = g.one_each;
  equal = λ i j li lj. (
    (λ e m has. (g.equal i j li lj).0 e m (same_at same m ∙ has)),
    (λ a. (g.equal i j li lj).1 (λ m has. a m (sym (same_at same m) ∙ has))),
  );
  in_order = g.in_order;
}

-- the values that are lent
abbrev pub lent_bytes : List LentValue → List (List ℕ)
lent_bytes values = map (λ (value : LentValue). value.bytes.now) values

-- one value more
pub value_step : (value : ℕ → List ℕ) (n : ℕ) (keys after : List LentValue) (key : LentValue) (numbers items : List ℕ) (r : ℕ)
    → AreNumbered value n (lent_bytes keys) numbers
    → key.bytes.now ≡ value n
    → after ≡ insert_key (λ (x y : LentValue). pointwise nat_eq x.bytes.now y.bytes.now) keys key
    → r ≡ position_or_len (λ (y : LentValue). pointwise nat_eq key.bytes.now y.bytes.now) keys
    → items ≡ numbers ++ r ∷ []
    → AreNumbered value (n + 1) (lent_bytes after) items
value_step value n keys after key numbers items r old is grown at pushed =
    let gets = insert_full-Gets (λ (x y : LentValue). pointwise nat_eq x.bytes.now y.bytes.now) (λ (s : LentValue). s.bytes.now)
    (λ x y. (bytes_eq-Decides x.bytes.now y.bytes.now).0) (λ x y. (bytes_eq-Decides x.bytes.now y.bytes.now).1) keys after key r grown at in
    subst (λ (l : List ℕ). AreNumbered value (n + 1) (lent_bytes after) l) (sym pushed)
    (numbered_more value n _ _ numbers r old (subst (λ (v : List ℕ). Gets v (lent_bytes keys) (lent_bytes after) r) is gets))

and_left : (x y : Bool) → (x && y) ≡ true → x ≡ true
and_left true y h = refl
and_left false y h = h

and_right : (x y : Bool) → (x && y) ≡ true → y ≡ true
and_right true y h = h
and_right false y h = absurd (true≢false (sym h))

pair_same : (x y : ℕ × ℕ) → ((x.0 == y.0) && (x.1 == y.1)) ≡ true → x ≡ y
pair_same (a, b) (c, d) h = by (eqb-true a c (and_left (a == c) (b == d) h)) (eqb-true b d (and_right (a == c) (b == d) h))
  where
    by : a ≡ c → b ≡ d → ◌≡◌ {A = ℕ × ℕ} (a, b) (c, d)
    by e f = cc

pair_back : (x y : ℕ × ℕ) → x ≡ y → ((x.0 == y.0) && (x.1 == y.1)) ≡ true
pair_back (a, b) (c, d) e = ap (λ (t : Bool). t && (b == d)) (eq-eqb a c (ap (λ (p : ℕ × ℕ). p.0) e)) ∙ eq-eqb b d (ap (λ (p : ℕ × ℕ). p.1) e)

-- what a set of pairs does with a pair
pub pair-Gets : (keys after : List (ℕ × ℕ)) (key : ℕ × ℕ) (r : ℕ)
    → after ≡ insert_key (λ (x y : ℕ × ℕ). (x.0 == y.0) && (x.1 == y.1)) keys key → r ≡ position_or_len (λ (y : ℕ × ℕ). (key.0 == y.0) && (key.1 == y.1)) keys
    → Gets key keys after r
pair-Gets keys after key r grown at =
    subst (λ (l : List (ℕ × ℕ)). Gets key l after r) (same_list keys)
    (subst (λ (l : List (ℕ × ℕ)). Gets key (map (λ (p : ℕ × ℕ). p) keys) l r) (same_list after)
    (insert_full-Gets (λ (x y : ℕ × ℕ). (x.0 == y.0) && (x.1 == y.1)) (λ (p : ℕ × ℕ). p) pair_same pair_back keys after key r grown at))
  where
    same_list : (l : List (ℕ × ℕ)) → map (λ (p : ℕ × ℕ). p) l ≡ l
    same_list [] = refl
    same_list (p ∷ l) = ap (λ (m : List (ℕ × ℕ)). p ∷ m) (same_list l)

-- the columns so far, and one more
pub one_column_more : (rows : Relation) (columns : List (List ℕ)) (column : List ℕ) (n : ℕ) → length columns ≡ n
    → ((k : ℕ) → k < n → AreGroups rows (only k) (slice_index_or columns k [])) → AreGroups rows (only n) column
    → (k : ℕ) → k < n + 1 → AreGroups rows (only k) (slice_index_or (columns ++ column ∷ []) k [])
one_column_more rows columns column n size old new k l = elim (cases_lt k n) [
  | inl front ↦ subst (AreGroups rows (only k)) (sym (get_or_append_left columns (column ∷ []) [] k (omega (arith, front, size)))) (old k front)
  | inr last ↦
      let here : n ≡ k = at_end k n l last in
      subst (λ (j : ℕ). AreGroups rows (only j) (slice_index_or (columns ++ column ∷ []) j [])) here
      (subst (AreGroups rows (only n)) (sym (ap (λ (j : ℕ). slice_index_or (columns ++ column ∷ []) j []) (sym size) ∙ get_or-append_seam columns column [] [])) new)
]

-- each column has a number for each row
pub columns_even : (rows : Relation) (columns : List (List ℕ)) (n : ℕ) → length columns ≡ n → ((k : ℕ) → k < n → AreGroups rows (only k) (slice_index_or columns k []))
    → (k : ℕ) (d : List ℕ) → k < length columns → length (slice_index_or columns k d) ≡ length rows
columns_even rows columns n size old k d l = ap length (same_default columns k d [] l) ∙ (old k (omega (arith, l, size))).one_each

pub zeros_at : (n i : ℕ) → number_at (replicate n 0) i ≡ 0
zeros_at zero i = refl
zeros_at (suc n) zero = refl
zeros_at (suc n) (suc i) = zeros_at n i

pub intersection_in : (x : Attributes) (k : ℕ) → x k ≡ true → union (intersection x (below k)) (only k) ≡ intersection x (below (k + 1))
intersection_in x k h = fun_ext (λ m. elim (cases_Bool (m == k)) [
  | inl same ↦
      let e : m ≡ k = eqb-true m k same in
      let has : x m ≡ true = ap x e ∙ h in
      let low : nat_lt m (k + 1) ≡ true = grind (arith, e) in
      ap (λ (b : Bool). (x m && nat_lt m k) || b) same ∙ or_true (x m && nat_lt m k) ∙ sym (ap (λ (b : Bool). b && nat_lt m (k + 1)) has ∙ low)
  | inr other ↦
      let low : nat_lt m k ≡ nat_lt m (k + 1) = grind (arith, other) in
      ap (λ (b : Bool). (x m && nat_lt m k) || b) other ∙ or_false (x m && nat_lt m k) ∙ ap (λ (b : Bool). x m && b) low
])
  where
    or_true : (b : Bool) → (b || true) ≡ true
    or_true true = refl
    or_true false = refl

    or_false : (b : Bool) → (b || false) ≡ b
    or_false true = refl
    or_false false = refl

pub intersection_out : (x : Attributes) (k : ℕ) → x k ≡ false → intersection x (below k) ≡ intersection x (below (k + 1))
intersection_out x k h = fun_ext (λ m. elim (cases_Bool (m == k)) [
  | inl same ↦
      let has : x m ≡ false = ap x (eqb-true m k same) ∙ h in
      ap (λ (b : Bool). b && nat_lt m k) has ∙ sym (ap (λ (b : Bool). b && nat_lt m (k + 1)) has)
  | inr other ↦ let low : nat_lt m k ≡ nat_lt m (k + 1) = grind (arith, other) in ap (λ (b : Bool). x m && b) low
])

pub union-none : (x : Attributes) → union none x ≡ x
union-none x = refl

pub union-assoc : (x y z : Attributes) → union (union x y) z ≡ union x (union y z)
union-assoc x y z = fun_ext (λ k. by (x k) (y k) (z k))
  where
    by : (a b c : Bool) → ((a || b) || c) ≡ (a || (b || c))
    by true b c = refl
    by false b c = refl

-- what a set adds to another
pub union-difference : (x y : Attributes) → union x (difference y x) ≡ union x y
union-difference x y = fun_ext (λ k. by (x k) (y k))
  where
    by : (a b : Bool) → (a || (b && not a)) ≡ (a || b)
    by true b = refl
    by false true = refl
    by false false = refl

pub difference_within : (n : ℕ) (x y : Attributes) → IsSubset y (below n) → IsSubset (difference y x) (below n)
difference_within n x y within k has = within k (by (y k) (x k) has)
  where
    by : (a b : Bool) → (a && not b) ≡ true → a ≡ true
    by true b h = refl
    by false b h = h

pub union-rest : (n : ℕ) (x : Attributes) → IsSubset x (below n) → union x (difference (below n) x) ≡ below n
union-rest n x within = fun_ext (λ k. by (x k) (nat_lt k n) (within k))
  where
    by : (a b : Bool) → (a ≡ true → b ≡ true) → (a || (b && not a)) ≡ b
    by true b h = sym (h refl)
    by false true h = refl
    by false false h = refl

-- all rows are one group where nothing is looked at
pub zero_groups : (rows : Relation) (n : ℕ) → n ≡ length rows → AreGroups rows none (replicate n 0)
zero_groups rows n size = record {
  one_each = length-replicate n 0 ∙ size;
  equal = λ i j i_in j_in. ((λ e m has. absurd (true≢false (sym has))), (λ a. zeros_at n i ∙ sym (zeros_at n j)));
  in_order = λ i g i_in more. absurd (omega (arith, zeros_at n i, more));
}

pub intersection_all : (x : Attributes) (n : ℕ) → IsSubset x (below n) → intersection x (below n) ≡ x
intersection_all x n within = fun_ext (λ k. by k (x k) (within k))
  where
    by : (k : ℕ) (b : Bool) → (b ≡ true → nat_lt k n ≡ true) → (b && nat_lt k n) ≡ b
    by k true h = h refl
    by k false h = refl

-- the first rows of the numbers up to a row
pub record FirstsBefore (numbers : List ℕ) (i : ℕ) (firsts : List ℕ) : Type 0 where
  pub each : (j : ℕ) → j < i → number_at numbers j < length firsts
  pub within : (g : ℕ) → g < length firsts → number_at firsts g < i
  pub number : (g : ℕ) → g < length firsts → number_at numbers (number_at firsts g) ≡ g
  pub least : (j : ℕ) → j < i → (number_at firsts (number_at numbers j) < j) ⊎ (number_at firsts (number_at numbers j) ≡ j)

-- a row of a new number
pub new_first : (numbers firsts items : List ℕ) (i : ℕ) → FirstsBefore numbers i firsts → number_at numbers i ≡ length firsts → items ≡ firsts ++ i ∷ [] → FirstsBefore numbers (i + 1) items
new_first numbers firsts items i old is pushed = subst (FirstsBefore numbers (i + 1)) (sym pushed) (record {
  each = λ j l. elim (cases_lt j i) [
    | inl front ↦ omega (arith, old.each j front, size)
    | inr last ↦ omega (arith, ap (number_at numbers) (at_end j i l last), is, size)
  ];
  within = λ g l. elim (cases_lt g (length firsts)) [
    | inl front ↦ omega (arith, at_front firsts (length firsts) i g refl front, old.within g front)
    | inr last ↦ omega (arith, here g l last)
  ];
  number = λ g l. elim (cases_lt g (length firsts)) [
    | inl front ↦ ap (number_at numbers) (at_front firsts (length firsts) i g refl front) ∙ old.number g front
    | inr last ↦ ap (number_at numbers) (here g l last) ∙ is ∙ at_end g (length firsts) (omega (arith, l, size)) last
  ];
  least = λ j l. elim (cases_lt j i) [
    | inl front ↦
        let same : number_at (firsts ++ i ∷ []) (number_at numbers j) ≡ number_at firsts (number_at numbers j) = at_front firsts (length firsts) i (number_at numbers j) refl (old.each j front) in
        elim (old.least j front) [ inl less ↦ inl (omega (arith, same, less)) | inr equal ↦ inr (same ∙ equal) ]
    | inr last ↦
        let e : i ≡ j = at_end j i l last in
        inr (ap (number_at (firsts ++ i ∷ [])) (ap (number_at numbers) (sym e) ∙ is) ∙ at_last firsts (length firsts) i refl ∙ e)
  ];
})
  where
    size : length (firsts ++ i ∷ []) ≡ length firsts + 1
    size = length-append firsts (i ∷ [])

    here : (g : ℕ) → g < length (firsts ++ i ∷ []) → length firsts ≤ g → number_at (firsts ++ i ∷ []) g ≡ i
    here g l last = ap (number_at (firsts ++ i ∷ [])) (sym (at_end g (length firsts) (omega (arith, l, size)) last)) ∙ at_last firsts (length firsts) i refl

-- a row of a number that stood before
pub old_first : (numbers firsts : List ℕ) (i : ℕ) → FirstsBefore numbers i firsts → AreInOrder numbers → i < length numbers → number_at numbers i ≢ length firsts → FirstsBefore numbers (i + 1) firsts
old_first numbers firsts i old order l other = elim (cases_lt (length firsts) (number_at numbers i)) [
  | inl more ↦
      let (j, before, at) = order i (length firsts) l more in
      absurd (omega (arith, old.each j before, at))
  | inr within_limit ↦ elim (cases_lt (number_at numbers i) (length firsts)) [
    | inl less ↦ record {
      each = λ j m. elim (cases_lt j i) [
        | inl front ↦ old.each j front
        | inr last ↦ omega (arith, ap (number_at numbers) (at_end j i m last), less)
      ];
      within = λ g m. omega (arith, old.within g m);
      number = old.number;
      least = λ j m. elim (cases_lt j i) [
        | inl front ↦ old.least j front
        | inr last ↦
            let e : i ≡ j = at_end j i m last in
            inl (omega (arith, ap (λ (k : ℕ). number_at firsts (number_at numbers k)) e, old.within (number_at numbers i) less, e))
      ];
    }
    | inr equal ↦ absurd (other (omega (arith, within_limit, equal)))
  ]
]

-- groups by a column, from the numbers of pairs
pub pair_groups : (rows : Relation) (x : Attributes) (k : ℕ) (groups codes items : List ℕ) → AreGroups rows x groups → AreGroups rows (only k) codes
    → (seen : List (ℕ × ℕ)) × AreNumbered (λ i. (number_at groups i, number_at codes i)) (length groups) seen items
    → AreGroups rows (union x (only k)) items
pair_groups rows x k groups codes items g c n =
    refined_groups rows x (only k) groups codes n.0 items g c
    (subst (λ (m : ℕ). AreNumbered (λ i. (number_at groups i, number_at codes i)) m n.0 items) g.one_each n.1)

-- a tuple of a relation stands at a position of it
pub row_of : (r : Relation) (t : Tuple) → Contains r t → (i : ℕ) × (i < length r) × (row_at r i ≡ t)
row_of r t has = (has.0, has.1, get_or_default r has.0 [] t has.1 ∙ has.2)
