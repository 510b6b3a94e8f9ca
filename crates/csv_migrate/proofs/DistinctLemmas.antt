-- The values at the first rows of groups are each distinct value once, at its first occurrence.
use Rattle.std.proofs.Common.{inl, inr, ◌≡◌, ◌<◌, ◌≤◌, ◌||◌, ℕ, zero, suc, Bool, true, false, not, cond, true≢false, List, [], ◌∷◌, ◌++◌, length, get_or, map, take, filter, append-nil, refl, sym, ap, subst, ◌∙◌, arith}
use Rattle.std.specs.List.{list_any}
use Rattle.std.proofs.lemmas.Bool.{cases_Bool, cases_lt}
use Rattle.std.proofs.lemmas.List.{map-append, length-take-le, get_or-take, take_all}
use Rattle.std.proofs.lemmas.List.Elements.{filter-append}
use Rattle.std.proofs.lemmas.List.Folds.{list_any_at, Any-from_list_any}
use Rattle.std.proofs.Math.Seq.{take-suc}
use Rattle.dep_model.specs.Tuples.{Tuple, Relation, same_tuple, distinct_tuples}
use Rattle.dep_model.proofs.DistinctLemmas.{same_tuple-decides}
use Rattle.row_groups.specs.Numberings.{number_at, AreInOrder, AreFirsts}
use Rattle.row_store.specs.Rows.{row_at}
use Rattle.dep_model.proofs.ListLemmas.{same_default}

-- ---- one tuple more
abbrev differs_from : Tuple → Tuple → Bool
differs_from t u = not (same_tuple t u)

-- whether a tuple is in a list
abbrev contains_tuple : Relation → Tuple → Bool
contains_tuple r t = list_any (λ u. same_tuple u t) r

neither_left : (a b : Bool) → (a || b) ≡ false → a ≡ false
neither_left true b h = h
neither_left false b h = refl

neither_right : (a b : Bool) → (a || b) ≡ false → b ≡ false
neither_right true b h = absurd (true≢false h)
neither_right false b h = h

one_of : (a b : Bool) → (a || b) ≡ true → b ≡ false → a ≡ true
one_of true b h none = refl
one_of false b h none = absurd (true≢false (sym h ∙ none))

distinct_new : (r : Relation) (t : Tuple) → contains_tuple r t ≡ false → distinct_tuples (r ++ t ∷ []) ≡ distinct_tuples r ++ t ∷ []
distinct_new [] t none = refl
distinct_new (u ∷ r) t none =
    ap (λ (l : Relation). u ∷ filter (differs_from u) l) (distinct_new r t (neither_right (same_tuple u t) (contains_tuple r t) none))
    ∙ ap (λ (l : Relation). u ∷ l) (filter-append (differs_from u) (distinct_tuples r) (t ∷ []))
    ∙ ap (λ (b : Bool). u ∷ (filter (differs_from u) (distinct_tuples r) ++ cond (not b) (t ∷ []) []))
    (neither_left (same_tuple u t) (contains_tuple r t) none)

distinct_seen : (r : Relation) (t : Tuple) → contains_tuple r t ≡ true → distinct_tuples (r ++ t ∷ []) ≡ distinct_tuples r
distinct_seen [] t not_empty = absurd (true≢false (sym not_empty))
distinct_seen (u ∷ r) t not_empty = elim (cases_Bool (contains_tuple r t)) [
  | inl later ↦ ap (λ (l : Relation). u ∷ filter (differs_from u) l) (distinct_seen r t later)
  | inr none ↦
      ap (λ (l : Relation). u ∷ filter (differs_from u) l) (distinct_new r t none)
      ∙ ap (λ (l : Relation). u ∷ l) (filter-append (differs_from u) (distinct_tuples r) (t ∷ []))
      ∙ ap (λ (b : Bool). u ∷ (filter (differs_from u) (distinct_tuples r) ++ cond (not b) (t ∷ []) []))
      (one_of (same_tuple u t) (contains_tuple r t) not_empty none)
      ∙ ap (λ (l : Relation). u ∷ l) (append-nil (filter (differs_from u) (distinct_tuples r)))
]

-- ---- values by numbers
-- two values have one number exactly where they are equal, and the numbers are given in the order of
-- first occurrence
pub record AreClasses (values : Relation) (value : ℕ → Tuple) (numbers : List ℕ) : Type 0 where
  pub one_each : length numbers ≡ length values
  pub at : (i : ℕ) → i < length values → row_at values i ≡ value i
  pub equal : (i j : ℕ) → i < length values → j < length values → number_at numbers i ≡ number_at numbers j
      → value i ≡ value j
  pub back : (i j : ℕ) → i < length values → j < length values → value i ≡ value j
      → number_at numbers i ≡ number_at numbers j
  pub in_order : AreInOrder numbers

-- among the first n values the first m first rows are found
record Found (values : Relation) (value : ℕ → Tuple) (firsts : List ℕ) (n m : ℕ) : Type 0 where
  within_firsts : m ≤ length firsts
  before : (g : ℕ) → g < m → number_at firsts g < n
  after : (g : ℕ) → m ≤ g → g < length firsts → n ≤ number_at firsts g
  found : distinct_tuples (take n values) ≡ map value (take m firsts)

none_found : (values : Relation) (value : ℕ → Tuple) (firsts : List ℕ) → Found values value firsts 0 0
none_found values value firsts = record {
  within_firsts = omega arith;
  before = λ g l. absurd (omega (arith, l));
  after = λ g l m. omega arith;
  found = refl;
}

-- the next value, after those before it
next_value : (values : Relation) (value : ℕ → Tuple) (numbers : List ℕ) (n : ℕ) → AreClasses values value numbers
    → n < length values → take (suc n) values ≡ take n values ++ value n ∷ []
next_value values value numbers n classes l =
    take-suc values n [] l ∙ ap (λ (t : Tuple). take n values ++ t ∷ []) (classes.at n l)

-- a value that stood before
has_value : (values : Relation) (value : ℕ → Tuple) (numbers : List ℕ) (n i : ℕ) → AreClasses values value numbers
    → n < length values → i < n → number_at numbers i ≡ number_at numbers n
    → contains_tuple (take n values) (value n) ≡ true
has_value values value numbers n i classes l front same =
    let here : get_or (take n values) i [] ≡ value n =
    get_or-take n values i [] front ∙ classes.at i (omega (arith, front, l))
    ∙ classes.equal i n (omega (arith, front, l)) l same in
    list_any_at (λ u. same_tuple u (value n)) (take n values) i []
    (omega (arith, front, l, length-take-le n values (omega (arith, l))))
    ((same_tuple-decides (get_or (take n values) i []) (value n)).1 here)

-- a value that did not stand before
lacks_value : (values : Relation) (value : ℕ → Tuple) (numbers : List ℕ) (n : ℕ) → AreClasses values value numbers
    → n < length values
    → ((i : ℕ) → i < n → number_at numbers i ≡ number_at numbers n → ⊥) → contains_tuple (take n values) (value n) ≡ false
lacks_value values value numbers n classes l apart = elim (cases_Bool (contains_tuple (take n values) (value n))) [
  | inl not_empty ↦
      let (i, t, within, is, same) = Any-from_list_any (λ u. same_tuple u (value n)) (take n values) not_empty in
      let front : i < n = omega (arith, within, length-take-le n values (omega (arith, l))) in
      let low : i < length values = omega (arith, front, l) in
      let equal : value i ≡ value n =
      sym (classes.at i low) ∙ same_default values i [] t low ∙ sym (get_or-take n values i t front) ∙ is
      ∙ (same_tuple-decides t (value n)).0 same in
      absurd (apart i front (classes.back i n low l equal))
  | inr none ↦ none
]

-- the row of a value that stood before is no first row
old_row : (values : Relation) (value : ℕ → Tuple) (numbers firsts : List ℕ) (n m : ℕ)
    → AreClasses values value numbers → AreFirsts numbers firsts → n < length values
    → Found values value firsts n m → number_at numbers n < m → Found values value firsts (suc n) m
old_row values value numbers firsts n m classes are l so_far old = record {
  within_firsts = so_far.within_firsts;
  before = λ g low. omega (arith, so_far.before g low);
  after = λ g high low. elim (cases_lt n (number_at firsts g)) [
    | inl more ↦ omega (arith, more)
    | inr here ↦
        let is : number_at firsts g ≡ n = omega (arith, here, so_far.after g high low) in
        absurd (omega (arith, old, high, ap (number_at numbers) is, are.number g low))
  ];
  found =
      let short : number_at numbers n < length firsts = omega (arith, old, so_far.within_firsts) in
      ap distinct_tuples (next_value values value numbers n classes l)
      ∙ distinct_seen (take n values) (value n)
      (has_value values value numbers n (number_at firsts (number_at numbers n)) classes l
      (so_far.before (number_at numbers n) old) (are.number (number_at numbers n) short))
      ∙ so_far.found;
}

-- the row of a new value is the next first row
new_row : (values : Relation) (value : ℕ → Tuple) (numbers firsts : List ℕ) (n m : ℕ)
    → AreClasses values value numbers → AreFirsts numbers firsts → n < length values
    → Found values value firsts n m → m ≤ number_at numbers n → Found values value firsts (suc n) (suc m)
new_row values value numbers firsts n m classes are l so_far new = record {
  within_firsts = omega (arith, short, is_next);
  before = λ g low. elim (cases_lt g m) [
    | inl front ↦ omega (arith, so_far.before g front)
    | inr last ↦ let e : g ≡ m = omega (arith, low, last) in omega (arith, ap (number_at firsts) e, next_first)
  ];
  after = λ g high low. elim (cases_lt n (number_at firsts g)) [
    | inl more ↦ omega (arith, more)
    | inr here ↦
        let is : number_at firsts g ≡ n = omega (arith, here, so_far.after g (omega (arith, high)) low) in
        absurd (omega (arith, high, is_next, ap (number_at numbers) is, are.number g low))
  ];
  found =
      ap distinct_tuples (next_value values value numbers n classes l)
      ∙ distinct_new (take n values) (value n) (lacks_value values value numbers n classes l no_earlier)
      ∙ ap (λ (r : Relation). r ++ value n ∷ []) so_far.found
      ∙ ap (λ (i : ℕ). map value (take m firsts) ++ value i ∷ []) (sym next_first)
      ∙ sym (map-append value (take m firsts) (number_at firsts m ∷ []))
      ∙ ap (map value) (sym (take-suc firsts m 0 (omega (arith, short, is_next))));
}
  where
    row : n < length numbers
    row = omega (arith, l, classes.one_each)

    short : number_at numbers n < length firsts
    short = are.each n row

    is_first : number_at firsts (number_at numbers n) ≡ n
    is_first = elim (are.least n row) [
      | inl less ↦ absurd (omega (arith, less, so_far.after (number_at numbers n) new short))
      | inr same ↦ same
    ]

    -- an earlier row of a number is no earlier than its first row
    not_before : (j : ℕ) → j < length numbers → number_at firsts (number_at numbers j) ≤ j
    not_before j low = elim (are.least j low) [ inl less ↦ omega (arith, less) | inr same ↦ omega (arith, same) ]

    is_next : number_at numbers n ≡ m
    is_next = elim (cases_lt m (number_at numbers n)) [
      | inl more ↦
          let (j, front, at) = classes.in_order n m row more in
          let low : number_at firsts m ≤ j = subst (λ (g : ℕ). number_at firsts g ≤ j) at
          (not_before j (omega (arith, front, row))) in
          absurd (omega (arith, low, front, so_far.after m (omega arith) (omega (arith, more, short))))
      | inr same ↦ omega (arith, same, new)
    ]

    next_first : number_at firsts m ≡ n
    next_first = ap (number_at firsts) (sym is_next) ∙ is_first

    no_earlier : (i : ℕ) → i < n → number_at numbers i ≡ number_at numbers n → ⊥
    no_earlier i front same =
        let low : number_at firsts (number_at numbers n) ≤ i =
        subst (λ (g : ℕ). number_at firsts g ≤ i) same (not_before i (omega (arith, front, row))) in
        omega (arith, low, front, is_first)

found_up_to : (values : Relation) (value : ℕ → Tuple) (numbers firsts : List ℕ) → AreClasses values value numbers
    → AreFirsts numbers firsts
    → (n : ℕ) → n ≤ length values → (m : ℕ) × Found values value firsts n m
found_up_to values value numbers firsts classes are zero l = (0, none_found values value firsts)
found_up_to values value numbers firsts classes are (suc n) l =
    let (m, so_far) = found_up_to values value numbers firsts classes are n (omega (arith, l)) in
    elim (cases_lt (number_at numbers n) m) [
      | inl old ↦ (m, old_row values value numbers firsts n m classes are (omega (arith, l)) so_far old)
      | inr new ↦ (suc m, new_row values value numbers firsts n m classes are (omega (arith, l)) so_far new)
    ]

pub distinct_values : (values : Relation) (value : ℕ → Tuple) (numbers firsts : List ℕ)
    → AreClasses values value numbers → AreFirsts numbers firsts → distinct_tuples values ≡ map value firsts
distinct_values values value numbers firsts classes are =
    let (m, all) = found_up_to values value numbers firsts classes are (length values) (omega arith) in
    let whole : length firsts ≤ m = elim (cases_lt m (length firsts)) [
      | inl short ↦ absurd (omega (arith, all.after m (omega arith) short, are.within m short, classes.one_each))
      | inr enough ↦ enough
    ] in
    sym (ap distinct_tuples (take_all (length values) values (omega arith))) ∙ all.found
    ∙ ap (map value) (take_all m firsts whole)
