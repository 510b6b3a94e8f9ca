-- The branch of one column more, and that no candidate above a branch is passed over.
use Rattle.std.proofs.Common.{inl, inr, ◌≡◌, ◌+◌, ◌<◌, ◌≤◌, ◌⊎◌, ◌||◌, ℕ, Bool, not, true, false, List, [], ◌∷◌, ◌++◌, filter, refl, sym, ap, subst, ◌∙◌, arith}
use Rattle.std.specs.Prelude.{All, Any, Contains}
use Rattle.std.proofs.lemmas.Bool.{cases_Bool, cases_eq, eq-eqb, eqb-true, false≢true, lt-ltb, ltb-true, true≢false}
use Rattle.std.proofs.lemmas.Bool.Decides.{nat_tests}
use Rattle.std.proofs.lemmas.List.{map-append}
use Rattle.std.proofs.lemmas.List.Elements.{All-nil, All-push, Contains-append_cases, Contains-append_left, Contains-append_right}
use Rattle.std.proofs.lemmas.List.Quantifiers.{Any-push}
use Rattle.attr_sets.specs.Attributes.{Attributes, IsSubset, below, difference, only, union}
use Rattle.attr_sets.specs.Sets.{attributes}
use Rattle.attr_sets.specs.declared.set.AttrSet.{AttrSet}
use Rattle.attr_sets.proofs.AttributesLemmas.{count_below-lt, count_below-union_only, same_at, tell_subset}
use Rattle.dep_model.specs.Plans.{schemes_of}
use Rattle.dep_model.proofs.DistinctLemmas.{filter-keeps, filter-member}
use Rattle.dep_model.proofs.ListLemmas.{Any-left, Contains-map, map-member}
use Rattle.candidate_sets.specs.Standing.{IsCandidate}
use Rattle.candidate_sets.proofs.StandingLemmas.{tell_stands}
use Rattle.candidate_branches.specs.declared.branch.Branch.{Branch}
use Rattle.candidate_branches.specs.Branches.{has_column, lacks_column, IsEachLacked, IsWitnessed, LacksAlone, AreHolding, AreLackingOne, IsBranchWith, IsBranch, IsAbove, AreAbove, IsChild, AddsChild}

-- ---- members of sets
pub or_left : (a b : Bool) → a ≡ true → (a || b) ≡ true
or_left true b h = refl
or_left false b h = absurd (false≢true h)

pub or_right : (a b : Bool) → b ≡ true → (a || b) ≡ true
or_right true b h = refl
or_right false b h = h

pub or_cases : (a b : Bool) → (a || b) ≡ true → (a ≡ true) ⊎ (b ≡ true)
or_cases true b h = inl refl
or_cases false b h = inr h

not_false : (b : Bool) → not b ≡ true → b ≡ false
not_false true h = absurd (false≢true h)
not_false false h = refl

not_true : (b : Bool) → b ≡ false → not b ≡ true
not_true true h = absurd (true≢false h)
not_true false h = refl

pub with_cases : (x : Attributes) (i k : ℕ) → union x (only i) k ≡ true → (x k ≡ true) ⊎ (k ≡ i)
with_cases x i k m = elim (or_cases (x k) (only i k) m) [
  | inl has ↦ inl has
  | inr same ↦ inr (eqb-true k i same)
]

pub with_old : (x : Attributes) (i k : ℕ) → x k ≡ true → union x (only i) k ≡ true
with_old x i k has = or_left (x k) (only i k) has

pub with_new : (x : Attributes) (i : ℕ) → union x (only i) i ≡ true
with_new x i = or_right (x i) (only i i) (eq-eqb i i refl)

pub rest_to : (x : Attributes) (i k : ℕ) → difference x (only i) k ≡ true → (x k ≡ true) × (k ≡ i → ⊥)
rest_to x i k m = (grind (arith, m), λ same. apart same)
  where
    apart : k ≡ i → ⊥
    apart same = grind (arith, nat_tests, same, m)

pub rest_from : (x : Attributes) (i k : ℕ) → x k ≡ true → (k ≡ i → ⊥) → difference x (only i) k ≡ true
rest_from x i k has other = grind (arith, nat_tests, has, other)

pub outside_from : (x y : Attributes) (k : ℕ) → x k ≡ true → y k ≡ false → difference x y k ≡ true
outside_from x y k has out = grind (arith, has, out)

pub outside_to : (x y : Attributes) (k : ℕ) → difference x y k ≡ true → (x k ≡ true) × (y k ≡ false)
outside_to x y k m = elim (cases_Bool (y k)) [
  | inl has ↦ absurd (none has)
  | inr out ↦ (grind (arith, m), out)
]
  where
    none : y k ≡ true → ⊥
    none has = grind (arith, m, has)

-- ---- listed sets with a column, and without it
has_to : (k : ℕ) (sets : List AttrSet) (e : Attributes) → Contains (schemes_of (filter (has_column k) sets)) e → Contains (schemes_of sets) e × (e k ≡ true)
has_to k sets e h =
    let (s, s_in, is) = map-member attributes (filter (has_column k) sets) e h in
    let found = filter-member (has_column k) sets s s_in in
    (subst (λ (x : Attributes). Contains (schemes_of sets) x) is (Contains-map attributes sets s found.0), subst (λ (x : Attributes). x k ≡ true) is found.1)

has_from : (k : ℕ) (sets : List AttrSet) (e : Attributes) → Contains (schemes_of sets) e → e k ≡ true → Contains (schemes_of (filter (has_column k) sets)) e
has_from k sets e h has =
    let (s, s_in, is) = map-member attributes sets e h in
    subst (λ (x : Attributes). Contains (schemes_of (filter (has_column k) sets)) x) is
    (Contains-map attributes (filter (has_column k) sets) s (filter-keeps (has_column k) sets s s_in (subst (λ (x : Attributes). x k ≡ true) (sym is) has)))

lacks_to : (k : ℕ) (sets : List AttrSet) (e : Attributes) → Contains (schemes_of (filter (lacks_column k) sets)) e → Contains (schemes_of sets) e × (e k ≡ false)
lacks_to k sets e h =
    let (s, s_in, is) = map-member attributes (filter (lacks_column k) sets) e h in
    let found = filter-member (lacks_column k) sets s s_in in
    (subst (λ (x : Attributes). Contains (schemes_of sets) x) is (Contains-map attributes sets s found.0), subst (λ (x : Attributes). x k ≡ false) is (not_false (attributes s k) found.1))

lacks_from : (k : ℕ) (sets : List AttrSet) (e : Attributes) → Contains (schemes_of sets) e → e k ≡ false → Contains (schemes_of (filter (lacks_column k) sets)) e
lacks_from k sets e h lacks =
    let (s, s_in, is) = map-member attributes sets e h in
    subst (λ (x : Attributes). Contains (schemes_of (filter (lacks_column k) sets)) x) is
    (Contains-map attributes (filter (lacks_column k) sets) s (filter-keeps (lacks_column k) sets s s_in (not_true (attributes s k) (subst (λ (x : Attributes). x k ≡ false) (sym is) lacks))))

-- ---- one column more
module _ (n most a : ℕ) (es : List Attributes) (set free : Attributes) (left : ℕ) (held once : List AttrSet)
    (b : IsBranchWith n most a es set free left (schemes_of held) (schemes_of once))
    (by : Attributes) (by_in : Contains (schemes_of held) by) (column : ℕ) (by_lacks : by column ≡ false) where
  by_listed : Contains es by
  by_listed = (b.holding.each by by_in).0

  by_holds : IsSubset set by
  by_holds = (b.holding.each by by_in).1

  set_lacks : set column ≡ false
  set_lacks = elim (cases_Bool (set column)) [
    | inl has ↦ absurd (true≢false (sym (by_holds column has) ∙ by_lacks))
    | inr out ↦ out
  ]

  not_column : (k : ℕ) → set k ≡ true → k ≡ column → ⊥
  not_column k has same = true≢false (sym has ∙ ap set same ∙ set_lacks)

  alone_with : (e : Attributes) (k : ℕ) → LacksAlone set e k → e column ≡ true → LacksAlone (union set (only column)) e k
  alone_with e k alone has = record {
    member = with_old set column k alone.member;
    lacks = alone.lacks;
    rest = λ j m. let parts = rest_to (union set (only column)) k j m in elim (with_cases set column j parts.0) [
      | inl in_set ↦ alone.rest j (rest_from set k j in_set parts.1)
      | inr same ↦ ap e same ∙ has
    ];
  }

  column_alone : (e : Attributes) → IsSubset set e → e column ≡ false → LacksAlone (union set (only column)) e column
  column_alone e holds lacks = record {
    member = with_new set column;
    lacks = lacks;
    rest = λ j m. let parts = rest_to (union set (only column)) column j m in elim (with_cases set column j parts.0) [
      | inl in_set ↦ holds j in_set
      | inr same ↦ absurd (parts.1 same)
    ];
  }

  alone_before : (e : Attributes) (k : ℕ) → LacksAlone (union set (only column)) e k → (k ≡ column → ⊥) → LacksAlone set e k × (e column ≡ true)
  alone_before e k alone other = (
    record {
      member = elim (with_cases set column k alone.member) [
        | inl in_set ↦ in_set
        | inr same ↦ absurd (other same)
      ];
      lacks = alone.lacks;
      rest = λ j m. let parts = rest_to set k j m in alone.rest j (rest_from (union set (only column)) k j (with_old set column j parts.0) parts.1);
    },
    alone.rest column (rest_from (union set (only column)) k column (with_new set column) (λ same. other (sym same))),
  )

  child_holding : AreHolding es (union set (only column)) (schemes_of (filter (has_column column) held))
  child_holding = record {
    each = λ e h.
        let (in_held, has) = has_to column held e h in
        let (listed, holds) = b.holding.each e in_held in (
          listed,
          λ k m. elim (with_cases set column k m) [
            | inl in_set ↦ holds k in_set
            | inr same ↦ ap e same ∙ has
          ],
        );
    all = λ e listed holds. has_from column held e (b.holding.all e listed (λ k m. holds k (with_old set column k m))) (holds column (with_new set column));
  }

  child_lacking : AreLackingOne es (union set (only column)) (schemes_of (filter (has_column column) once ++ filter (lacks_column column) held))
  child_lacking = record {
    each = λ e h. elim (Contains-append_cases (schemes_of (filter (has_column column) once)) (schemes_of (filter (lacks_column column) held)) e
        (subst (λ (xs : List Attributes). Contains xs e) (map-append attributes (filter (has_column column) once) (filter (lacks_column column) held)) h)) [
          | inl first ↦
              let (in_once, has) = has_to column once e first in
              let found = b.lacking.each e in_once in
              (found.0, (found.1.0, alone_with e found.1.0 found.1.1 has))
          | inr second ↦
              let (in_held, lacks) = lacks_to column held e second in
              let (listed, holds) = b.holding.each e in_held in
              (listed, (column, column_alone e holds lacks))
        ];
    all = λ e k listed alone. subst (λ (xs : List Attributes). Contains xs e) (sym (map-append attributes (filter (has_column column) once) (filter (lacks_column column) held)))
        (elim (cases_eq k column) [
          | inl same ↦ Contains-append_right (schemes_of (filter (has_column column) once)) (schemes_of (filter (lacks_column column) held)) e
              (lacks_from column held e
              (b.holding.all e listed (λ j m. alone.rest j (rest_from (union set (only column)) k j (with_old set column j m) (λ at. not_column j m (at ∙ same)))))
              (ap e (sym same) ∙ alone.lacks))
          | inr other ↦
              let (before, has) = alone_before e k alone other in
              Contains-append_left (schemes_of (filter (has_column column) once)) (schemes_of (filter (lacks_column column) held)) e
              (has_from column once e (b.lacking.all e k listed before) has)
        ]);
  }

  child_needed : IsEachLacked (schemes_of once) set column → (k : ℕ) → union set (only column) k ≡ true
      → (e : Attributes) × Contains es e × LacksAlone (union set (only column)) e k
  child_needed lacked k m = elim (with_cases set column k m) [
    | inl in_set ↦
        let (e, in_once, has, lacks) = lacked k in_set in
        let found = b.lacking.each e in_once in
        let j : ℕ = found.1.0 in
        let same : j ≡ k = elim (cases_eq j k) [
          | inl same ↦ same
          | inr other ↦ absurd (true≢false (sym (found.1.1.rest k (rest_from set j k in_set (λ at. other (sym at)))) ∙ lacks))
        ] in
        (e, found.0, alone_with e k (subst (λ (i : ℕ). LacksAlone set e i) same found.1.1) has)
    | inr same ↦ (by, by_listed, subst (λ (i : ℕ). LacksAlone (union set (only column)) by i) (sym same) (column_alone by by_holds by_lacks))
  ]

  pub child_with : column < n → (a ≡ column → ⊥) → IsEachLacked (schemes_of once) set column → (later : Attributes) → IsSubset later (below n) → later a ≡ false
      → (fewer : ℕ) → fewer + 1 ≡ left
      → IsBranchWith n most a es (union set (only column)) later fewer (schemes_of (filter (has_column column) held))
      (schemes_of (filter (has_column column) once ++ filter (lacks_column column) held))
  child_with low other lacked later within outside fewer one = record {
    without = b.without;
    set_within = λ k m. elim (with_cases set column k m) [
      | inl in_set ↦ b.set_within k in_set
      | inr same ↦ lt-ltb k n (omega (arith, same, low))
    ];
    set_without = elim (cases_Bool (union set (only column) a)) [
      | inl has ↦ elim (with_cases set column a has) [
        | inl in_set ↦ absurd (true≢false (sym in_set ∙ b.set_without))
        | inr same ↦ absurd (other same)
      ]
      | inr out ↦ out
    ];
    free_within = within;
    free_without = outside;
    room = let more = count_below-union_only n set column low set_lacks in let room = b.room in omega (arith, more, one, room);
    holding = child_holding;
    lacking = child_lacking;
    needed = child_needed lacked;
  }

  -- where some member is lacked by none with the column, no candidate takes it on
  pub none_with : (IsEachLacked (schemes_of once) set column → ⊥) → (x : Attributes) → IsCandidate n most es a x → IsSubset set x → x column ≡ true → ⊥
  none_with unlacked x is inside has = unlacked (λ k in_set. witness k in_set)
    where
      witness : (k : ℕ) → set k ≡ true → IsWitnessed (schemes_of once) column k
      witness k in_set = elim (tell_stands n es a (difference x (only k)) (λ j m. is.within j (rest_to x k j m).0)) [
        | inl stands ↦ absurd ((rest_to x k k (is.minimal.minimal (difference x (only k)) (λ j m. (rest_to x k j m).0) stands k (inside k in_set))).1 refl)
        | inr found ↦
            let e : Attributes = found.0 in
            let lacks : e k ≡ false = elim (cases_Bool (e k)) [
              | inl e_has ↦ absurd (is.minimal.stands e found.1 found.2 (λ j m. elim (cases_eq j k) [
                | inl same ↦ ap e same ∙ e_has
                | inr apart ↦ found.3 j (rest_from x k j m apart)
              ]))
              | inr out ↦ out
            ] in (
              e,
              b.lacking.all e k found.1 (record {
                member = in_set;
                lacks = lacks;
                rest = λ j m. let parts = rest_to set k j m in found.3 j (rest_from x k j (inside j parts.0) parts.1);
              }),
              found.3 column (rest_from x k column has (λ same. not_column k in_set (sym same))),
              lacks,
            )
      ]

-- ---- column by column
-- columns that are free beside those of some others from a bound on
pub record AreFree (whole columns free : Attributes) (bound : ℕ) : Type 0 where
  pub within : IsSubset free whole
  pub upto : (k : ℕ) → whole k ≡ true → (columns k ≡ true → k < bound) → free k ≡ true

pub free_first : (whole columns free : Attributes) → free ≡ difference whole columns → AreFree whole columns free 0
free_first whole columns free is = record {
  within = λ k m. (outside_to whole columns k (sym (same_at is k) ∙ m)).0;
  upto = λ k has low. same_at is k ∙ elim (cases_Bool (columns k)) [
    | inl col ↦ let less = low col in absurd (omega (arith, less))
    | inr out ↦ outside_from whole columns k has out
  ];
}

pub free_more : (whole columns free next : Attributes) (c : ℕ) → whole c ≡ true → next ≡ union free (only c) → AreFree whole columns free c → AreFree whole columns next (c + 1)
free_more whole columns free next c has is before = record {
  within = λ k m. elim (with_cases free c k (sym (same_at is k) ∙ m)) [
    | inl old ↦ before.within k old
    | inr same ↦ ap whole same ∙ has
  ];
  upto = λ k in_whole low. same_at is k ∙ elim (cases_eq k c) [
    | inl same ↦ or_right (free k) (only c k) (eq-eqb k c same)
    | inr other ↦ with_old free c k (before.upto k in_whole (λ col. let less = low col in omega (arith, less, other)))
  ];
}

pub free_same : (whole columns free : Attributes) (c : ℕ) → columns c ≡ false → AreFree whole columns free c → AreFree whole columns free (c + 1)
free_same whole columns free c out before = record {
  within = before.within;
  upto = λ k in_whole low. before.upto k in_whole (λ col. let less = low col in elim (cases_eq k c) [
    | inl same ↦ absurd (true≢false (sym col ∙ ap columns same ∙ out))
    | inr other ↦ omega (arith, less, other)
  ]);
}

-- branches in which each candidate above a branch is found whose members among the columns are below a bound
pub record AreAboveUpTo (n most a : ℕ) (es : List Attributes) (branch : Branch) (columns : Attributes) (bound : ℕ) (above : List Branch) : Type 0 where
  pub each : All (IsBranch n most a es) above
  pub all : (x : Attributes) → IsAbove n most a es x branch → (v : ℕ) → x v ≡ true → columns v ≡ true
      → ((k : ℕ) → x k ≡ true → columns k ≡ true → k < bound) → Any (IsAbove n most a es x) above

pub above_first : (n most a : ℕ) (es : List Attributes) (branch : Branch) (columns : Attributes) → AreAboveUpTo n most a es branch columns 0 []
above_first n most a es branch columns = record {
  each = All-nil (IsBranch n most a es);
  all = λ x is v m col low. let less = low v m col in absurd (omega (arith, less));
}

-- a member that is not the bound is below it
less_than : (x : Attributes) (c k : ℕ) → x c ≡ false → x k ≡ true → k < c + 1 → k < c
less_than x c k out m less = elim (cases_eq k c) [
  | inl same ↦ absurd (true≢false (sym m ∙ ap x same ∙ out))
  | inr other ↦ omega (arith, less, other)
]

module _ (n most a : ℕ) (es : List Attributes) (branch : Branch) (b : IsBranch n most a es branch) (columns : Attributes) (c : ℕ) (above : List Branch)
    (before : AreAboveUpTo n most a es branch columns c above) where
  pub above_past : columns c ≡ false → AreAboveUpTo n most a es branch columns (c + 1) above
  above_past out = record {
    each = before.each;
    all = λ x is v m col low. before.all x is v m col (λ k in_x col_k. less_than columns c k out col_k (low k in_x col_k));
  }

  above_child : (free : Attributes) (child : Branch) → AreFree (attributes branch.free) columns free c → IsChild branch c free child → IsBranch n most a es child
      → AreAboveUpTo n most a es branch columns (c + 1) (above ++ child ∷ [])
  above_child free child are is child_is = record {
    each = All-push (IsBranch n most a es) above child before.each child_is;
    all = λ x is_x v m col low. elim (cases_Bool (x c)) [
      | inl has ↦ Any-push (IsAbove n most a es x) above child (record {
        candidate = is_x.candidate;
        from = λ k in_child. elim (with_cases (attributes branch.set) c k (sym (same_at is.set k) ∙ in_child)) [
          | inl in_set ↦ is_x.from k in_set
          | inr same ↦ ap x same ∙ has
        ];
        to = λ k in_x. elim (or_cases (attributes branch.set k) (attributes branch.free k) (is_x.to k in_x)) [
          | inl in_set ↦ or_left (attributes child.set k) (attributes child.free k) (same_at is.set k ∙ with_old (attributes branch.set) c k in_set)
          | inr is_free ↦ elim (cases_eq k c) [
            | inl same ↦ or_left (attributes child.set k) (attributes child.free k) (same_at is.set k ∙ or_right (attributes branch.set k) (only c k) (eq-eqb k c same))
            | inr other ↦ or_right (attributes child.set k) (attributes child.free k)
                (same_at is.frees k ∙ are.upto k is_free (λ col_k. let less = low k in_x col_k in omega (arith, less, other)))
          ]
        ];
      })
      | inr out ↦ Any-left (IsAbove n most a es x) above child (before.all x is_x v m col (λ k in_x col_k. less_than x c k out in_x (low k in_x col_k)))
    ];
  }

  pub above_skip : ((x : Attributes) → IsCandidate n most es a x → IsSubset (attributes branch.set) x → x c ≡ true → ⊥) → AreAboveUpTo n most a es branch columns (c + 1) above
  above_skip none = record {
    each = before.each;
    all = λ x is_x v m col low. elim (cases_Bool (x c)) [
      | inl has ↦ absurd (none x is_x.candidate is_x.from has)
      | inr out ↦ before.all x is_x v m col (λ k in_x col_k. less_than x c k out in_x (low k in_x col_k))
    ];
  }

-- the branch that is made is one
child_made : (n most a : ℕ) (es : List Attributes) (branch child : Branch) (c : ℕ) (free : Attributes) → IsChild branch c free child
    → IsBranchWith n most a es (union (attributes branch.set) (only c)) free child.left (schemes_of (filter (has_column c) branch.held.items))
    (schemes_of (filter (has_column c) branch.once.items ++ filter (lacks_column c) branch.held.items))
    → IsBranch n most a es child
child_made n most a es branch child c free is made =
    subst (λ (set : Attributes). IsBranchWith n most a es set (attributes child.free) child.left (schemes_of child.held.items) (schemes_of child.once.items)) (sym is.set)
    (subst (λ (later : Attributes). IsBranchWith n most a es (union (attributes branch.set) (only c)) later child.left (schemes_of child.held.items) (schemes_of child.once.items)) (sym is.frees)
    (subst (λ (sets : List AttrSet). IsBranchWith n most a es (union (attributes branch.set) (only c)) free child.left (schemes_of sets) (schemes_of child.once.items)) (sym is.held)
    (subst (λ (sets : List AttrSet). IsBranchWith n most a es (union (attributes branch.set) (only c)) free child.left (schemes_of (filter (has_column c) branch.held.items)) (schemes_of sets)) (sym is.once)
    made)))

module _ (n most a : ℕ) (es : List Attributes) (branch : Branch) (b : IsBranch n most a es branch) (by : AttrSet) (by_in : Contains branch.held.items by)
    (columns : Attributes) (columns_are : columns ≡ difference (attributes branch.free) (attributes by)) where
  by_at : Contains (schemes_of branch.held.items) (attributes by)
  by_at = Contains-map attributes branch.held.items by by_in

  -- a column that is tried is free, and the evidence lacks it
  pub column_parts : (k : ℕ) → columns k ≡ true → (attributes branch.free k ≡ true) × (attributes by k ≡ false)
  column_parts k col = outside_to (attributes branch.free) (attributes by) k (sym (same_at columns_are k) ∙ col)

  pub above_tried : (c : ℕ) (free : Attributes) (above next : List Branch) → columns c ≡ true → AreFree (attributes branch.free) columns free c
      → AreAboveUpTo n most a es branch columns c above → AddsChild branch c free above next → AreAboveUpTo n most a es branch columns (c + 1) next
  above_tried c free above next col are before adds = elim adds [
    | inl made ↦
        let parts = column_parts c col in
        let low : c < n = ltb-true c n (b.free_within c parts.0) in
        let child : Branch = made.1.0 in
        let is : IsChild branch c free child = made.1.1 in
        let one : child.left + 1 ≡ branch.left = is.left in
        let child_is : IsBranch n most a es child = child_made n most a es branch child c free is
        (child_with n most a es (attributes branch.set) (attributes branch.free) branch.left branch.held.items branch.once.items b (attributes by) by_at c parts.1
        low (λ same. true≢false (sym parts.0 ∙ ap (attributes branch.free) (sym same) ∙ b.free_without)) made.0 free
        (λ k m. b.free_within k (are.within k m)) (without free are) child.left one) in
        subst (λ (bs : List Branch). AreAboveUpTo n most a es branch columns (c + 1) bs) (sym made.1.2)
        (above_child n most a es branch b columns c above before free child are is child_is)
    | inr none ↦
        let parts = column_parts c col in
        subst (λ (bs : List Branch). AreAboveUpTo n most a es branch columns (c + 1) bs) (sym none.1)
        (above_skip n most a es branch b columns c above before
        (none_with n most a es (attributes branch.set) (attributes branch.free) branch.left branch.held.items branch.once.items b (attributes by) by_at c parts.1 none.0))
  ]
    where
      without : (later : Attributes) → AreFree (attributes branch.free) columns later c → later a ≡ false
      without later free_are = elim (cases_Bool (later a)) [
        | inl has ↦ absurd (true≢false (sym (free_are.within a has) ∙ b.free_without))
        | inr out ↦ out
      ]

  -- each candidate above has one of the columns
  outside : (x : Attributes) → IsAbove n most a es x branch → (k : ℕ) × (k < n) × (x k ≡ true) × (attributes by k ≡ false) × (attributes branch.free k ≡ true)
  outside x is = elim (tell_subset n x (attributes by) is.candidate.within) [
    | inl (k, low, m, lacks) ↦ (
      k,
      low,
      m,
      lacks,
      elim (or_cases (attributes branch.set k) (attributes branch.free k) (is.to k m)) [
        | inl in_set ↦ absurd (true≢false (sym ((b.holding.each (attributes by) by_at).1 k in_set) ∙ lacks))
        | inr is_free ↦ is_free
      ],
    )
    | inr inside ↦
        let listed = (b.holding.each (attributes by) by_at).0 in
        absurd (is.candidate.minimal.stands (attributes by) listed (b.without (attributes by) listed) inside)
  ]

  pub above_all : (bound : ℕ) (above : List Branch) → n ≤ bound → AreAboveUpTo n most a es branch columns bound above → AreAbove n most a es branch above
  above_all bound above long before = record {
    each = before.each;
    all = λ x is.
        let found = outside x is in
        before.all x is found.0 found.2 (same_at columns_are found.0 ∙ outside_from (attributes branch.free) (attributes by) found.0 found.4 found.3)
        (λ k in_x col. let low = ltb-true k n (is.candidate.within k in_x) in omega (arith, low, long));
  }

  -- where no column may be taken on, there is no candidate above
  pub none_left : branch.left ≡ 0 → AreAbove n most a es branch []
  none_left none = record {
    each = All-nil (IsBranch n most a es);
    all = λ x is. absurd (over x is);
  }
    where
      over : (x : Attributes) → IsAbove n most a es x branch → ⊥
      over x is =
          let found = outside x is in
          let k : ℕ = found.0 in
          let lacks : attributes branch.set k ≡ false = elim (cases_Bool (attributes branch.set k)) [
            | inl has ↦ absurd (true≢false (sym ((b.holding.each (attributes by) by_at).1 k has) ∙ found.3))
            | inr out ↦ out
          ] in
          let more = count_below-lt n (attributes branch.set) x k is.from found.1 lacks found.2 in
          let few = is.candidate.within_limit in
          let room = b.room in
          omega (arith, more, few, room, none)
