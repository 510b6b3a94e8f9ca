-- The list of reduced dependencies, one block after the other and one left side after the other.
use Rattle.std.proofs.Common.{◌≡◌, ◌<◌, ◌≤◌, ◌⊎◌, ℕ, Bool, not, IsTrue, true, false, List, [], ◌∷◌, ◌++◌, length, get_or, Option, Some, None, refl, sym, ap, subst, ◌∙◌, inl, inr, ⊎_elim, ◌-◌, ◌^◌, arith}
use Rattle.std.specs.Prelude.{All, AllPairs, Contains, IfSome, ◌↔◌}
use Rattle.std.proofs.lemmas.Bool.{cases_Bool, cases_lt, true≢false}
use Rattle.std.proofs.lemmas.Bool.Decides.{nat_tests}
use Rattle.std.proofs.lemmas.List.Elements.{All-nil, All-push, All-weaker, Contains-append_left, Contains-append_right}
use Rattle.std.proofs.lemmas.List.Quantifiers.{all_pairs_push}
use Rattle.attr_sets.specs.Attributes.{Attributes, Disjoint, IsBefore, IsEmpty, IsFirstFrom, IsNextSubset, IsSubset, below, difference, union}
use Rattle.attr_sets.specs.Sets.{attributes}
use Rattle.attr_sets.specs.declared.set.AttrSet.{AttrSet}
use Rattle.attr_sets.specs.declared.set.TheConstants.{MOST_ATTRIBUTES}
use Rattle.attr_sets.proofs.AttributesLemmas.{same_at, same_from_within, tell_apart, tell_empty}
use Rattle.attr_sets.proofs.OrderLemmas.{IsBefore-trans, next_subset-before, none-first, tell_before, whole-last}
use Rattle.dep_model.specs.Dependencies.{Dependency, mvd, ObeysMvd}
use Rattle.dep_model.specs.Tuples.{Relation}
use Rattle.dep_model.proofs.ListLemmas.{Contains-head}
use Rattle.mvd_laws.specs.Reduced.{AreAllReduced, IsBlockOfRows, IsPartOfRows, IsReduced, IsReducedMvd, PrecedesByBlock}
use Rattle.mvd_laws.proofs.BlockLemmas.{one_block}
use Rattle.mvd_discovery.specs.Listing.{AreReducedBeside, AreReducedOf, IsAhead, IsReducedThat, IsUpTo}

weaker : (n : ℕ) (r : Relation) (K L : Attributes → Attributes → Type 0) → ((x y : Attributes) → K x y → L x y) → (d : Dependency)
    → IsReducedThat n r K d → IsReducedThat n r L d
weaker n r K L gives d (x, y, is, reduced, known) = (x, y, is, reduced, gives x y known)

-- all beyond a set is multidetermined by it
pub beyond_obeyed : (n : ℕ) (x y : Attributes) (r : Relation) → y ≡ difference (below n) x → ObeysMvd (below n) x y r
beyond_obeyed n x y r same = subst (λ (z : Attributes). ObeysMvd (below n) x z r) (sym same)
    (λ t u t_in u_in agree. (t, t_in, (λ k m. refl), (λ k m. absurd (nothing k m))))
  where
    nothing : (k : ℕ) → difference (below n) (union x (difference (below n) x)) k ≡ true → ⊥
    nothing k m = elim (cases_Bool (x k)) [
      | inl member ↦ true≢false (grind (arith, m, member))
      | inr out ↦ true≢false (grind (arith, m, out))
    ]

-- what holds where a test fails
pub negated : (h : Bool) (P Q : Type 0) → IsTrue h ↔ P → ((P → ⊥) → Q) → (Q → P → ⊥) → IsTrue (not h) ↔ Q
negated true P Q told to from = ((λ t. absurd (true≢false (sym t))), (λ q. absurd (from q (told.0 refl))))
negated false P Q told to from = ((λ t. to (λ p. true≢false (sym (told.1 p)))), (λ q. refl))

pub nothing_beyond : (n : ℕ) (w : Attributes) → IsSubset (below n) w ↔ IsEmpty (difference (below n) w)
nothing_beyond n w = (to, from)
  where
    to : IsSubset (below n) w → IsEmpty (difference (below n) w)
    to inside k = elim (cases_Bool (below n k)) [
      | inl low ↦ grind (arith, low, inside k low)
      | inr over ↦ grind (arith, over)
    ]

    from : IsEmpty (difference (below n) w) → IsSubset (below n) w
    from empty k low = elim (cases_Bool (w k)) [
      | inl member ↦ member
      | inr out ↦ absurd (true≢false (sym (there low out) ∙ empty k))
    ]
      where
        there : below n k ≡ true → w k ≡ false → difference (below n) w k ≡ true
        there low out = grind (arith, low, out)

-- ---- the blocks of one left side
-- of a left side all blocks are still to come
pub beside_start : (n : ℕ) (r : Relation) (left blocks : Attributes) (ds : List Dependency) → blocks ≡ difference (below n) left
    → AreReducedOf n r (λ x. IsBefore x left) ds → AreReducedBeside n r left blocks ds
beside_start n r left blocks ds is before = record {
  each = All-weaker (IsReducedThat n r (λ x y. IsBefore x left)) (IsReducedThat n r (λ x y. IsBefore x left ⊎ ((x ≡ left) × IsAhead y blocks)))
      (λ d. weaker n r (λ x y. IsBefore x left) (λ x y. IsBefore x left ⊎ ((x ≡ left) × IsAhead y blocks)) (λ x y h. inl h) d) ds before.each;
  all = λ x y reduced known. elim known [
    | inl earlier ↦ before.all x y reduced earlier
    | inr here ↦ absurd (reduced.block.part.not_empty (empty x y here.0 here.1 reduced.block.part))
  ];
  ascending = before.ascending;
}
  where
    empty : (x y : Attributes) → x ≡ left → Disjoint y blocks → IsPartOfRows n r x y → IsEmpty y
    empty x y same apart part k = elim (cases_Bool (y k)) [
      | inr out ↦ out
      | inl member ↦ absurd (true≢false (sym (there (part.within k member) (sym (same_at same k) ∙ part.outside k member)) ∙ sym (same_at is k) ∙ apart k member))
    ]
      where
        there : below n k ≡ true → left k ≡ false → difference (below n) left k ≡ true
        there low out = grind (arith, low, out)

module _ (n : ℕ) (r : Relation) (left blocks : Attributes) (first : ℕ) (block new : Attributes) (ds : List Dependency)
    (begins : IsFirstFrom blocks 0 first) (inside : IsSubset block blocks) (member : block first ≡ true) (is_block : IsBlockOfRows n r left block)
    (is : new ≡ difference blocks block) (old : AreReducedBeside n r left blocks ds) where
  abbrev Now : Attributes → Attributes → Type 0
  Now x y = IsBefore x left ⊎ ((x ≡ left) × IsAhead y new)

  abbrev Then : Attributes → Attributes → Type 0
  Then x y = IsBefore x left ⊎ ((x ≡ left) × IsAhead y blocks)

  in_new : (k : ℕ) → new k ≡ true → (blocks k ≡ true) × (block k ≡ false)
  in_new k m = from k (sym (same_at is k) ∙ m)
    where
      from : (k : ℕ) → difference blocks block k ≡ true → (blocks k ≡ true) × (block k ≡ false)
      from k h = (grind (arith, h), grind (arith, h))

  still : (d : Dependency) → IsReducedThat n r Then d → IsReducedThat n r Now d
  still d = weaker n r Then Now (λ x y h. elim h [
    | inl before ↦ inl before
    | inr here ↦ inr (here.0, (here.1.0, here.1.1, λ k m. here.1.2 k (in_new k m).0))
  ]) d

  begins_block : IsFirstFrom block 0 first
  begins_block = record {
    from_on = omega arith;
    member = member;
    least = λ k on less. elim (cases_Bool (block k)) [
      | inl m ↦ absurd (true≢false (sym (inside k m) ∙ begins.least k on less))
      | inr out ↦ out
    ];
  }

  ahead : IsAhead block new
  ahead = (first, begins_block, λ k m. later k (in_new k m).0 (in_new k m).1)
    where
      later : (k : ℕ) → blocks k ≡ true → block k ≡ false → first < k
      later k in_blocks out = elim (cases_lt_or k) [
        | inl more ↦ more
        | inr less ↦ elim (cases_lt_or' k less) [
          | inl before ↦ absurd (true≢false (sym in_blocks ∙ begins.least k (omega arith) before))
          | inr same ↦ absurd (true≢false (sym member ∙ ap block (sym same) ∙ out))
        ]
      ]
        where
          cases_lt_or : (k : ℕ) → (first < k) ⊎ (k ≤ first)
          cases_lt_or k = elim (cases_lt first k) [ inl h ↦ inl h | inr h ↦ inr (omega (arith, h)) ]

          cases_lt_or' : (k : ℕ) → k ≤ first → (k < first) ⊎ (k ≡ first)
          cases_lt_or' k less = elim (cases_lt k first) [ inl h ↦ inl h | inr h ↦ inr (omega (arith, h, less)) ]

  -- a reduced dependency of the left side, by whether its block is the one at hand
  treated : (x y : Attributes) → IsReduced n r x y → x ≡ left → Disjoint y new → (y ≡ block) ⊎ Disjoint y blocks
  treated x y reduced same apart =
      let mine : IsBlockOfRows n r left y = subst (λ (z : Attributes). IsBlockOfRows n r z y) same reduced.block in
      elim (tell_apart n y block reduced.block.part.within) [
        | inl meet ↦ inl (same_from_within y block (one_block n r left y block meet.0 mine is_block meet.1 meet.2)
            (one_block n r left block y meet.0 is_block mine meet.2 meet.1))
        | inr beside ↦ inr (λ k m. elim (cases_Bool (blocks k)) [
          | inr out ↦ out
          | inl has ↦ absurd (true≢false (sym (there k has (beside k m)) ∙ sym (same_at is k) ∙ apart k m))
        ])
      ]
    where
      there : (k : ℕ) → blocks k ≡ true → block k ≡ false → difference blocks block k ≡ true
      there k has out = grind (arith, has, out)

  -- one that is not reduced is passed over
  pub beside_passed : (IsReduced n r left block → ⊥) → AreReducedBeside n r left new ds
  beside_passed not = record {
    each = All-weaker (IsReducedThat n r Then) (IsReducedThat n r Now) still ds old.each;
    all = λ x y reduced known. elim known [
      | inl before ↦ old.all x y reduced (inl before)
      | inr here ↦ elim (treated x y reduced here.0 here.1) [
        | inl same ↦ absurd (not (subst (λ (z : Attributes). IsReduced n r z block) here.0 (subst (λ (z : Attributes). IsReduced n r x z) same reduced)))
        | inr apart ↦ old.all x y reduced (inr (here.0, apart))
      ]
    ];
    ascending = old.ascending;
  }

  precedes : (d : Dependency) → IsReducedThat n r Then d → PrecedesByBlock d (mvd left block)
  precedes d (x, y, at, reduced, known) = subst (λ (e : Dependency). PrecedesByBlock e (mvd left block)) (sym at) (elim known [
    | inl before ↦ inl before
    | inr here ↦ inr (here.0, (here.1.0, first, here.1.1, begins_block, here.1.2 first begins.member))
  ])

  pub beside_pushed : IsReduced n r left block → AreReducedBeside n r left new (ds ++ mvd left block ∷ [])
  beside_pushed reduced_block = record {
    each = All-push (IsReducedThat n r Now) ds (mvd left block) (All-weaker (IsReducedThat n r Then) (IsReducedThat n r Now) still ds old.each)
        (left, block, refl, reduced_block, inr (refl, ahead));
    all = λ x y reduced known. elim known [
      | inl before ↦ Contains-append_left ds (mvd left block ∷ []) (mvd x y) (old.all x y reduced (inl before))
      | inr here ↦ elim (treated x y reduced here.0 here.1) [
        | inl same ↦ Contains-append_right ds (mvd left block ∷ []) (mvd x y)
            (subst (λ (d : Dependency). Contains (mvd left block ∷ []) d) (sym (ap (λ (z : Attributes). mvd z y) here.0 ∙ ap (mvd left) same)) (Contains-head (mvd left block) []))
        | inr apart ↦ Contains-append_left ds (mvd left block ∷ []) (mvd x y) (old.all x y reduced (inr (here.0, apart)))
      ]
    ];
    ascending = all_pairs_push PrecedesByBlock ds (mvd left block) old.ascending (λ k d l. precedes (get_or ds k d) (old.each k d l));
  }

-- no block is left
pub beside_end : (n : ℕ) (r : Relation) (left blocks : Attributes) (ds : List Dependency) → IsEmpty blocks → AreReducedBeside n r left blocks ds
    → AreReducedOf n r (λ x. IsUpTo x left) ds
beside_end n r left blocks ds empty beside = record {
  each = All-weaker (IsReducedThat n r (λ x y. IsBefore x left ⊎ ((x ≡ left) × IsAhead y blocks))) (IsReducedThat n r (λ x y. IsUpTo x left))
      (λ d. weaker n r (λ x y. IsBefore x left ⊎ ((x ≡ left) × IsAhead y blocks)) (λ x y. IsUpTo x left)
      (λ x y h. elim h [ inl before ↦ inl before | inr here ↦ inr here.0 ]) d) ds beside.each;
  all = λ x y reduced known. beside.all x y reduced (elim known [ inl before ↦ inl before | inr same ↦ inr (same, (λ k m. empty k)) ]);
  ascending = beside.ascending;
}

-- ---- one left side after the other
-- those before the next one were tried, or all
abbrev pub AreReducedSoFar : ℕ → Relation → Option AttrSet → List Dependency → Type 0
AreReducedSoFar n r None ds = AreAllReduced n r ds
AreReducedSoFar n r (Some left) ds = AreReducedOf n r (λ x. IsBefore x (attributes left)) ds

-- how many sets may still come
abbrev pub sets_left : Option AttrSet → ℕ
sets_left None = 0
sets_left (Some left) = 2 ^ MOST_ATTRIBUTES - left.0

pub fewer_left : (left : AttrSet) (now next : Option AttrSet) → now ≡ Some left → left.0 < 2 ^ MOST_ATTRIBUTES → IfSome next (λ s. left.0 < s.0)
    → sets_left next < sets_left now
fewer_left left now next is fits more = subst (λ (o : Option AttrSet). sets_left next < sets_left o) (sym is) (by next more)
  where
    by : (next : Option AttrSet) → IfSome next (λ s. left.0 < s.0) → sets_left next < 2 ^ MOST_ATTRIBUTES - left.0
    by None more = omega (arith, fits)
    by (Some s) more = omega (arith, fits, more)

pub none_tried : (n : ℕ) (r : Relation) (left : Attributes) → ((x : Attributes) → IsBefore x left → ⊥) → AreReducedOf n r (λ x. IsBefore x left) []
none_tried n r left nothing = record {
  each = All-nil (IsReducedThat n r (λ x y. IsBefore x left));
  all = λ x y reduced before. absurd (nothing x before);
  ascending = λ i j d before l. absurd (omega (arith, l));
}

pub next_tried : (n : ℕ) (r : Relation) (left next : Attributes) (ds : List Dependency) → IsSubset left (below n) → IsNextSubset (below n) left next
    → AreReducedOf n r (λ x. IsUpTo x left) ds → AreReducedOf n r (λ x. IsBefore x next) ds
next_tried n r left next ds left_in is tried = record {
  each = All-weaker (IsReducedThat n r (λ x y. IsUpTo x left)) (IsReducedThat n r (λ x y. IsBefore x next))
      (λ d. weaker n r (λ x y. IsUpTo x left) (λ x y. IsBefore x next) (λ x y h. elim h [
        | inl before ↦ IsBefore-trans x left next before is.after
        | inr same ↦ subst (λ (z : Attributes). IsBefore z next) (sym same) is.after
      ]) d) ds tried.each;
  all = λ x y reduced before. tried.all x y reduced (elim (next_subset-before n (below n) left next x (λ k m. m) left_in is reduced.left before) [
    | inl same ↦ inr same
    | inr earlier ↦ inl earlier
  ]);
  ascending = tried.ascending;
}

pub all_tried : (n : ℕ) (r : Relation) (left : Attributes) (ds : List Dependency) → left ≡ below n → AreReducedOf n r (λ x. IsUpTo x left) ds
    → AreAllReduced n r ds
all_tried n r left ds same tried = record {
  each = All-weaker (IsReducedThat n r (λ x y. IsUpTo x left)) (IsReducedMvd n r) (λ d h. (h.0, h.1, h.2, h.3)) ds tried.each;
  all = λ x y reduced. tried.all x y reduced (up_to x reduced.left);
  ascending = tried.ascending;
}
  where
    up_to : (x : Attributes) → IsSubset x (below n) → IsUpTo x left
    up_to x x_in = elim (tell_before n x (below n) x_in (λ k m. m)) [
      | inl is ↦ inr (is ∙ sym same)
      | inr other ↦ elim other [
        | inl before ↦ inl (subst (IsBefore x) (sym same) before)
        | inr back ↦ absurd (whole-last (below n) x x_in back)
      ]
    ]

-- a left side after another
pub so_far_next : (n : ℕ) (r : Relation) (left : AttrSet) (next : Option AttrSet) (ds : List Dependency) → IsSubset (attributes left) (below n)
    → (next ≡ None → attributes left ≡ below n) → IfSome next (λ s. IsNextSubset (below n) (attributes left) (attributes s))
    → AreReducedOf n r (λ x. IsUpTo x (attributes left)) ds → AreReducedSoFar n r next ds
so_far_next n r left None ds left_in last is tried = all_tried n r (attributes left) ds (last refl) tried
so_far_next n r left (Some s) ds left_in last is tried = next_tried n r (attributes left) (attributes s) ds left_in is tried

pub within_next : (n : ℕ) (left : Attributes) (next : Option AttrSet) → IfSome next (λ s. IsNextSubset (below n) left (attributes s))
    → IfSome next (λ s. IsSubset (attributes s) (below n))
within_next n left None is = tt
within_next n left (Some s) is = is.within
