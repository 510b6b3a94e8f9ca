-- What is found branch by branch, in order, and what the largest evidence tells.
use Rattle.std.proofs.Common.{inl, inr, ◌≡◌, ◌+◌, ◌<◌, ◌≤◌, ◌⊎◌, ◌==◌, ℕ, suc, Bool, true, false, List, [], ◌∷◌, ◌++◌, length, get_or, Option, None, Some, Result, Ok, Err, Vec, Global, Ordering, Less, refl, sym, ap, subst, ◌∙◌, arith}
use Rattle.std.specs.Prelude.{All, AllPairs, Contains, IfOk, IfSome}
use Rattle.std.specs.List.{dedup}
use Rattle.std.specs.Cmp.{IsEquivalence, IsTotalOrder}
use Rattle.std.specs.List.Sorted.{IsPermutation, IsSorted, IsStrictlySortedBy}
use Rattle.std.specs.Ordering.{eq_by_cmp, nat_cmp}
use Rattle.std.proofs.lemmas.Bool.{cases_Bool, cases_lt, cases_order, eqb-true, true≢false}
use Rattle.std.proofs.lemmas.Bool.Decides.{nat_tests}
use Rattle.std.proofs.lemmas.Cmp.{nat_cmp_total, nat_eq_equiv, on_equiv, on_total}
use Rattle.std.proofs.lemmas.List.{map-append}
use Rattle.std.proofs.lemmas.List.Elements.{All-contains, All-from_recursion, Contains-append_cases, Contains-append_left, Contains-append_right}
use Rattle.std.proofs.lemmas.List.Kept.{AllPairs-cons, Any-dedup, Contains-from_dedup, IsStrictlySortedBy-dedup}
use Rattle.std.proofs.lemmas.List.Sorted.{Contains-permutation, IsPermutation-sym}
use Rattle.attr_sets.specs.Attributes.{Attributes, IsBefore, below, difference, none, only}
use Rattle.attr_sets.specs.Sets.{attributes}
use Rattle.attr_sets.specs.declared.set.AttrSet.{AttrSet}
use Rattle.attr_sets.proofs.AttributesLemmas.{attributes-at_number, count_below-none, same_at, same_from_within}
use Rattle.attr_sets.proofs.OrderLemmas.{before_from_lt}
use Rattle.dep_model.specs.Plans.{schemes_of}
use Rattle.dep_model.proofs.ListLemmas.{All-members, Contains-cases, Contains-head, Contains-map, Contains-nil, map-member, same_default}
use Rattle.dep_model.proofs.PairLemmas.{no_pairs, pairs_map}
use Rattle.candidate_sets.specs.Standing.{AreCandidates, IsCandidate, Stands}
use Rattle.candidate_branches.specs.declared.branch.Branch.{Branch}
use Rattle.candidate_branches.specs.Branches.{HasNumber, AreHolding, AreLackingOne, IsBranch, IsAbove, AreAbove, AddsAbove, AreAllAbove}
use Rattle.candidate_branches.specs.Largest.{AreLargest}
use Rattle.candidate_branches.proofs.BranchLemmas.{or_right, outside_from, outside_to, rest_from}

pub no_elements : {X : Type 0} (xs : List X) → length xs ≡ 0 → xs ≡ []
no_elements [] h = refl
no_elements (x ∷ xs) h = absurd (omega (arith, h))

-- ---- a branch that no evidence holds
module _ (n most a : ℕ) (es : List Attributes) (branch : Branch) (b : IsBranch n most a es branch) (empty : branch.held.items ≡ []) where
  set_stands : Stands es a (attributes branch.set)
  set_stands e listed lacks inside =
      Contains-nil e (subst (λ (sets : List AttrSet). Contains (schemes_of sets) e) empty (b.holding.all e listed inside))

  set_candidate : IsCandidate n most es a (attributes branch.set)
  set_candidate = record {
    within = b.set_within;
    outside = b.set_without;
    within_limit = let room = b.room in omega (arith, room);
    minimal = record {
      stands = set_stands;
      minimal = λ v inside v_stands k in_set. elim (cases_Bool (v k)) [
        | inl has ↦ has
        | inr out ↦
            let found = b.needed k in_set in
            absurd (v_stands found.0 found.1 (b.without found.0 found.1)
            (λ j m. found.2.rest j (rest_from (attributes branch.set) k j (inside j m) (λ same. true≢false (sym m ∙ ap v same ∙ out)))))
      ];
    };
  }

  pub one_added : (old new : List AttrSet) → new ≡ old ++ branch.set ∷ [] → AddsAbove n most a es branch (schemes_of old) (schemes_of new)
  one_added old new is = subst (λ (sets : List AttrSet). AddsAbove n most a es branch (schemes_of old) (schemes_of sets)) (sym is)
      (subst (λ (xs : List Attributes). AddsAbove n most a es branch (schemes_of old) xs) (sym (map-append attributes old (branch.set ∷ []))) (record {
        each = λ x h. elim (Contains-append_cases (schemes_of old) (attributes branch.set ∷ []) x h) [
          | inl before ↦ inl before
          | inr last ↦ elim (Contains-cases (attributes branch.set) [] x last) [
            | inl same ↦ inr (subst (λ (y : Attributes). IsCandidate n most es a y) (sym same) set_candidate)
            | inr never ↦ absurd (Contains-nil x never)
          ]
        ];
        kept = λ x h. Contains-append_left (schemes_of old) (attributes branch.set ∷ []) x h;
        all = λ x is_x. subst (λ (y : Attributes). Contains (schemes_of old ++ attributes branch.set ∷ []) y)
            (same_from_within (attributes branch.set) x is_x.from (is_x.candidate.minimal.minimal (attributes branch.set) is_x.from set_stands))
            (Contains-append_right (schemes_of old) (attributes branch.set ∷ []) (attributes branch.set) (Contains-head (attributes branch.set) []));
      }))

-- ---- branch by branch
-- the candidates above the first branches of a list are found
pub record AddsUpTo (n most a : ℕ) (es : List Attributes) (above : List Branch) (bound : ℕ) (old new : List Attributes) : Type 0 where
  pub each : (x : Attributes) → Contains new x → Contains old x ⊎ IsCandidate n most es a x
  pub kept : (x : Attributes) → Contains old x → Contains new x
  pub all : (j : ℕ) (d : Branch) → j < bound → (x : Attributes) → IsAbove n most a es x (get_or above j d) → Contains new x

pub adds_first : (n most a : ℕ) (es : List Attributes) (above : List Branch) (old : List Attributes) → AddsUpTo n most a es above 0 old old
adds_first n most a es above old = record {
  each = λ x h. inl h;
  kept = λ x h. h;
  all = λ j d less x is. absurd (omega (arith, less));
}

pub adds_more : (n most a : ℕ) (es : List Attributes) (above : List Branch) (i : ℕ) (branch : Branch) (old new later : List Attributes) → i < length above
    → branch ≡ get_or above i branch → AddsUpTo n most a es above i old new → AddsAbove n most a es branch new later → AddsUpTo n most a es above (i + 1) old later
adds_more n most a es above i branch old new later low is before adds = record {
  each = λ x h. elim (adds.each x h) [
    | inl had ↦ before.each x had
    | inr candidate ↦ inr candidate
  ];
  kept = λ x h. adds.kept x (before.kept x h);
  all = λ j d less x is_x. elim (cases_lt j i) [
    | inl lt ↦ adds.kept x (before.all j d lt x is_x)
    | inr ge ↦
        let here : j ≡ i = omega (arith, less, ge) in
        adds.all x (subst (λ (b : Branch). IsAbove n most a es x b) (same_default above i d branch low ∙ sym is)
        (subst (λ (k : ℕ). IsAbove n most a es x (get_or above k d)) here is_x))
  ];
}

pub adds_all : (n most a : ℕ) (es : List Attributes) (branch : Branch) (above : List Branch) (bound : ℕ) (old new : List Attributes) → length above ≤ bound
    → AreAbove n most a es branch above → AddsUpTo n most a es above bound old new → AddsAbove n most a es branch old new
adds_all n most a es branch above bound old new long are before = record {
  each = before.each;
  kept = before.kept;
  all = λ x is.
      let (i, b, low, at, is_b) = are.all x is in
      before.all i b (omega (arith, low, long)) x (subst (λ (c : Branch). IsAbove n most a es x c) (sym at) is_b);
}

-- ---- in order
abbrev pub by_number : AttrSet → AttrSet → Ordering
by_number s t = nat_cmp s.0 t.0

abbrev pub same_number : AttrSet → AttrSet → Bool
same_number s t = s.0 == t.0

ties : (s t : AttrSet) → same_number s t ≡ eq_by_cmp by_number s t
ties s t = elim (cases_order s.0 t.0) [
  | inl same ↦ grind (arith, nat_tests, same)
  | inr (inl less) ↦ grind (arith, nat_tests, less)
  | inr (inr more) ↦ grind (arith, nat_tests, more)
]

less_number : (i j : ℕ) → nat_cmp i j ≡ Less → i < j
less_number i j h = elim (cases_order i j) [
  | inl same ↦ absurd (apart same)
  | inr (inl less) ↦ less
  | inr (inr more) ↦ absurd (over more)
]
  where
    apart : i ≡ j → ⊥
    apart same = grind (arith, nat_tests, same, h)

    over : j < i → ⊥
    over more = grind (arith, nat_tests, more, h)

ascend : (ys : List AttrSet) → All HasNumber ys → IsStrictlySortedBy by_number ys → AllPairs (λ (s t : AttrSet). IsBefore (attributes s) (attributes t)) ys
unfolding IsStrictlySortedBy
ascend [] numbers h = no_pairs (λ (s t : AttrSet). IsBefore (attributes s) (attributes t))
ascend (y ∷ ys) numbers h =
    AllPairs-cons (λ (s t : AttrSet). IsBefore (attributes s) (attributes t)) y ys
    (λ i d l. before_from_lt y (get_or ys i d) (numbers (suc i) d (later_low i l))
    (less_number y.0 (get_or ys i d).0 (All-from_recursion (λ (z : AttrSet). by_number y z ≡ Less) ys h.0 i d l)))
    (ascend ys (λ i d l. numbers (suc i) d (later_low i l)) h.1)
  where
    later_low : (i : ℕ) → i < length ys → suc i < length (y ∷ ys)
    later_low i l = omega (arith, l)

pub all_in_order : (n most a : ℕ) (es : List Attributes) (branch : Branch) (found sorted once : List AttrSet) → IsPermutation found sorted → IsSorted by_number sorted
    → once ≡ dedup same_number sorted → All HasNumber found → AddsAbove n most a es branch [] (schemes_of found) → AreAllAbove n most a es branch (schemes_of once)
all_in_order n most a es branch found sorted once moved in_order is numbers adds = record {
  each = All-members (IsCandidate n most es a) (schemes_of once) each;
  all = all;
  ascending = pairs_map IsBefore attributes once (ascend once once_numbers (subst (IsStrictlySortedBy by_number) (sym is) (IsStrictlySortedBy-dedup total ties sorted in_order)));
}
  where
    total : IsTotalOrder by_number
    total = on_total (λ (s : AttrSet). s.0) nat_cmp_total

    equivalence : IsEquivalence same_number
    equivalence = on_equiv (λ (s : AttrSet). s.0) nat_eq_equiv

    in_found : (s : AttrSet) → Contains once s → Contains found s
    in_found s s_in = Contains-permutation sorted found s (IsPermutation-sym found sorted moved)
        (Contains-from_dedup same_number sorted s (subst (λ (sets : List AttrSet). Contains sets s) is s_in))

    once_numbers : All HasNumber once
    once_numbers = All-members HasNumber once (λ s s_in. All-contains HasNumber found s numbers (in_found s s_in))

    each : (x : Attributes) → Contains (schemes_of once) x → IsCandidate n most es a x
    each x has =
        let (s, s_in, at) = map-member attributes once x has in
        elim (adds.each x (subst (λ (y : Attributes). Contains (schemes_of found) y) at (Contains-map attributes found s (in_found s s_in)))) [
          | inl never ↦ absurd (Contains-nil x never)
          | inr candidate ↦ candidate
        ]

    all : (x : Attributes) → IsAbove n most a es x branch → Contains (schemes_of once) x
    all x is_x =
        let (s, s_in, at) = map-member attributes found x (adds.all x is_x) in
        let (i, t, low, t_at, same) = Any-dedup equivalence sorted s (Contains-permutation found sorted s moved s_in) in
        subst (λ (y : Attributes). Contains (schemes_of once) y) (attributes-at_number t s (sym (eqb-true s.0 t.0 same)) ∙ at)
        (Contains-map attributes once t (subst (λ (sets : List AttrSet). Contains sets t) (sym is) (i, low, t_at)))

-- ---- the largest evidence tells all
module _ (n most a : ℕ) (es largest : List Attributes) (are : AreLargest a es largest) where
  stands_to : (x : Attributes) → Stands largest a x → Stands es a x
  stands_to x stands e listed lacks inside =
      let held = are.all e listed lacks in
      let parts = All-contains (λ (f : Attributes). Contains es f × (f a ≡ false)) largest held.0 are.each held.1 in
      stands held.0 held.1 parts.1 (λ k m. held.2 k (inside k m))

  stands_from : (x : Attributes) → Stands es a x → Stands largest a x
  stands_from x stands e listed lacks inside =
      stands e (All-contains (λ (f : Attributes). Contains es f × (f a ≡ false)) largest e are.each listed).0 lacks inside

  candidate_to : (x : Attributes) → IsCandidate n most largest a x → IsCandidate n most es a x
  candidate_to x is = record {
    within = is.within;
    outside = is.outside;
    within_limit = is.within_limit;
    minimal = record {
      stands = stands_to x is.minimal.stands;
      minimal = λ v inside stands. is.minimal.minimal v inside (stands_from v stands);
    };
  }

  candidate_from : (x : Attributes) → IsCandidate n most es a x → IsCandidate n most largest a x
  candidate_from x is = record {
    within = is.within;
    outside = is.outside;
    within_limit = is.within_limit;
    minimal = record {
      stands = stands_from x is.minimal.stands;
      minimal = λ v inside stands. is.minimal.minimal v inside (stands_to v stands);
    };
  }

  -- the branch of the empty set
  pub root_branch : (root : Branch) → attributes root.set ≡ none → attributes root.free ≡ difference (below n) (only a) → root.left ≡ most
      → schemes_of root.held.items ≡ largest → root.once.items ≡ [] → IsBranch n most a largest root
  root_branch root set_is free_is left_is held_is once_is = record {
    without = λ e listed. (All-contains (λ (f : Attributes). Contains es f × (f a ≡ false)) largest e are.each listed).1;
    set_within = λ k m. absurd (no_member k m);
    set_without = same_at set_is a;
    free_within = λ k m. (outside_to (below n) (only a) k (sym (same_at free_is k) ∙ m)).0;
    free_without = elim (cases_Bool (attributes root.free a)) [
      | inl has ↦ absurd (not_itself (outside_to (below n) (only a) a (sym (same_at free_is a) ∙ has)).1)
      | inr out ↦ out
    ];
    room = let empty = count_below-none n (attributes root.set) (λ k l. same_at set_is k) in omega (arith, empty, left_is);
    holding = subst (λ (xs : List Attributes). AreHolding largest (attributes root.set) xs) (sym held_is) (record {
      each = λ e h. (h, λ k m. absurd (no_member k m));
      all = λ e h inside. h;
    });
    lacking = subst (λ (sets : List AttrSet). AreLackingOne largest (attributes root.set) (schemes_of sets)) (sym once_is) (record {
      each = λ e h. absurd (Contains-nil e h);
      all = λ e k h alone. absurd (no_member k alone.member);
    });
    needed = λ k m. absurd (no_member k m);
  }
    where
      no_member : (k : ℕ) → attributes root.set k ≡ true → ⊥
      no_member k m = true≢false (sym m ∙ same_at set_is k)

      not_itself : only a a ≡ false → ⊥
      not_itself h = grind (arith, nat_tests, h)

  pub root_candidates : (root : Branch) (xs : List Attributes) → attributes root.set ≡ none → attributes root.free ≡ difference (below n) (only a)
      → AreAllAbove n most a largest root xs → AreCandidates n most es a xs
  root_candidates root xs set_is free_is all_above = record {
    each = All-members (IsCandidate n most es a) xs (λ x h. candidate_to x (All-contains (IsCandidate n most largest a) xs x all_above.each h));
    all = λ x is. all_above.all x (record {
      candidate = candidate_from x is;
      from = λ k m. absurd (true≢false (sym m ∙ same_at set_is k));
      to = λ k m. or_right (attributes root.set k) (attributes root.free k) (same_at free_is k ∙ outside_from (below n) (only a) k (is.within k m) (other x is k m));
    });
    ascending = all_above.ascending;
  }
    where
      other : (x : Attributes) → IsCandidate n most es a x → (k : ℕ) → x k ≡ true → only a k ≡ false
      other x is k m = elim (cases_Bool (only a k)) [
        | inl same ↦ absurd (true≢false (sym m ∙ ap x (eqb-true k a same) ∙ is.outside))
        | inr out ↦ out
      ]

-- ---- what is told of a list that is given
pub listed_also : {E : Type 0} (P Q : List Attributes → Type 0) → ((xs : List Attributes) → P xs → Q xs) → (r : Result (Option (Vec AttrSet Global)) E)
    → IfOk r (λ (listed : Option (Vec AttrSet Global)). IfSome listed (λ (sets : Vec AttrSet Global). P (schemes_of sets.items)))
    → IfOk r (λ (listed : Option (Vec AttrSet Global)). IfSome listed (λ (sets : Vec AttrSet Global). Q (schemes_of sets.items)))
listed_also P Q also (Ok None) h = h
listed_also P Q also (Ok (Some sets)) h = also (schemes_of sets.items) h
listed_also P Q also (Err e) h = h
