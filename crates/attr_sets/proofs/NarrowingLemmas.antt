-- A set that is narrowed by a test: the loop that does so; and that what is left passes, that it is minimal where the
-- test is monotone, and that it is the only one.
use Rattle.std.proofs.Common.{◌≡◌, ℕ, zero, suc, ◌+◌, ◌-◌, ◌^◌, ◌<◌, ◌≤◌, ◌↔◌, ◌==◌, ◌||◌, Bool, true, false, not, cond, refl, sym, ap, subst, ◌∙◌, inl, inr, arith}
use mathlib.Core.Path.{fun_ext}
use Rattle.std.specs.Prelude.{nat_lt, IsTrue}
use Rattle.std.proofs.lemmas.Bool.{cases_Bool, cases_eq, cases_lt, true≢false, ltb-true}
use Rattle.std.proofs.lemmas.Bool.Decides.{nat_tests}
use Rattle.attr_sets.specs.declared.narrowing.Direction.{Direction}
use Rattle.attr_sets.specs.declared.narrowing.Direction.TheVariants.{Ascending, Descending}
use Rattle.attr_sets.specs.declared.set.AttrSet.{AttrSet}
use Rattle.attr_sets.specs.declared.set.TheConstants.{MOST_ATTRIBUTES}
use Rattle.attr_sets.specs.Attributes.{Attributes, below, only, difference, IsSubset}
use Rattle.attr_sets.specs.Sets.{attributes}
use Rattle.attr_sets.specs.Narrowing.{is_tried_before, left_beside, IsNarrowed, IsNarrowedBy}
use Rattle.attr_sets.proofs.AttributesLemmas.{same_at}

-- ---- the order of the turns, of n attributes

-- attribute i is tried after m others
abbrev pub IsAt : Direction → ℕ → ℕ → ℕ → Type 0
IsAt Ascending n m i = i ≡ m
IsAt Descending n m i = i + m + 1 ≡ n

-- whether an attribute is one of the first m that are tried
abbrev pub is_tried : Direction → ℕ → ℕ → ℕ → Bool
is_tried Ascending n m k = nat_lt k m
is_tried Descending n m k = nat_lt n (k + m + 1)

at_turn : (d : Direction) (n m : ℕ) → m < n → (i : ℕ) × IsAt d n m i
at_turn Ascending n m l = (m, refl)
at_turn Descending n m l = (n - (m + 1), omega (arith, l))

tried_first : (d : Direction) (n k : ℕ) → k < n → is_tried d n 0 k ≡ false
tried_first Ascending n k l = grind (arith, nat_tests, l)
tried_first Descending n k l = grind (arith, nat_tests, l)

tried_last : (d : Direction) (n k : ℕ) → k < n → is_tried d n n k ≡ true
tried_last Ascending n k l = grind (arith, nat_tests, l)
tried_last Descending n k l = grind (arith, nat_tests, l)

tried_next : (d : Direction) (n m i k : ℕ) → IsAt d n m i → is_tried d n (m + 1) k ≡ (is_tried d n m k || (k == i))
tried_next Ascending n m i k at = grind (arith, nat_tests, at)
tried_next Descending n m i k at = grind (arith, nat_tests, at)

-- those that are tried before it are the first m
tried_before : (d : Direction) (n m i k : ℕ) → IsAt d n m i → is_tried_before d k i ≡ is_tried d n m k
tried_before Ascending n m i k at = grind (arith, nat_tests, at)
tried_before Descending n m i k at = grind (arith, nat_tests, at)

one_first : (d : Direction) (a b : ℕ) → is_tried_before d a b ≡ true → is_tried_before d b a ≡ false
one_first Ascending a b first = grind (arith, nat_tests, first)
one_first Descending a b first = grind (arith, nat_tests, first)

neither_itself : (d : Direction) (a : ℕ) → is_tried_before d a a ≡ false
neither_itself Ascending a = grind (arith, nat_tests)
neither_itself Descending a = grind (arith, nat_tests)

other_first : (d : Direction) (a b : ℕ) → (a ≡ b → ⊥) → is_tried_before d a b ≡ false → is_tried_before d b a ≡ true
other_first Ascending a b differ later = grind (arith, nat_tests, differ, later)
other_first Descending a b differ later = grind (arith, nat_tests, differ, later)

-- ---- what stands beside an attribute

-- it depends on those alone that are tried earlier
pub beside_same : (d : Direction) (start one other : Attributes) (a : ℕ)
    → ((k : ℕ) → is_tried_before d k a ≡ true → one k ≡ other k) → left_beside d start one a ≡ left_beside d start other a
beside_same d start one other a same = fun_ext (λ (k : ℕ). elim (cases_Bool (is_tried_before d k a)) [
  | inl earlier ↦ grind (arith, earlier, same k earlier)
  | inr later ↦ grind (arith, later)
])

-- when its turn comes, it is all that is left but the attribute
pub beside_at : (d : Direction) (start kept : Attributes) (i : ℕ)
    → ((k : ℕ) → is_tried_before d k i ≡ false → kept k ≡ start k) → difference kept (only i) ≡ left_beside d start kept i
beside_at d start kept i untried = fun_ext (λ (k : ℕ). elim (cases_eq k i) [
  | inl same ↦
      let itself : is_tried_before d k i ≡ false = ap (λ (j : ℕ). is_tried_before d k j) (sym same) ∙ neither_itself d k in
      let back : is_tried_before d i k ≡ false = ap (λ (j : ℕ). is_tried_before d j k) (sym same) ∙ neither_itself d k in
      grind (arith, nat_tests, same, itself, back)
  | inr differ ↦ elim (cases_Bool (is_tried_before d k i)) [
    | inl earlier ↦ grind (arith, nat_tests, differ, earlier)
    | inr later ↦ grind (arith, nat_tests, differ, later, untried k later, other_first d k i differ later)
  ]
])

-- ---- the loop

-- what is left of a set once m attributes were tried
pub record IsTriedTo (d : Direction) (Says : AttrSet → Bool → Type 0) (tried start : Attributes) (m : ℕ) (kept : Attributes)
    : Type 0 where
  pub within : IsSubset kept start
  pub untried : (k : ℕ) → is_tried d MOST_ATTRIBUTES m k ≡ false → kept k ≡ start k
  pub stay : (a : ℕ) → start a ≡ true → tried a ≡ false → kept a ≡ true
  pub left_out : (a : ℕ) → is_tried d MOST_ATTRIBUTES m a ≡ true → start a ≡ true → tried a ≡ true
      → (beside : AttrSet) × (beside.0 < 2 ^ MOST_ATTRIBUTES) × (attributes beside ≡ left_beside d start kept a)
      × Says beside (not (kept a))

module _ (d : Direction) (Says : AttrSet → Bool → Type 0) (tried start : Attributes) where
  pub tried_none : IsSubset start (below MOST_ATTRIBUTES) → IsTriedTo d Says tried start 0 start
  tried_none low = record {
    within = λ k m. m;
    untried = λ k later. refl;
    stay = λ a member not_tried. member;
    left_out = λ a earlier member was.
        absurd (true≢false (sym earlier ∙ tried_first d MOST_ATTRIBUTES a (ltb-true a MOST_ATTRIBUTES (low a member))));
  }

  pub tried_all : (kept : Attributes) → IsSubset start (below MOST_ATTRIBUTES) → IsTriedTo d Says tried start MOST_ATTRIBUTES kept
      → IsNarrowedBy d Says tried start kept
  tried_all kept low all = record {
    within = all.within;
    stay = all.stay;
    left_out = λ a member was.
        all.left_out a (tried_last d MOST_ATTRIBUTES a (ltb-true a MOST_ATTRIBUTES (low a member))) member was;
  }

  module _ (m i : ℕ) (kept : Attributes) (at : IsAt d MOST_ATTRIBUTES m i) (before : IsTriedTo d Says tried start m kept) where
    -- whoever was tried before stays tried, and no other but i
    still_untried : (k : ℕ) → is_tried d MOST_ATTRIBUTES (m + 1) k ≡ false → is_tried d MOST_ATTRIBUTES m k ≡ false
    still_untried k later = grind (arith, later, tried_next d MOST_ATTRIBUTES m i k at)

    was_tried : (k : ℕ) → (k ≡ i → ⊥) → is_tried d MOST_ATTRIBUTES (m + 1) k ≡ true → is_tried d MOST_ATTRIBUTES m k ≡ true
    was_tried k differ now = grind (arith, nat_tests, now, differ, tried_next d MOST_ATTRIBUTES m i k at)

    at_its_turn : difference kept (only i) ≡ left_beside d start kept i
    at_its_turn = beside_at d start kept i (λ k later. before.untried k (sym (tried_before d MOST_ATTRIBUTES m i k at) ∙ later))

    untried_yet : kept i ≡ start i
    untried_yet = before.untried i (sym (tried_before d MOST_ATTRIBUTES m i i at) ∙ neither_itself d i)

    -- it is not there, or is not to be tried
    pub tried_passed : (kept i ≡ true → tried i ≡ true → ⊥) → IsTriedTo d Says tried start (m + 1) kept
    tried_passed out = record {
      within = before.within;
      untried = λ k later. before.untried k (still_untried k later);
      stay = before.stay;
      left_out = λ a now member was. elim (cases_eq a i) [
        | inl same ↦ absurd (out (untried_yet ∙ sym (ap start same) ∙ member) (sym (ap tried same) ∙ was))
        | inr differ ↦ before.left_out a (was_tried a differ now) member was
      ];
    }

    module _ (rest : AttrSet) (fits : rest.0 < 2 ^ MOST_ATTRIBUTES) (is : attributes rest ≡ difference kept (only i)) where
      beside : attributes rest ≡ left_beside d start kept i
      beside = is ∙ at_its_turn

      -- the rest does not pass: it stays
      pub tried_kept : kept i ≡ true → Says rest false → IsTriedTo d Says tried start (m + 1) kept
      tried_kept member fails = record {
        within = before.within;
        untried = λ k later. before.untried k (still_untried k later);
        stay = before.stay;
        left_out = λ a now has was. elim (cases_eq a i) [
          | inl same ↦ (
            rest,
            fits,
            beside ∙ ap (λ (b : ℕ). left_beside d start kept b) (sym same),
            subst (Says rest) (ap not (sym (ap kept same ∙ member))) fails,
          )
          | inr differ ↦ before.left_out a (was_tried a differ now) has was
        ];
      }

      -- where i is left out, all else is the same
      same_but : (k : ℕ) → (k ≡ i → ⊥) → kept k ≡ attributes rest k
      same_but k differ = grind (arith, nat_tests, differ, same_at is k)

      -- the rest passes: it is left out
      pub tried_left_out : tried i ≡ true → Says rest true → IsTriedTo d Says tried start (m + 1) (attributes rest)
      tried_left_out is_tried passes = record {
        within = λ k has. before.within k (grind (arith, same_at is k, has));
        untried = λ k later.
            let other : k ≡ i → ⊥ = λ same. true≢false (grind (arith, nat_tests, later, same, tried_next d MOST_ATTRIBUTES m i k at)) in
            sym (same_but k other) ∙ before.untried k (still_untried k later);
        stay = λ a member not_tried. elim (cases_eq a i) [
          | inl same ↦ absurd (true≢false (sym is_tried ∙ sym (ap tried same) ∙ not_tried))
          | inr differ ↦ sym (same_but a differ) ∙ before.stay a member not_tried
        ];
        left_out = λ a now has was. elim (cases_eq a i) [
          | inl same ↦
              let gone : attributes rest a ≡ false = grind (arith, nat_tests, same, same_at is a) in (
                rest,
                fits,
                beside
                    ∙ beside_same d start kept (attributes rest) i (λ k earlier. same_but k (λ at_i. true≢false (sym earlier ∙ ap (λ (j : ℕ). is_tried_before d j i) at_i ∙ neither_itself d i)))
                    ∙ ap (λ (b : ℕ). left_beside d start (attributes rest) b) (sym same),
                subst (Says rest) (ap not (sym gone)) passes,
              )
          | inr differ ↦
              let earlier = was_tried a differ now in
              let first : is_tried_before d i a ≡ false = one_first d a i (tried_before d MOST_ATTRIBUTES m i a at ∙ earlier) in
              let old = before.left_out a earlier has was in (
                old.0,
                old.1,
                old.2 ∙ beside_same d start kept (attributes rest) a (λ k sooner. same_but k (λ at_i. true≢false (sym sooner ∙ ap (λ (j : ℕ). is_tried_before d j a) at_i ∙ first))),
                subst (Says old.0) (ap not (same_but a differ)) old.3,
              )
        ];
      }

-- ---- where the test of the code says what passes
pub narrowed-by : (d : Direction) (Says : AttrSet → Bool → Type 0) (Passes : Attributes → Type 0) (tried start kept : Attributes)
    → IsNarrowedBy d Says tried start kept
    → ((set : AttrSet) → set.0 < 2 ^ MOST_ATTRIBUTES → IsSubset (attributes set) start → (says : Bool) → Says set says → IsTrue says ↔ Passes (attributes set))
    → IsNarrowed d Passes tried start kept
narrowed-by d Says Passes tried start kept narrowed says_passes = record {
  within = narrowed.within;
  stay = narrowed.stay;
  left_out = λ a member was.
      let found = narrowed.left_out a member was in
      let inside : IsSubset (attributes found.0) start = λ k has. grind (arith, same_at found.2 k, has, narrowed.within k) in
      let says = says_passes found.0 found.1 inside (not (kept a)) found.3 in (
        (λ out. subst Passes found.2 (says.0 (ap not out))),
        (λ passes. grind (arith, says.1 (subst Passes (sym found.2) passes))),
      );
}

-- ---- what is left
same_by_false : (a b : Bool) → (a ≡ false → b ≡ false) → (b ≡ false → a ≡ false) → a ≡ b
same_by_false false b there back = sym (there refl)
same_by_false true false there back = back refl
same_by_false true true there back = refl

-- what is not below n is in no part of a set that lies there
outside : (n : ℕ) (start part : Attributes) → IsSubset start (below n) → IsSubset part start → (k : ℕ) → n ≤ k → part k ≡ false
outside n start part low inside k high = elim (cases_Bool (part k)) [
  | inl member ↦ let l : k < n = ltb-true k n (low k (inside k member)) in absurd (omega (arith, l, high))
  | inr out ↦ out
]

module _ (d : Direction) (Passes : Attributes → Type 0) (tried start kept : Attributes) (narrowed : IsNarrowed d Passes tried start kept) where
  -- what stands where m of n attributes have been tried
  abbrev upto : ℕ → ℕ → Attributes
  upto n m k = cond (is_tried d n m k) (kept k) (start k)

  module _ (n : ℕ) (low : IsSubset start (below n)) where
    upto_first : start ≡ upto n 0
    upto_first = fun_ext (λ (k : ℕ). elim (cases_lt k n) [
      | inl here ↦ let first = tried_first d n k here in grind (arith, first)
      | inr high ↦
          let one = outside n start start low (λ (j : ℕ) m. m) k high in
          let other = outside n start kept low narrowed.within k high in
          grind (arith, one, other)
    ])

    upto_last : upto n n ≡ kept
    upto_last = fun_ext (λ (k : ℕ). elim (cases_lt k n) [
      | inl here ↦ let last = tried_last d n k here in grind (arith, last)
      | inr high ↦
          let one = outside n start start low (λ (j : ℕ) m. m) k high in
          let other = outside n start kept low narrowed.within k high in
          grind (arith, one, other)
    ])

  module _ (n m i : ℕ) (at : IsAt d n m i) where
    -- nothing changes where what there is at its turn stays
    upto_stays : kept i ≡ start i → upto n m ≡ upto n (m + 1)
    upto_stays same = fun_ext (λ (k : ℕ).
        let next = tried_next d n m i k at in
        elim (cases_eq k i) [
          | inl here ↦ let e : kept k ≡ start k = ap kept here ∙ same ∙ sym (ap start here) in grind (arith, next, e)
          | inr differ ↦ grind (arith, nat_tests, next, differ)
        ])

    -- where it is left out, all is left that stands beside it
    upto_out : kept i ≡ false → left_beside d start kept i ≡ upto n (m + 1)
    upto_out out = fun_ext (λ (k : ℕ).
        let next = tried_next d n m i k at in
        let before = tried_before d n m i k at in
        elim (cases_eq k i) [
          | inl here ↦
              let e : kept k ≡ false = ap kept here ∙ out in
              let itself : is_tried_before d k i ≡ false = ap (λ (j : ℕ). is_tried_before d k j) (sym here) ∙ neither_itself d k in
              let back : is_tried_before d i k ≡ false = ap (λ (j : ℕ). is_tried_before d j k) (sym here) ∙ neither_itself d k in
              grind (arith, nat_tests, next, e, here, itself, back)
          | inr differ ↦ elim (cases_Bool (is_tried_before d k i)) [
            | inl earlier ↦ grind (arith, nat_tests, next, before, differ, earlier)
            | inr later ↦ grind (arith, nat_tests, next, before, differ, later, other_first d k i differ later)
          ]
        ])

  upto_passes : (n : ℕ) → IsSubset start (below n) → Passes start → (m : ℕ) → m ≤ n → Passes (upto n m)
  upto_passes n low passes zero few = subst Passes (upto_first n low) passes
  upto_passes n low passes (suc m) few =
      let before = upto_passes n low passes m (omega (arith, few)) in
      let turn = at_turn d n m (omega (arith, few)) in
      let i = turn.0 in
      let stays = λ (same : kept i ≡ start i). subst Passes (upto_stays n m i turn.1 same) before in
      let e : m + 1 ≡ suc m = omega arith in
      subst (λ (j : ℕ). Passes (upto n j)) e
      (elim (cases_Bool (kept i)) [
        | inl here ↦ stays (here ∙ sym (narrowed.within i here))
        | inr out ↦ elim (cases_Bool (start i)) [
          | inr never ↦ stays (out ∙ sym never)
          | inl member ↦ elim (cases_Bool (tried i)) [
            | inr not_tried ↦ absurd (true≢false (sym (narrowed.stay i member not_tried) ∙ out))
            | inl was ↦ subst Passes (upto_out n m i turn.1 out) ((narrowed.left_out i member was).0 out)
          ]
        ]
      ])

  -- it passes where the set does
  pub narrowed_passes : (n : ℕ) → IsSubset start (below n) → Passes start → Passes kept
  narrowed_passes n low passes = subst Passes (upto_last n low) (upto_passes n low passes n (omega arith))

  -- what passes and lies within it has each attribute of it that was tried, where a set passes that has a part which does
  pub narrowed_minimal : ((x y : Attributes) → IsSubset x y → IsSubset y start → Passes x → Passes y)
      → (part : Attributes) → IsSubset part kept → Passes part → (a : ℕ) → kept a ≡ true → tried a ≡ true → part a ≡ true
  narrowed_minimal monotone part inside passes a member was = elim (cases_Bool (part a)) [
    | inl there ↦ there
    | inr out ↦
        let beside : IsSubset part (left_beside d start kept a) = λ (k : ℕ) m. elim (cases_eq k a) [
          | inl same ↦ absurd (true≢false (sym m ∙ ap part same ∙ out))
          | inr differ ↦ elim (cases_Bool (is_tried_before d k a)) [
            | inl earlier ↦ grind (arith, earlier, inside k m)
            | inr later ↦ grind (arith, later, other_first d k a differ later, narrowed.within k (inside k m))
          ]
        ] in
        let within : IsSubset (left_beside d start kept a) start = λ (k : ℕ) m. elim (cases_Bool (is_tried_before d k a)) [
          | inl earlier ↦ narrowed.within k (grind (arith, earlier, m))
          | inr later ↦ grind (arith, later, m)
        ] in
        absurd (true≢false (sym member ∙ (narrowed.left_out a (narrowed.within a member) was).1 (monotone part (left_beside d start kept a) beside within passes)))
  ]

-- there is one only
module _ (d : Direction) (Passes : Attributes → Type 0) (tried start one other : Attributes) (first : IsNarrowed d Passes tried start one)
    (second : IsNarrowed d Passes tried start other) where
  same_turn : (i : ℕ) → ((k : ℕ) → is_tried_before d k i ≡ true → one k ≡ other k) → one i ≡ other i
  same_turn i earlier = elim (cases_Bool (start i)) [
    | inr never ↦ not_in one first.within never ∙ sym (not_in other second.within never)
    | inl member ↦ elim (cases_Bool (tried i)) [
      | inr not_tried ↦ first.stay i member not_tried ∙ sym (second.stay i member not_tried)
      | inl was ↦
          let beside = beside_same d start one other i earlier in
          same_by_false (one i) (other i)
          (λ out. (second.left_out i member was).1 (subst Passes beside ((first.left_out i member was).0 out)))
          (λ out. (first.left_out i member was).1 (subst Passes (sym beside) ((second.left_out i member was).0 out)))
    ]
  ]
    where
      not_in : (x : Attributes) → IsSubset x start → start i ≡ false → x i ≡ false
      not_in x inside never = grind (arith, never, inside i)

  same_upto : (n : ℕ) → ((k : ℕ) → is_tried d n 0 k ≡ true → one k ≡ other k) → (m : ℕ) → m ≤ n → (k : ℕ) → is_tried d n m k ≡ true
      → one k ≡ other k
  same_upto n first_ones zero few k now = first_ones k now
  same_upto n first_ones (suc m) few k now =
      let turn = at_turn d n m (omega (arith, few)) in
      let e : suc m ≡ m + 1 = omega arith in
      let next : (is_tried d n m k || (k == turn.0)) ≡ true = sym (tried_next d n m turn.0 k turn.1) ∙ subst (λ (j : ℕ). is_tried d n j k ≡ true) e now in
      elim (cases_eq k turn.0) [
        | inl here ↦
            same_turn k (λ j earlier. same_upto n first_ones m (omega (arith, few)) j
            (sym (tried_before d n m turn.0 j turn.1) ∙ subst (λ (i : ℕ). is_tried_before d j i ≡ true) here earlier))
        | inr differ ↦ same_upto n first_ones m (omega (arith, few)) k (grind (arith, nat_tests, next, differ))
      ]

  pub one_narrowed : (n : ℕ) → IsSubset start (below n) → one ≡ other
  one_narrowed n low = fun_ext (λ (k : ℕ). elim (cases_lt k n) [
    | inl here ↦
        same_upto n
        (λ j now. elim (cases_lt j n) [
          | inl before ↦ absurd (true≢false (sym now ∙ tried_first d n j before))
          | inr high ↦ beyond j high
        ])
        n (omega arith) k (tried_last d n k here)
    | inr high ↦ beyond k high
  ])
    where
      beyond : (k : ℕ) → n ≤ k → one k ≡ other k
      beyond k high = outside n start one low first.within k high ∙ sym (outside n start other low second.within k high)

-- from the first to the last, also where the set has no end
pub one_narrowed_ascending : (Passes : Attributes → Type 0) (tried start one other : Attributes) → IsNarrowed Ascending Passes tried start one
    → IsNarrowed Ascending Passes tried start other → one ≡ other
one_narrowed_ascending Passes tried start one other first second = fun_ext (λ (k : ℕ).
    same_upto Ascending Passes tried start one other first second (k + 1) (λ j now. absurd (true≢false (sym now ∙ grind (arith, nat_tests)))) (k + 1) (omega arith) k
    (grind (arith, nat_tests)))
