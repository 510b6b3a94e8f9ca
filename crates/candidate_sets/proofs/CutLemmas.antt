-- The greatest attribute in which two sets differ: as the highest bit of their numbers' difference, and
-- as the place where an ascending list between them is cut in two.
use Rattle.std.proofs.Common.{inl, inr, ◌≡◌, ◌+◌, ◌-◌, ◌/◌, ◌^◌, ◌<◌, ◌≤◌, ℕ, zero, suc, Bool, true, false, not, List, length, get_or, bit_xor, refl, sym, ap, subst, ◌∙◌, pow-suc, arith}
use Rattle.std.specs.Int.{bit_at}
use Rattle.std.specs.Int.Count.{count_leading_zeros}
use Rattle.std.proofs.lemmas.Bool.{cases_Bool, cases_eq, cases_lt, cases_order, ltb-true, true≢false}
use Rattle.std.proofs.lemmas.Bool.Decides.{nat_tests}
use Rattle.std.proofs.lemmas.Nat.{leading_top, xor_lt}
use Rattle.std.proofs.lemmas.List.{get_or_default}
use Rattle.std.proofs.lemmas.Nat.Bits.{bit_at_above, bit_at-lt, bit_at_lowest, bit_at-suc, bit_at_xor, bit_at-zero}
use Rattle.attr_sets.specs.Attributes.{Attributes, IsBefore}
use Rattle.attr_sets.specs.declared.set.AttrSet.{AttrSet}
use Rattle.attr_sets.specs.declared.set.TheConstants.{MOST_ATTRIBUTES}
use Rattle.attr_sets.specs.Sets.{attributes, has_bit}
use Rattle.attr_sets.proofs.AttributesLemmas.{attributes_below}
use Rattle.attr_sets.proofs.UpToLemmas.{IsUpTo}
use Rattle.candidate_sets.specs.Cuts.{ArePartedAt, Ascend, IsCut}

-- ---- the highest bit
highest_set : (j z : ℕ) → 2 ^ j ≤ z → z < 2 ^ suc j → bit_at z j ≡ 1
highest_set zero z low high = omega (arith, bit_at_lowest z)
highest_set (suc j) z low high =
    bit_at-suc z j ∙ highest_set j (z / 2) (omega (arith, pow-suc 2 j)) (omega (arith, pow-suc 2 (suc j)))

pub record IsHighest (w z j : ℕ) : Type 0 where
  pub counted : count_leading_zeros w z + suc j ≡ w
  pub is_set : bit_at z j ≡ 1
  pub clear : (i : ℕ) → j < i → bit_at z i ≡ 0

highest_bit : (w z : ℕ) → 0 < z → z < 2 ^ w → (j : ℕ) × IsHighest w z j
highest_bit w z some fits =
    let top = leading_top w z some fits in (
      top.0,
      record {
        counted = top.1;
        is_set = highest_set top.0 z top.2 top.3;
        clear = λ i more. bit_at_above z (suc top.0) i top.3 (omega (arith, more));
      },
    )

-- ---- the greatest attribute in which two sets differ
bit_of : (s : AttrSet) (k : ℕ) → k < MOST_ATTRIBUTES → attributes s k ≡ true → bit_at s.0 k ≡ 1
unfolding attributes has_bit
bit_of s k low member = grind (arith, nat_tests)

no_bit_of : (s : AttrSet) (k : ℕ) → k < MOST_ATTRIBUTES → attributes s k ≡ false → bit_at s.0 k ≡ 0
unfolding attributes has_bit
no_bit_of s k low out = grind (arith, nat_tests, bit_at-lt s.0 k)

member_low : (s : AttrSet) (k : ℕ) → attributes s k ≡ true → k < MOST_ATTRIBUTES
member_low s k member = ltb-true k MOST_ATTRIBUTES (attributes_below s k member)

same_bit : (x y : AttrSet) (k : ℕ) → k < MOST_ATTRIBUTES → attributes x k ≡ attributes y k
    → bit_at (bit_xor x.0 y.0) k ≡ 0
same_bit x y k low same = elim (cases_Bool (attributes x k)) [
  | inl member ↦ omega (arith, bit_at_xor x.0 y.0 k, bit_of x k low member, bit_of y k low (sym same ∙ member))
  | inr out ↦ omega (arith, bit_at_xor x.0 y.0 k, no_bit_of x k low out, no_bit_of y k low (sym same ∙ out))
]

module _ (x y : AttrSet) (x_fits : x.0 < 2 ^ MOST_ATTRIBUTES) (y_fits : y.0 < 2 ^ MOST_ATTRIBUTES)
    (before : IsBefore (attributes x) (attributes y)) where
  at_low : before.0 < MOST_ATTRIBUTES
  at_low = member_low y before.0 before.2

  at_set : bit_at (bit_xor x.0 y.0) before.0 ≡ 1
  at_set =
      omega (arith, bit_at_xor x.0 y.0 before.0, no_bit_of x before.0 at_low before.1, bit_of y before.0 at_low before.2)

  pub some_difference : 0 < bit_xor x.0 y.0
  some_difference = elim (cases_eq (bit_xor x.0 y.0) 0) [
    | inl none ↦ absurd (omega (arith, at_set, ap (λ (z : ℕ). bit_at z before.0) none, bit_at-zero before.0))
    | inr other ↦ omega (arith, other)
  ]

  top : (j : ℕ) × IsHighest MOST_ATTRIBUTES (bit_xor x.0 y.0) j
  top = highest_bit MOST_ATTRIBUTES (bit_xor x.0 y.0) some_difference (xor_lt MOST_ATTRIBUTES x.0 y.0 x_fits y_fits)

  top_is : before.0 ≡ top.0
  top_is = elim (cases_order before.0 top.0) [
    | inl same ↦ same
    | inr other ↦ elim other [
      | inl low ↦ absurd (omega (
        arith,
        top.1.is_set,
        same_bit x y top.0 (omega (arith, top.1.counted)) (before.3 top.0 low),
      ))
      | inr high ↦ absurd (omega (arith, at_set, top.1.clear before.0 high))
    ]
  ]

  pub leading_few : count_leading_zeros MOST_ATTRIBUTES (bit_xor x.0 y.0) < MOST_ATTRIBUTES
  leading_few = omega (arith, top.1.counted)

  pub greatest_is_cut : (k : ℕ) → k + 1 + count_leading_zeros MOST_ATTRIBUTES (bit_xor x.0 y.0) ≡ MOST_ATTRIBUTES
      → IsCut (attributes x) (attributes y) k
  greatest_is_cut k is =
      let at : before.0 ≡ k = omega (arith, top_is, top.1.counted) in
      subst (λ (j : ℕ). IsCut (attributes x) (attributes y) j) at
      (record { lacks = before.1; has = before.2; above = before.3 })

-- ---- ascending lists
-- a set between two that agree above an attribute agrees with them
pub agrees_between : (x y z : Attributes) (k : ℕ) → IsUpTo x y → IsUpTo y z → ((j : ℕ) → k < j → x j ≡ z j)
    → (j : ℕ) → k < j → x j ≡ y j
agrees_between x y z k first second same j more = elim first [
  | inl is ↦ ap (λ (v : Attributes). v j) is
  | inr up ↦ elim second [
    | inl is ↦ same j more ∙ sym (ap (λ (v : Attributes). v j) is)
    | inr on ↦ elim (cases_lt up.0 j) [
      | inl beyond ↦ up.3 j beyond
      | inr at ↦ absurd (elim (cases_order up.0 on.0) [
        | inl equal ↦ true≢false (sym up.2 ∙ ap y equal ∙ on.1)
        | inr other ↦ elim other [
          | inl lower ↦ true≢false (sym on.2 ∙ sym (same on.0 (omega (arith, more, at, lower))) ∙ up.3 on.0 lower ∙ on.1)
          | inr higher ↦ true≢false (sym up.2 ∙ on.3 up.0 higher ∙ sym (same up.0 (omega (arith, more, at))) ∙ up.1)
        ]
      ])
    ]
  ]
]

module _ (sets : List AttrSet) (ascend : Ascend sets) (k : ℕ) (e f : AttrSet) (some : 0 < length sets)
    (cut : IsCut (attributes (get_or sets 0 e)) (attributes (get_or sets (length sets - 1) f)) k) where
  from_first : (i : ℕ) (d : AttrSet) → i < length sets
      → IsUpTo (attributes (get_or sets 0 e)) (attributes (get_or sets i d))
  from_first i d l = elim (cases_eq i 0) [
    | inl start ↦ inl (ap attributes (get_or_default sets 0 e d some ∙ ap (λ (j : ℕ). get_or sets j d) (sym start)))
    | inr later ↦ inr (subst (λ (s : AttrSet). IsBefore (attributes s) (attributes (get_or sets i d)))
        (get_or_default sets 0 d e some) (ascend 0 i d (omega (arith, later)) l))
  ]

  to_last : (i : ℕ) (d : AttrSet) → i < length sets
      → IsUpTo (attributes (get_or sets i d)) (attributes (get_or sets (length sets - 1) f))
  to_last i d l =
      let last_in : length sets - 1 < length sets = omega (arith, some) in
      elim (cases_eq i (length sets - 1)) [
        | inl end ↦ inl (ap attributes (ap (λ (j : ℕ). get_or sets j d) end
            ∙ get_or_default sets (length sets - 1) d f last_in))
        | inr earlier ↦ inr (subst (λ (s : AttrSet). IsBefore (attributes (get_or sets i d)) (attributes s))
            (get_or_default sets (length sets - 1) d f last_in)
            (ascend i (length sets - 1) d (omega (arith, earlier, l)) last_in))
      ]

  -- all of them agree above the cut
  pub shared_above : (i : ℕ) (d : AttrSet) → i < length sets → (j : ℕ) → k < j
      → attributes (get_or sets 0 e) j ≡ attributes (get_or sets i d) j
  shared_above i d l = agrees_between (attributes (get_or sets 0 e)) (attributes (get_or sets i d))
      (attributes (get_or sets (length sets - 1) f)) k (from_first i d l) (to_last i d l) cut.above

  pub parted_at_cut : ArePartedAt sets k
  parted_at_cut i j d before l out =
      let earlier : IsBefore (attributes (get_or sets i d)) (attributes (get_or sets j d)) = ascend i j d before l in
      elim (cases_Bool (attributes (get_or sets i d) k)) [
        | inr lacks ↦ lacks
        | inl has ↦ absurd (elim (cases_order earlier.0 k) [
          | inl same ↦ true≢false (sym has ∙ ap (attributes (get_or sets i d)) (sym same) ∙ earlier.1)
          | inr other ↦ elim other [
            | inl lower ↦ true≢false (sym has ∙ earlier.3 k lower ∙ out)
            | inr higher ↦ true≢false (sym earlier.2
                ∙ sym (shared_above j d l earlier.0 higher)
                ∙ shared_above i d (omega (arith, before, l)) earlier.0 higher ∙ earlier.1)
          ]
        ])
      ]

  -- the first lacks the attribute, and the last has it, so both halves are shorter
  pub some_without : (middle : ℕ) → ((i : ℕ) (d : AttrSet) → middle ≤ i → i < length sets
      → attributes (get_or sets i d) k ≡ true) → 0 < middle
  some_without middle having = elim (cases_eq middle 0) [
    | inl none ↦ absurd (true≢false (sym (having 0 e (omega (arith, none)) some) ∙ cut.lacks))
    | inr other ↦ omega (arith, other)
  ]

  pub some_having : (middle : ℕ) → ((i : ℕ) (d : AttrSet) → i < middle → attributes (get_or sets i d) k ≡ false)
      → middle < length sets
  some_having middle without = elim (cases_lt middle (length sets)) [
    | inl less ↦ less
    | inr all ↦ absurd (true≢false (sym cut.has ∙ without (length sets - 1) f (omega (arith, some, all))))
  ]

-- ---- where an attribute begins
pub passes_before : (sets : List AttrSet) (k : ℕ) → ArePartedAt sets k
    → (i j : ℕ) (d : AttrSet) → i ≤ j → j < length sets → not (attributes (get_or sets j d) k) ≡ true
    → not (attributes (get_or sets i d) k) ≡ true
passes_before sets k parted i j d up l passes = elim (cases_eq i j) [
  | inl same ↦ subst (λ (m : ℕ). not (attributes (get_or sets m d) k) ≡ true) (sym same) passes
  | inr other ↦
      let out : attributes (get_or sets j d) k ≡ false = not_out (attributes (get_or sets j d) k) passes in
      ap not (parted i j d (omega (arith, up, other)) l out)
]
  where
    not_out : (b : Bool) → not b ≡ true → b ≡ false
    not_out true h = sym h
    not_out false h = refl
