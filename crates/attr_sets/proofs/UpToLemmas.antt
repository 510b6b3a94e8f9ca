-- Sets of attributes up to another one, in the order of sets.
use Rattle.std.proofs.Common.{inl, inr, ◌≡◌, ◌<◌, ◌≤◌, ◌⊎◌, ◌||◌, nat_lt, ℕ, Bool, true, false, sym, ap, subst, ◌∙◌, arith}
use Rattle.std.proofs.lemmas.Bool.{cases_Bool, cases_lt, cases_order, ltb-true, true≢false}
use Rattle.std.proofs.lemmas.Bool.Decides.{nat_tests}
use Rattle.attr_sets.specs.Attributes.{Attributes, IsSubset, IsBefore, below, only, union}
use Rattle.attr_sets.proofs.AttributesLemmas.{same_at}
use Rattle.attr_sets.proofs.OrderLemmas.{IsBefore-trans, tell_before}

pub only_before : (a b : ℕ) → a < b → IsBefore (only a) (only b)
only_before a b less = (
  b,
  grind (arith, nat_tests, less),
  grind (arith, nat_tests),
  λ j more. grind
      (arith, nat_tests, less, more),
)

-- x is the same as y or comes before it
abbrev pub IsUpTo : Attributes → Attributes → Type 0
IsUpTo x y = (x ≡ y) ⊎ IsBefore x y

pub up_to_before : (x y z : Attributes) → IsUpTo x y → IsBefore y z → IsBefore x z
up_to_before x y z up before = elim up [
  | inl same ↦ subst (λ (v : Attributes). IsBefore v z) (sym same) before
  | inr earlier ↦ IsBefore-trans x y z earlier before
]

pub before_up_to : (x y z : Attributes) → IsBefore x y → IsUpTo y z → IsBefore x z
before_up_to x y z before up = elim up [
  | inl same ↦ subst (λ (v : Attributes). IsBefore x v) same before
  | inr earlier ↦ IsBefore-trans x y z before earlier
]

-- a subset is the same or comes before
pub subset_up_to : (n : ℕ) (x y : Attributes) → IsSubset y (below n) → IsSubset x y → IsUpTo x y
subset_up_to n x y low inside = elim (tell_before n x y (λ k m. low k (inside k m)) low) [
  | inl same ↦ inl same
  | inr other ↦ elim other [
    | inl before ↦ inr before
    | inr back ↦ absurd (true≢false (sym (inside back.0 back.2) ∙ back.1))
  ]
]

-- a set within n attributes with all those below m
pub filled_in : (n m : ℕ) (set : Attributes) → IsSubset set (below n) → m ≤ n → IsSubset (union set (below m)) (below n)
filled_in n m set set_in few k h = elim (cases_Bool (set k)) [
  | inl member ↦ set_in k member
  | inr out ↦
      let low : k < m = ltb-true k m (sym (ap (λ (b : Bool). b || nat_lt k m) out) ∙ h) in
      grind (arith, nat_tests, low, few)
]

-- a set after another, up to that one with all attributes below m, holds it where its members stand from m on
pub holds_after : (m : ℕ) (x v : Attributes) → ((k : ℕ) → x k ≡ true → m ≤ k) → IsBefore x v → IsUpTo v (union x (below m))
    → IsSubset x v
holds_after m x v above after up = elim (cases_lt after.0 m) [
  | inl low ↦ λ k h. sym (after.3 k (omega (arith, above k h, low))) ∙ h
  | inr high ↦ absurd (elim up [
    | inl same ↦ true≢false (sym after.2 ∙ same_at same after.0 ∙ beyond high)
    | inr before ↦ elim (cases_order before.0 after.0) [
      | inl at ↦ true≢false (sym after.2 ∙ ap v (sym at) ∙ before.1)
      | inr other ↦ elim other [
        | inl lower ↦ true≢false (sym after.2 ∙ before.3 after.0 lower ∙ beyond high)
        | inr higher ↦
            let out : x before.0 ≡ false = after.3 before.0 higher ∙ before.1 in
            true≢false (sym before.2 ∙ grind (arith, nat_tests, out, higher, high))
      ]
    ]
  ])
]
  where
    beyond : m ≤ after.0 → union x (below m) after.0 ≡ false
    beyond high = (let out : x after.0 ≡ false = after.1 in grind (arith, nat_tests, out, high))
