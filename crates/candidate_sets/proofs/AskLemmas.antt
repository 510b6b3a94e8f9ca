-- Whether one of the sets of an ascending list lies within a bound, by the halves of the list.
use Rattle.std.proofs.Common.{inl, inr, ◌≡◌, ◌+◌, ◌-◌, ◌<◌, ◌≤◌, ◌&&◌, not, nat_lt, ℕ, Bool, true, false, List, length, take, drop, get_or, take_all, length-take, length-drop, refl, sym, ap, subst, ◌∙◌, arith}
use Rattle.std.proofs.lemmas.Bool.{cases_lt, lt-ltb, true≢false}
use Rattle.std.proofs.lemmas.List.{get_or-drop, get_or-take, get_or_default}
use Rattle.attr_sets.specs.Attributes.{Attributes, IsBefore, IsSubset, below, difference}
use Rattle.attr_sets.specs.declared.set.AttrSet.{AttrSet}
use Rattle.attr_sets.specs.Sets.{attributes}
use Rattle.attr_sets.proofs.AttributesLemmas.{same_at}
use Rattle.candidate_sets.specs.Cuts.{Ascend}
use Rattle.candidate_sets.specs.Growing.{HasWithin}

-- ---- short lists
pub none_within : (sets : List AttrSet) (x : Attributes) → length sets ≡ 0 → HasWithin sets x → ⊥
none_within sets x empty found = omega (arith, empty, found.2)

pub one_within : (sets : List AttrSet) (x : Attributes) (d : AttrSet) → length sets ≡ 1
    → HasWithin sets x → IsSubset (attributes (get_or sets 0 d)) x
one_within sets x d one found =
    let start : found.0 ≡ 0 = omega (arith, one, found.2) in
    let is : get_or sets 0 d ≡ found.1 =
    get_or_default sets 0 d found.1 (omega (arith, one)) ∙ ap (λ (j : ℕ). get_or sets j found.1) (sym start) ∙ found.3 in
    subst (λ (s : AttrSet). IsSubset (attributes s) x) (sym is) found.4

pub within_at : (sets : List AttrSet) (x : Attributes) (i : ℕ) (d : AttrSet) → i < length sets
    → IsSubset (attributes (get_or sets i d)) x → HasWithin sets x
within_at sets x i d l inside = (i, get_or sets i d, l, get_or_default sets i (get_or sets i d) d l, inside)

-- ---- the halves of a list
pub ascend_before : (sets : List AttrSet) (m : ℕ) → m ≤ length sets → Ascend sets → Ascend (take m sets)
ascend_before sets m in_it ascend i j d before l =
    let low : j < m = omega (arith, l, length-take m sets) in
    subst (λ (s : AttrSet). IsBefore (attributes s) (attributes (get_or (take m sets) j d)))
    (sym (get_or-take m sets i d (omega (arith, before, low))))
    (subst (λ (s : AttrSet). IsBefore (attributes (get_or sets i d)) (attributes s))
    (sym (get_or-take m sets j d low)) (ascend i j d before (omega (arith, low, in_it))))

pub ascend_after : (sets : List AttrSet) (m : ℕ) → m ≤ length sets → Ascend sets → Ascend (drop m sets)
ascend_after sets m in_it ascend i j d before l =
    let short : m + j < length sets = omega (arith, l, length-drop m sets, in_it) in
    subst (λ (s : AttrSet). IsBefore (attributes s) (attributes (get_or (drop m sets) j d)))
    (sym (get_or-drop m sets i d))
    (subst (λ (s : AttrSet). IsBefore (attributes (get_or sets (m + i) d)) (attributes s))
    (sym (get_or-drop m sets j d)) (ascend (m + i) (m + j) d (omega (arith, before)) short))

pub within_before : (sets : List AttrSet) (m : ℕ) (x : Attributes) → m ≤ length sets → HasWithin (take m sets) x
    → HasWithin sets x
within_before sets m x in_it found =
    let low : found.0 < m = omega (arith, found.2, length-take m sets) in
    (found.0, found.1, omega (arith, low, in_it), sym (get_or-take m sets found.0 found.1 low) ∙ found.3, found.4)

pub within_after : (sets : List AttrSet) (m : ℕ) (x : Attributes) → m ≤ length sets → HasWithin (drop m sets) x
    → HasWithin sets x
within_after sets m x in_it found = (
  m + found.0,
  found.1,
  omega (arith, found.2, length-drop m sets, in_it),
  sym (get_or-drop m sets found.0 found.1) ∙ found.3,
  found.4,
)

-- what lies within a bound and not before a place lies after it
pub within_rest : (sets : List AttrSet) (m : ℕ) (x : Attributes) → m ≤ length sets → HasWithin sets x
    → (HasWithin (take m sets) x → ⊥) → HasWithin (drop m sets) x
within_rest sets m x in_it found none_before = elim (cases_lt found.0 m) [
  | inl low ↦ absurd (none_before (
    found.0,
    found.1,
    omega (arith, low, in_it, length-take m sets),
    get_or-take m sets found.0 found.1 low ∙ found.3,
    found.4,
  ))
  | inr high ↦
      let back : m + (found.0 - m) ≡ found.0 = omega (arith, high) in (
        found.0 - m,
        found.1,
        omega (arith, found.2, high, length-drop m sets),
        get_or-drop m sets (found.0 - m) found.1 ∙ ap (λ (j : ℕ). get_or sets j found.1) back ∙ found.3,
        found.4,
      )
]

-- where all sets from a place on have an attribute, a bound that holds one of them has it too
pub bound_has : (sets : List AttrSet) (m k : ℕ) (x : Attributes) → m ≤ length sets
    → ((i : ℕ) (d : AttrSet) → m ≤ i → i < length sets → attributes (get_or sets i d) k ≡ true)
    → HasWithin (drop m sets) x → x k ≡ true
bound_has sets m k x in_it having found =
    let is : get_or sets (m + found.0) found.1 ≡ found.1 = sym (get_or-drop m sets found.0 found.1) ∙ found.3 in
    found.4 k (subst (λ (s : AttrSet). attributes s k ≡ true) is
    (having (m + found.0) found.1 (omega arith) (omega (arith, found.2, length-drop m sets, in_it))))

-- `sets[m..]`
pub rest_is : (sets : List AttrSet) (m : ℕ) → take (length sets - m) (drop m sets) ≡ drop m sets
rest_is sets m = take_all (length sets - m) (drop m sets) (omega (arith, length-drop m sets))

-- ---- what all sets have in common
pub shared_within : (sets : List AttrSet) (k : ℕ) (e : AttrSet) (shared whole x : Attributes)
    → ((i : ℕ) (d : AttrSet) → i < length sets → (j : ℕ) → k < j
    → attributes (get_or sets 0 e) j ≡ attributes (get_or sets i d) j)
    → whole ≡ below (k + 1) → shared ≡ difference (attributes (get_or sets 0 e)) whole
    → HasWithin sets x → IsSubset shared x
shared_within sets k e shared whole x alike low is found j member =
    let both : (attributes (get_or sets 0 e) j ≡ true) × (k < j) = parts j member in
    found.4 j (subst (λ (s : AttrSet). attributes s j ≡ true) found.3
    (sym (alike found.0 found.1 found.2 j both.1) ∙ both.0))
  where
    parts : (j : ℕ) → shared j ≡ true → (attributes (get_or sets 0 e) j ≡ true) × (k < j)
    parts j member =
        let at : difference (attributes (get_or sets 0 e)) whole j ≡ true = sym (same_at is j) ∙ member in
        let top : whole j ≡ nat_lt j (k + 1) = same_at low j in
        by (attributes (get_or sets 0 e) j) (whole j) refl refl at top
      where
        by : (b c : Bool) → attributes (get_or sets 0 e) j ≡ b → whole j ≡ c → (b && not c) ≡ true
            → whole j ≡ nat_lt j (k + 1) → (attributes (get_or sets 0 e) j ≡ true) × (k < j)
        by true false has out h top = (
          has,
          (elim (cases_lt k j) [
            | inl more ↦ more
            | inr less ↦ absurd (true≢false (sym (lt-ltb j (k + 1) (omega (arith, less))) ∙ sym top ∙ out))
          ]),
        )
        by true true has out h top = absurd (true≢false (sym h))
        by false c has out h top = absurd (true≢false (sym h))
