-- One thing is found first.
use Rattle.std.proofs.Common.{◌≡◌, ◌<◌, ℕ, List, Option, Some, None, refl, sym, subst, ap, ◌∙◌, inl, inr, arith}
use Rattle.std.proofs.lemmas.Bool.{cases_lt, true≢false}
use Rattle.attr_sets.specs.Attributes.{Attributes, intersection, IsFirstFrom}
use Rattle.attr_sets.specs.Sets.{attributes}
use Rattle.optional_tables.specs.declared.keyed.KeyedScheme.{KeyedScheme}
use Rattle.optional_tables.specs.Hindrances.{IsSharedAt}
use Rattle.optional_tables.proofs.HomeLemmas.{table_there, there_to}
use Rattle.missing_values.specs.Missing.{FindsMissing, IsLeastInKey}
use Rattle.missing_values.specs.declared.refusal.MissingRefusal.{MissingRefusal}
use Rattle.missing_values.specs.declared.refusal.MissingRefusal.TheVariants.{InKey, InTwo}

-- two numbers of which neither is less are one
one_number : (k m : ℕ) → (k < m → ⊥) → (m < k → ⊥) → k ≡ m
one_number k m no_less no_more = elim (cases_lt k m) [
  | inl less ↦ absurd (no_less less)
  | inr late ↦ elim (cases_lt m k) [
    | inl more ↦ absurd (no_more more)
    | inr early ↦ omega (arith, late, early)
  ]
]

-- a set has one first member
one_first : (x : Attributes) (a b : ℕ) → IsFirstFrom x 0 a → IsFirstFrom x 0 b → a ≡ b
one_first x a b one other =
    one_number a b
    (λ less. true≢false (sym one.member ∙ other.least a (omega arith) less))
    (λ more. true≢false (sym other.member ∙ one.least b (omega arith) more))

module _ (nullable : Attributes) (tables : List KeyedScheme) where
  -- and so has the key of a table
  one_in_key : (k a b : ℕ) → IsLeastInKey nullable tables k a → IsLeastInKey nullable tables k b → a ≡ b
  one_in_key k a b one other =
      let (table, at, first) =
      table_there (λ t. IsFirstFrom (intersection (attributes t.key) nullable) 0 a) tables k one in
      one_first (intersection (attributes table.key) nullable) a b first
      (there_to (λ t. IsFirstFrom (intersection (attributes t.key) nullable) 0 b) tables k table at other)

  pub one_missing : (a b : Option MissingRefusal) → FindsMissing nullable tables a
      → FindsMissing nullable tables b → a ≡ b
  one_missing None None a b = refl
  one_missing None (Some (InKey y m)) a b = absurd (a.stuck m b.0.here)
  one_missing None (Some (InTwo y i m)) a b = absurd (a.shared i m y b.1.found.here)
  one_missing (Some (InKey x k)) None a b = absurd (b.stuck k a.0.here)
  one_missing (Some (InTwo x j k)) None a b = absurd (b.shared j k x a.1.found.here)
  one_missing (Some (InKey x k)) (Some (InKey y m)) a b =
      let place = one_number k m (λ less. b.0.first k less a.0.here) (λ more. a.0.first m more b.0.here) in
      let here = subst (λ (l : ℕ). IsLeastInKey nullable tables l x) place a.1 in
      let attribute = one_in_key m x y here b.1 in
      ap (λ (c : ℕ). Some (InKey c k)) attribute ∙ ap (λ (l : ℕ). Some (InKey y l)) place
  one_missing (Some (InKey x k)) (Some (InTwo y i m)) a b = absurd (b.0 k a.0.here)
  one_missing (Some (InTwo x j k)) (Some (InKey y m)) a b = absurd (a.0 m b.0.here)
  one_missing (Some (InTwo x j k)) (Some (InTwo y i m)) a b =
      let place = one_number k m (λ less. b.1.first j k x less a.1.found.here)
      (λ more. a.1.first i m y more b.1.found.here) in
      let here = subst (λ (l : ℕ). IsSharedAt nullable tables j l x) place a.1.found.here in
      let there = subst (λ (l : ℕ). IsSharedAt nullable tables i l y) (sym place) b.1.found.here in
      let attribute = one_number x y (λ less. b.1.found.least j x less here) (λ more. a.1.found.least i y more there) in
      let same_here = subst (λ (c : ℕ). IsSharedAt nullable tables j m c) attribute here in
      let same_there = subst (λ (c : ℕ). IsSharedAt nullable tables i k c) (sym attribute) there in
      let earlier = one_number j i (λ less. b.1.found.first j less same_here)
      (λ more. a.1.found.first i more same_there) in
      ap (λ (c : ℕ). Some (InTwo c j k)) attribute ∙ ap (λ (n : ℕ). Some (InTwo y n k)) earlier
      ∙ ap (λ (l : ℕ). Some (InTwo y i l)) place

  -- and nothing, where something is found
  pub found_or_none : (refusal : MissingRefusal) → FindsMissing nullable tables None
      → FindsMissing nullable tables (Some refusal) → ⊥
  found_or_none (InKey a k) unhindered found = unhindered.stuck k found.0.here
  found_or_none (InTwo a j k) unhindered found = unhindered.shared j k a found.1.found.here
