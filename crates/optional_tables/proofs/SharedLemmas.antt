-- What is found at a table of the homes before it, and at the tables before it.
use Rattle.std.proofs.Common.{◌≡◌, ◌<◌, ◌≤◌, ◌+◌, ℕ, true, false, List, length, Option, Some, None, sym, subst, ap, ◌∙◌, inl, inr, arith}
use Rattle.std.specs.Prelude.{slice_get, IsSomeAnd}
use Rattle.std.proofs.lemmas.Bool.{true≢false, cases_Bool, cases_lt}
use Rattle.std.proofs.lemmas.Option.{slice_get_past, slice_get_within}
use Rattle.attr_sets.specs.Attributes.{Attributes, intersection, union, none, IsEmpty, IsFirstFrom}
use Rattle.optional_tables.specs.declared.keyed.KeyedScheme.{KeyedScheme}
use Rattle.optional_tables.specs.Homes.{has_outside_key}
use Rattle.optional_tables.specs.Hindrances.{AreHomesBefore, IsFirstShared, IsLeastShared, IsSharedAt}
use Rattle.optional_tables.specs.Readable.{IsHomeAt}
use Rattle.optional_tables.proofs.HomeLemmas.{table_there, there_from, there_to}

-- ---- homes
pub home_from : (tables : List KeyedScheme) (k a : ℕ) (t : KeyedScheme) → slice_get tables k ≡ Some t
    → has_outside_key t a ≡ true → IsHomeAt tables a k
home_from tables k a t at has = there_from (λ table. has_outside_key table a ≡ true) tables k t at has

pub home_to : (tables : List KeyedScheme) (k a : ℕ) (t : KeyedScheme) → slice_get tables k ≡ Some t
    → IsHomeAt tables a k → has_outside_key t a ≡ true
home_to tables k a t at has = there_to (λ table. has_outside_key table a ≡ true) tables k t at has

pub home_within : (tables : List KeyedScheme) (k a : ℕ) → IsHomeAt tables a k → k < length tables
home_within tables k a has =
    let (table, at, is) = table_there (λ t. has_outside_key t a ≡ true) tables k has in
    slice_get_within tables k table at

-- ---- the homes among the tables before
pub nothing_before : (tables : List KeyedScheme) (x : Attributes) → x ≡ none → AreHomesBefore tables 0 x
nothing_before tables x is a = (
  (λ member. absurd (true≢false (sym member ∙ ap (λ (y : Attributes). y a) is))),
  (λ found. absurd (omega (arith, found.1))),
)

pub one_more_before : (tables : List KeyedScheme) (k : ℕ) (t : KeyedScheme) (x own more : Attributes)
    → slice_get tables k ≡ Some t → AreHomesBefore tables k x → own ≡ has_outside_key t → more ≡ union x own
    → AreHomesBefore tables (k + 1) more
one_more_before tables k t x own more at before own_is is a = (to, from)
  where
    more_at : more a ≡ union x own a
    more_at = ap (λ (y : Attributes). y a) is

    own_at : own a ≡ has_outside_key t a
    own_at = ap (λ (y : Attributes). y a) own_is

    to : more a ≡ true → (j : ℕ) × (j < k + 1) × IsHomeAt tables a j
    to member = elim (cases_Bool (x a)) [
      | inl old ↦ let found = (before a).0 old in (found.0, omega (arith, found.1), found.2)
      | inr new ↦
          let here : own a ≡ true = grind (arith, more_at, member, new) in
          (k, omega arith, home_from tables k a t at (sym own_at ∙ here))
    ]

    from : ((j : ℕ) × (j < k + 1) × IsHomeAt tables a j) → more a ≡ true
    from found = elim (cases_lt found.0 k) [
      | inl old ↦
          let member = (before a).1 (found.0, old, found.2) in
          grind (arith, more_at, member)
      | inr late ↦
          let last : found.0 ≡ k = omega (arith, late, found.1) in
          let member : own a ≡ true = own_at ∙ home_to tables k a t at (subst (λ (j : ℕ). IsHomeAt tables a j) last found.2) in
          grind (arith, more_at, member)
    ]

-- ---- what is found at one table
module _ (nullable : Attributes) (tables : List KeyedScheme) (k : ℕ) (t : KeyedScheme)
    (at : slice_get tables k ≡ Some t) (before own both : Attributes) (are : AreHomesBefore tables k before)
    (own_is : own ≡ has_outside_key t) (is : both ≡ intersection (intersection own before) nullable) where
  both_at : (a : ℕ) → both a ≡ intersection (intersection own before) nullable a
  both_at a = ap (λ (y : Attributes). y a) is

  own_at : (a : ℕ) → own a ≡ has_outside_key t a
  own_at a = ap (λ (y : Attributes). y a) own_is

  is_shared : (a j : ℕ) → IsSharedAt nullable tables j k a → both a ≡ true
  is_shared a j has =
      let earlier = (are a).1 (j, has.before, has.earlier) in
      let member : own a ≡ true = own_at a ∙ home_to tables k a t at has.later in
      grind (arith, both_at a, earlier, member, has.missing)

  pub none_shared : IsEmpty both → (j a : ℕ) → IsSharedAt nullable tables j k a → ⊥
  none_shared empty j a has = true≢false (sym (is_shared a j has) ∙ empty a)

  -- an attribute that is shared has an earlier home
  pub some_before : (a : ℕ) → both a ≡ true → (j : ℕ) × (j < k) × IsHomeAt tables a j
  some_before a member = (are a).0 (grind (arith, both_at a, member))

  pub least_shared : (a j : ℕ) → IsFirstFrom both 0 a → j < k → IsHomeAt tables a j
      → ((i : ℕ) → i < j → IsHomeAt tables a i → ⊥) → IsLeastShared nullable tables j k a
  least_shared a j first lt has earlier =
      let missing : nullable a ≡ true = grind (arith, both_at a, first.member) in
      let member : own a ≡ true = grind (arith, both_at a, first.member) in
      record {
        here = record {
          missing = missing;
          before = lt;
          earlier = has;
          later = home_from tables k a t at (sym (own_at a) ∙ member);
        };
        least = λ i b less other. true≢false (sym (is_shared b i other) ∙ first.least b (omega arith) less);
        first = λ i less other. earlier i less other.earlier;
      }

-- ---- the tables so far
-- none of the tables before a position shares an attribute with an earlier one
abbrev pub NoneBefore : Attributes → List KeyedScheme → ℕ → Type 0
NoneBefore nullable tables k = (j m a : ℕ) → m < k → IsSharedAt nullable tables j m a → ⊥

pub one_more_none : (nullable : Attributes) (tables : List KeyedScheme) (k : ℕ) → NoneBefore nullable tables k
    → ((j a : ℕ) → IsSharedAt nullable tables j k a → ⊥) → NoneBefore nullable tables (k + 1)
one_more_none nullable tables k before here j m a lt has = elim (cases_lt m k) [
  | inl old ↦ before j m a old has
  | inr late ↦
      let last : m ≡ k = omega (arith, late, lt) in
      here j a (subst (λ (i : ℕ). IsSharedAt nullable tables j i a) last has)
]

-- and beyond the tables there is nothing
pub none_at_all : (nullable : Attributes) (tables : List KeyedScheme) (k : ℕ) → length tables ≤ k
    → NoneBefore nullable tables k → (j m a : ℕ) → IsSharedAt nullable tables j m a → ⊥
none_at_all nullable tables k past before j m a has =
    let low = home_within tables m a has.later in
    before j m a (omega (arith, low, past)) has
