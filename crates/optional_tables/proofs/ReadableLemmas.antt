-- Tables that can be read back are those that nothing keeps from it, where they have all that may be missing.
use Rattle.std.proofs.Common.{◌≡◌, ◌<◌, ℕ, true, false, not, List, Some, length, sym, ap, ◌∙◌, inl, inr, arith}
use Rattle.std.specs.Prelude.{Any, Contains, slice_get}
use Rattle.std.proofs.lemmas.Bool.{and_from, and_parts, cases_Bool, cases_order, true_from_ne_false, true≢false}
use Rattle.std.proofs.lemmas.List.Elements.{Contains-get_or}
use Rattle.std.proofs.lemmas.Option.{slice_get_within, get_or_from_slice_get}
use Rattle.attr_sets.specs.Attributes.{Attributes}
use Rattle.attr_sets.specs.Sets.{attributes}
use Rattle.optional_tables.specs.declared.keyed.KeyedScheme.{KeyedScheme}
use Rattle.optional_tables.specs.Homes.{is_optional, has_outside_key, has_home}
use Rattle.optional_tables.specs.Hindrances.{IsStuckAt, IsSharedAt, IsUnhindered}
use Rattle.optional_tables.specs.Readable.{CanBeLookedUp, HasOneHome, IsHomeAt, IsReadable}
use Rattle.optional_tables.proofs.HomeLemmas.{get_contained, home_among, home_has_key, home_has_outside, optional_from, table_there, there_from}

-- the tables have each attribute of which a value may be missing
abbrev pub HaveAllMissing : Attributes → List KeyedScheme → Type 0
HaveAllMissing nullable tables =
    (a : ℕ) → nullable a ≡ true → Any (λ (table : KeyedScheme). attributes table.scheme a ≡ true) tables

module _ (nullable : Attributes) (tables : List KeyedScheme) where
  -- an optional table that is not stuck can be looked up
  pub looked_up_from : (k : ℕ) (table : KeyedScheme) → slice_get tables k ≡ Some table
      → (IsStuckAt nullable tables k → ⊥) → is_optional nullable table ≡ true → CanBeLookedUp nullable tables table
  looked_up_from k table at not_stuck optional = record {
    beside = λ a has. true_from_ne_false (nullable a)
        (λ never. not_stuck (stuck (λ can. true≢false (sym (can.beside a has) ∙ never))));
    home = true_from_ne_false (has_home nullable tables table)
        (λ none. not_stuck (stuck (λ can. true≢false (sym can.home ∙ none))));
  }
    where
      stuck : (CanBeLookedUp nullable tables table → ⊥) → IsStuckAt nullable tables k
      stuck cannot =
          there_from (λ t. (is_optional nullable t ≡ true) × (CanBeLookedUp nullable tables t → ⊥)) tables k table at
          (optional, cannot)

  outside : ℕ → KeyedScheme → Type 0
  outside a table = has_outside_key table a ≡ true

  -- a table with an attribute that may be missing has it outside its key, or another one has
  home_of : IsUnhindered nullable tables → (a k : ℕ) (table : KeyedScheme) → slice_get tables k ≡ Some table
      → nullable a ≡ true → attributes table.scheme a ≡ true → (j : ℕ) × IsHomeAt tables a j
  home_of unhindered a k table at missing member = elim (cases_Bool (attributes table.key a)) [
    | inr out ↦ (
      k,
      there_from (λ t. has_outside_key t a ≡ true) tables k table at
          (and_from (attributes table.scheme a) (not (attributes table.key a)) member (ap not out)),
    )
    | inl inside ↦
        let can = looked_up_from k table at (unhindered.stuck k) (optional_from nullable table a inside missing) in
        let (j, home, low, there, is) = home_among nullable tables table can.home in (
          j,
          there_from (λ t. has_outside_key t a ≡ true) tables j home there
              (and_from (attributes home.scheme a) (not (attributes home.key a)) (home_has_key nullable table home is a inside)
              (ap not (home_has_outside nullable table home a is inside missing))),
        )
  ]

  pub readable_from : IsUnhindered nullable tables → HaveAllMissing nullable tables → IsReadable nullable tables
  readable_from unhindered covered = record {
    homes = λ a missing.
        let (k, table, low, at, member) = covered a missing in
        let (j, is) = home_of unhindered a k table (get_contained tables table (k, low, at)) missing member in
        record { home = j; is_home = is; only = λ i also. one_home a missing i j also is };
    looked_up = λ table has optional.
        looked_up_from has.0 table (get_contained tables table has) (unhindered.stuck has.0) optional;
  }
    where
      one_home : (a : ℕ) → nullable a ≡ true → (i j : ℕ) → IsHomeAt tables a i → IsHomeAt tables a j → i ≡ j
      one_home a missing i j first second = elim (cases_order i j) [
        | inl same ↦ same
        | inr (inl before) ↦
            absurd (unhindered.shared i j a (record { missing = missing; before = before; earlier = first; later = second }))
        | inr (inr after) ↦
            absurd (unhindered.shared j i a (record { missing = missing; before = after; earlier = second; later = first }))
      ]

  -- ---- and back
  contained : (k : ℕ) (table : KeyedScheme) → slice_get tables k ≡ Some table → Contains tables table
  contained k table at = (k, slice_get_within tables k table at, get_or_from_slice_get tables k table table at)

  pub unhindered_from : IsReadable nullable tables → IsUnhindered nullable tables
  unhindered_from readable = record {
    stuck = λ k stuck.
        let (table, at, (optional, cannot)) =
        table_there (λ t. (is_optional nullable t ≡ true) × (CanBeLookedUp nullable tables t → ⊥)) tables k stuck in
        cannot (readable.looked_up table (contained k table at) optional);
    shared = λ j k a shared.
        let one = readable.homes a shared.missing in
        let same : j ≡ k = one.only j shared.earlier ∙ sym (one.only k shared.later) in
        omega (arith, same, shared.before);
  }

  pub covered_from : IsReadable nullable tables → HaveAllMissing nullable tables
  covered_from readable a missing =
      let one = readable.homes a missing in
      let (table, at, has) = table_there (λ t. has_outside_key t a ≡ true) tables one.home one.is_home in
      let in_tables = contained one.home table at in (
        in_tables.0,
        table,
        in_tables.1,
        in_tables.2,
        (and_parts (attributes table.scheme a) (not (attributes table.key a)) has).0,
      )
