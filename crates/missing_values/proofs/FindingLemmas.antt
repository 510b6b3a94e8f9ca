-- What is found is there: the attribute in the universe, and the tables among those of the design.
use Rattle.std.proofs.Common.{◌≡◌, ◌<◌, ◌∙◌, ℕ, true, List, length, get_or, Option, Some, None, sym, subst, ap}
use Rattle.std.specs.Prelude.{IfSome, slice_get}
use Rattle.std.proofs.lemmas.Bool.{and_from, and_parts, ltb-true, true≢false}
use Rattle.std.proofs.lemmas.Option.{slice_get_within, slice_get-get_or}
use Rattle.attr_sets.specs.Attributes.{Attributes, intersection, IsEmpty, IsFirstFrom}
use Rattle.attr_sets.specs.Sets.{attributes}
use Rattle.schema_model.specs.Schemas.{width_of, nullable_of}
use Rattle.schema_model.specs.Schemas.{Schema}
use Rattle.optional_tables.specs.declared.keyed.KeyedScheme.{KeyedScheme}
use Rattle.optional_tables.specs.Hindrances.{IsStuckAt}
use Rattle.optional_tables.specs.Homes.{is_optional}
use Rattle.optional_tables.specs.Readable.{CanBeLookedUp}
use Rattle.optional_tables.proofs.AlikeLemmas.{AreAlike, first_shared_alike, first_stuck_alike, none_stuck_alike, there_alike, unhindered_alike}
use Rattle.optional_tables.proofs.HomeLemmas.{missing_in_key, no_table, table_there, there_from, there_to}
use Rattle.optional_tables.proofs.SharedLemmas.{home_within}
use Rattle.missing_values.specs.Missing.{FindsMissing, IsLeastInKey}
use Rattle.missing_values.specs.Refusals.{IsWithin}
use Rattle.missing_values.specs.declared.refusal.MissingRefusal.{MissingRefusal}
use Rattle.missing_values.specs.declared.refusal.MissingRefusal.TheVariants.{InKey, InTwo}

nullable_below : (s : Schema) (a : ℕ) → nullable_of s a ≡ true → a < width_of s
nullable_below s a missing = ltb-true a (width_of s) (s.typed.nullable_within a missing)

pub found_within : (s : Schema) (tables : List KeyedScheme) (found : Option MissingRefusal)
    → FindsMissing (nullable_of s) tables found → IfSome found (IsWithin (width_of s) (length tables))
found_within s tables None finds = tt
found_within s tables (Some (InKey a k)) finds =
    let (table, at, least) =
    table_there (λ t. IsFirstFrom (intersection (attributes t.key) (nullable_of s)) 0 a) tables k finds.1 in (
      nullable_below s a (and_parts (attributes table.key a) (nullable_of s a) least.member).1,
      slice_get_within tables k table at,
    )
found_within s tables (Some (InTwo a j k)) finds = (
  nullable_below s a finds.1.found.here.missing,
  home_within tables j a finds.1.found.here.earlier,
  home_within tables k a finds.1.found.here.later,
)

-- the same is found in tables that are alike
pub finds_alike : (nullable : Attributes) (one other : List KeyedScheme) (found : Option MissingRefusal)
    → AreAlike one other → FindsMissing nullable one found → FindsMissing nullable other found
finds_alike nullable one other None alike finds = unhindered_alike nullable one other alike finds
finds_alike nullable one other (Some (InKey a k)) alike finds = (
  first_stuck_alike nullable one other alike k finds.0,
  there_alike (λ t. IsFirstFrom (intersection (attributes t.key) nullable) 0 a)
      (λ t. IsFirstFrom (intersection (attributes t.key) nullable) 0 a)
      (λ t u same first. subst (λ (key : Attributes). IsFirstFrom (intersection key nullable) 0 a) same.key first)
      one other alike k finds.1,
)
finds_alike nullable one other (Some (InTwo a j k)) alike finds = (
  none_stuck_alike nullable one other alike finds.0,
  first_shared_alike nullable one other alike j k a finds.1,
)

-- what is found may be missing
pub found_missing : (nullable : Attributes) (tables : List KeyedScheme) (refusal : MissingRefusal)
    → FindsMissing nullable tables (Some refusal) → (a : ℕ) × (nullable a ≡ true)
found_missing nullable tables (InKey a k) finds =
    let (table, at, least) =
    table_there (λ t. IsFirstFrom (intersection (attributes t.key) nullable) 0 a) tables k finds.1 in
    (a, (and_parts (attributes table.key a) (nullable a) least.member).1)
found_missing nullable tables (InTwo a j k) finds = (a, finds.1.found.here.missing)

-- ---- the key of a table that is stuck
module _ (nullable : Attributes) (tables : List KeyedScheme) (k : ℕ) (stuck : IsStuckAt nullable tables k)
    (both : Attributes) (is : both ≡ intersection (attributes (get_or tables k no_table).key) nullable) where
  abbrev Stuck : KeyedScheme → Type 0
  Stuck t = (is_optional nullable t ≡ true) × (CanBeLookedUp nullable tables t → ⊥)

  there : slice_get tables k ≡ Some (get_or tables k no_table)
  there =
      let (table, at, both) = table_there Stuck tables k stuck in
      slice_get-get_or tables k no_table (slice_get_within tables k table at)

  pub least_of_stuck : (a : ℕ) → IsFirstFrom both 0 a → IsLeastInKey nullable tables k a
  least_of_stuck a first =
      there_from (λ t. IsFirstFrom (intersection (attributes t.key) nullable) 0 a) tables k (get_or tables k no_table) there
      (subst (λ (x : Attributes). IsFirstFrom x 0 a) is first)

  -- it has an attribute that may be missing
  pub some_in_stuck : IsEmpty both → ⊥
  some_in_stuck empty =
      let table = get_or tables k no_table in
      let (a, member, missing) = missing_in_key nullable table (there_to Stuck tables k table there stuck).0 in
      true≢false (sym (ap (λ (x : Attributes). x a) is ∙ and_from (attributes table.key a) (nullable a) member missing) ∙ empty a)
