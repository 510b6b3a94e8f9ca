-- What the tests of optional tables and of their homes say, attribute by attribute.
use Rattle.std.proofs.Common.{◌≡◌, ◌<◌, ℕ, true, false, not, List, Option, Some, None, length, refl, sym, subst, ap, ◌∙◌, ◌&&◌}
use Rattle.std.specs.Prelude.{Any, Contains, IsSomeAnd, slice_get}
use Rattle.std.proofs.lemmas.Bool.{and_from, and_parts, not-true, not-false, true≢false}
use Rattle.std.proofs.lemmas.List.Folds.{Any-from_list_any}
use Rattle.std.proofs.lemmas.Option.{slice_get-get_or}
use Rattle.attr_sets.specs.Attributes.{Attributes, intersection, IsSubset}
use Rattle.attr_sets.specs.Sets.{attributes, is_subset, is_disjoint}
use Rattle.attr_sets.specs.declared.set.TheConstants.{MOST_ATTRIBUTES}
use Rattle.attr_sets.proofs.AttributesLemmas.{all_below-false, attributes_below, is_disjoint-not, is_disjoint-true, is_subset-true}
use Rattle.optional_tables.specs.declared.keyed.KeyedScheme.{KeyedScheme}
use Rattle.optional_tables.specs.Homes.{is_optional, has_outside_key, is_home_of, has_home}
use Rattle.optional_tables.specs.Readable.{IsHomeAt}

-- ---- a table at a position
pub there_from : (P : KeyedScheme → Type 0) (tables : List KeyedScheme) (k : ℕ) (table : KeyedScheme)
    → slice_get tables k ≡ Some table → P table → IsSomeAnd (slice_get tables k) P
there_from P tables k table at is = subst (λ (found : Option KeyedScheme). IsSomeAnd found P) (sym at) is

pub there_to : (P : KeyedScheme → Type 0) (tables : List KeyedScheme) (k : ℕ) (table : KeyedScheme)
    → slice_get tables k ≡ Some table → IsSomeAnd (slice_get tables k) P → P table
there_to P tables k table at is = subst (λ (found : Option KeyedScheme). IsSomeAnd found P) at is

-- the table that is there
pub table_there : (P : KeyedScheme → Type 0) (tables : List KeyedScheme) (k : ℕ) → IsSomeAnd (slice_get tables k) P
    → (table : KeyedScheme) × (slice_get tables k ≡ Some table) × P table
table_there P tables k is = by_table (slice_get tables k) refl is
  where
    by_table : (found : Option KeyedScheme) → slice_get tables k ≡ found → IsSomeAnd found P
        → (table : KeyedScheme) × (slice_get tables k ≡ Some table) × P table
    by_table None at is = absurd is
    by_table (Some table) at is = (table, at, is)

pub get_contained : {X : Type 0} (xs : List X) (x : X) (has : Contains xs x) → slice_get xs has.0 ≡ Some x
get_contained xs x has = slice_get-get_or xs has.0 x has.1 ∙ ap Some has.2

-- ---- optional tables
-- an optional table has an attribute in its key of which a value may be missing
pub missing_in_key : (nullable : Attributes) (table : KeyedScheme) → is_optional nullable table ≡ true
    → (a : ℕ) × (attributes table.key a ≡ true) × (nullable a ≡ true)
missing_in_key nullable table optional =
    let (a, low, fails) = all_below-false MOST_ATTRIBUTES (λ k. not (attributes table.key k && nullable k))
    (not-true (is_disjoint (attributes table.key) nullable) optional) in
    let both = and_parts (attributes table.key a) (nullable a)
    (not-false (attributes table.key a && nullable a) fails) in
    (a, both.0, both.1)

-- and a table with such an attribute is optional
pub optional_from : (nullable : Attributes) (table : KeyedScheme) (a : ℕ) → attributes table.key a ≡ true
    → nullable a ≡ true → is_optional nullable table ≡ true
optional_from nullable table a member missing =
    ap not (is_disjoint-not (attributes table.key) nullable (attributes_below table.key) (a, member, missing))

-- ---- homes
-- a home of a table has all of its key
pub home_has_key : (nullable : Attributes) (table home : KeyedScheme) → is_home_of nullable table home ≡ true
    → IsSubset (attributes table.key) (attributes home.scheme)
home_has_key nullable table home is =
    let both = and_parts (is_subset (attributes table.key) (attributes home.scheme))
    (is_disjoint (intersection nullable (attributes table.key)) (attributes home.key)) is in
    is_subset-true (attributes table.key) (attributes home.scheme) (attributes_below table.key) both.0

-- and outside its own what may be missing of it
pub home_has_outside : (nullable : Attributes) (table home : KeyedScheme) (a : ℕ)
    → is_home_of nullable table home ≡ true
    → attributes table.key a ≡ true → nullable a ≡ true → attributes home.key a ≡ false
home_has_outside nullable table home a is member missing =
    let both = and_parts (is_subset (attributes table.key) (attributes home.scheme))
    (is_disjoint (intersection nullable (attributes table.key)) (attributes home.key)) is in
    is_disjoint-true (intersection nullable (attributes table.key)) (attributes home.key)
    (λ (k : ℕ) m. attributes_below table.key k (and_parts (nullable k) (attributes table.key k) m).1) both.1 a
    (and_from (nullable a) (attributes table.key a) missing member)

-- a home of a table among others, and where it stands
pub home_among : (nullable : Attributes) (tables : List KeyedScheme) (table : KeyedScheme)
    → has_home nullable tables table ≡ true
    → (k : ℕ) × (home : KeyedScheme) × (k < length tables) × (slice_get tables k ≡ Some home)
    × (is_home_of nullable table home ≡ true)
home_among nullable tables table has =
    let (k, home, low, at, is) = Any-from_list_any (is_home_of nullable table) tables has in
    (k, home, low, slice_get-get_or tables k home low ∙ ap Some at, is)

-- ---- what code reads of a list at a position
abbrev pub no_table : KeyedScheme
no_table = record { scheme = record { 0 = 0 }; key = record { 0 = 0 } }
