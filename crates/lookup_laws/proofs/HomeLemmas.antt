-- Homes: a home among tables by membership, and that an attribute of which a value may be missing has one home.
use Rattle.std.proofs.Common.{◌≡◌, ℕ, true, false, not, List, ◌∷◌, sym, ap, ◌∙◌}
use Rattle.std.proofs.lemmas.Bool.{and_from, or_right, not-false, not_from_false}
use Rattle.std.proofs.lemmas.List.Folds.{Any-from_list_any}
use Rattle.std.proofs.lemmas.Option.{same_Some}
use Rattle.std.specs.Prelude.{slice_get, Contains}
use Rattle.attr_sets.specs.Attributes.{Attributes, Disjoint}
use Rattle.attr_sets.specs.Sets.{attributes, is_disjoint}
use Rattle.attr_sets.proofs.AttributesLemmas.{attributes_below, is_disjoint-true}
use Rattle.optional_tables.specs.declared.keyed.KeyedScheme.{KeyedScheme}
use Rattle.optional_tables.specs.Homes.{is_optional, has_outside_key, is_home_of, has_home}
use Rattle.optional_tables.specs.Readable.{IsHomeAt, HasOneHome}
use Rattle.optional_tables.proofs.HomeLemmas.{get_contained, there_from, home_has_key, home_has_outside}

-- no value of the key of a table that is not optional may be missing
pub key_is_filled : (nullable : Attributes) (table : KeyedScheme) → is_optional nullable table ≡ false
    → Disjoint (attributes table.key) nullable
key_is_filled nullable table not_so =
    is_disjoint-true (attributes table.key) nullable (attributes_below table.key)
    (not-false (is_disjoint (attributes table.key) nullable) not_so)

-- ---- the home of a table
pub home_found : (nullable : Attributes) (tables : List KeyedScheme) (table : KeyedScheme) → has_home nullable tables table ≡ true
    → (home : KeyedScheme) × Contains tables home × (is_home_of nullable table home ≡ true)
home_found nullable tables table has =
    let (i, home, low, at, is) = Any-from_list_any (is_home_of nullable table) tables has in
    (home, (i, low, at), is)

pub has_home_more : (nullable : Attributes) (other : KeyedScheme) (tables : List KeyedScheme) (table : KeyedScheme)
    → has_home nullable tables table ≡ true → has_home nullable (other ∷ tables) table ≡ true
has_home_more nullable other tables table has = or_right (is_home_of nullable table other) (has_home nullable tables table) has

pub home_is_outside : (nullable : Attributes) (table home : KeyedScheme) (a : ℕ) → is_home_of nullable table home ≡ true
    → attributes table.key a ≡ true → nullable a ≡ true → has_outside_key home a ≡ true
home_is_outside nullable table home a is in_key may =
    and_from (attributes home.scheme a) (not (attributes home.key a)) (home_has_key nullable table home is a in_key)
    (not_from_false (attributes home.key a) (home_has_outside nullable table home a is in_key may))

-- ---- an attribute with one home
home_here : (tables : List KeyedScheme) (a : ℕ) (table : KeyedScheme) (h : Contains tables table)
    → has_outside_key table a ≡ true → IsHomeAt tables a h.0
home_here tables a table h has =
    there_from (λ other. has_outside_key other a ≡ true) tables h.0 table (get_contained tables table h) has

pub same_home : (tables : List KeyedScheme) (a : ℕ) (one other : KeyedScheme) → HasOneHome tables a → Contains tables one
    → Contains tables other → has_outside_key one a ≡ true → has_outside_key other a ≡ true → one ≡ other
same_home tables a one other single one_in other_in one_has other_has =
    let at : one_in.0 ≡ other_in.0 =
    single.only one_in.0 (home_here tables a one one_in one_has) ∙ sym (single.only other_in.0 (home_here tables a other other_in other_has)) in
    same_Some one other
    (sym (get_contained tables one one_in) ∙ ap (slice_get tables) at ∙ get_contained tables other other_in)
