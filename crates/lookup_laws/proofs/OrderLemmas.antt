-- The tables that are not optional, and then the others in the order of look-ups, are the tables of a design.
use Rattle.std.proofs.Common.{◌≡◌, ◌⊎◌, ℕ, Bool, true, false, not, List, sym, ap, ◌∙◌, inl, inr, arith}
use Rattle.std.proofs.lemmas.Bool.{cases_Bool, not-true, not_from_false}
use Rattle.std.proofs.lemmas.List.Sorted.{IsPermutation-refl, IsPermutation-sym, Contains-permutation}
use Rattle.std.proofs.lemmas.Option.{same_Some, slice_get_within, get_or_from_slice_get}
use Rattle.std.specs.List.Sorted.{IsPermutation}
use Rattle.std.specs.Prelude.{slice_get, Contains}
use Rattle.attr_sets.specs.Attributes.{Attributes}
use Rattle.optional_tables.specs.declared.keyed.KeyedScheme.{KeyedScheme}
use Rattle.optional_tables.specs.Homes.{is_optional}
use Rattle.optional_tables.specs.Order.{positions_from, members_at, always_filled, look_up_order}
use Rattle.optional_tables.proofs.HomeLemmas.{get_contained}
use Rattle.optional_tables.proofs.OrderLemmas.{order_moved}
use Rattle.optional_tables.proofs.PositionLemmas.{member_at_position, position_in, position_of_member, position_to}

-- ---- the members that pass a test, in any order of their positions
chosen-to : {X : Type 0} (test : X → Bool) (xs : List X) (positions : List ℕ) (x : X)
    → IsPermutation (positions_from test 0 xs) positions → Contains (members_at xs positions) x → Contains xs x × (test x ≡ true)
chosen-to test xs positions x moved h =
    let (k, k_in, is) = position_of_member xs positions x h in
    let back : Contains (positions_from test 0 xs) k =
    Contains-permutation positions (positions_from test 0 xs) k (IsPermutation-sym (positions_from test 0 xs) positions moved) k_in in
    let (i, y, at, is_y, passes) = position_to test 0 xs k back in
    let same : k ≡ i = omega (arith, at) in
    let x_is_y : x ≡ y = same_Some x y (sym is ∙ ap (slice_get xs) same ∙ is_y) in
    ((k, slice_get_within xs k x is, get_or_from_slice_get xs k x x is), ap test x_is_y ∙ passes)

chosen-from : {X : Type 0} (test : X → Bool) (xs : List X) (positions : List ℕ) (x : X)
    → IsPermutation (positions_from test 0 xs) positions → Contains xs x → test x ≡ true → Contains (members_at xs positions) x
chosen-from test xs positions x moved h passes =
    let at = get_contained xs x h in
    member_at_position xs positions h.0 x at
    (Contains-permutation (positions_from test 0 xs) positions h.0 moved (position_in test xs h.0 x at passes))

-- ---- the tables of a design
-- some tables that are not optional, and then those that are, are the tables of a design
pub record AreOrdered (nullable : Attributes) (tables joined order : List KeyedScheme) : Type 0 where
  pub joined_in : (table : KeyedScheme) → Contains joined table → Contains tables table
  pub not_optional : (table : KeyedScheme) → Contains joined table → is_optional nullable table ≡ false
  pub order_in : (table : KeyedScheme) → Contains order table → Contains tables table
  pub optional : (table : KeyedScheme) → Contains order table → is_optional nullable table ≡ true
  pub each : (table : KeyedScheme) → Contains tables table → Contains joined table ⊎ Contains order table

pub tables_are_ordered : (nullable : Attributes) (tables : List KeyedScheme)
    → AreOrdered nullable tables (members_at tables (always_filled nullable tables)) (members_at tables (look_up_order nullable tables))
tables_are_ordered nullable tables = record {
  joined_in = λ table h. (filled-to table h).0;
  not_optional = λ table h. not-true (is_optional nullable table) (filled-to table h).1;
  order_in = λ table h. (chosen-to (is_optional nullable) tables (look_up_order nullable tables) table (order_moved nullable tables) h).0;
  optional = λ table h. (chosen-to (is_optional nullable) tables (look_up_order nullable tables) table (order_moved nullable tables) h).1;
  each = λ table h. elim (cases_Bool (is_optional nullable table)) [
    | inl is ↦ inr (chosen-from (is_optional nullable) tables (look_up_order nullable tables) table (order_moved nullable tables) h is)
    | inr not_so ↦ inl (chosen-from filled tables (always_filled nullable tables) table stays h (not_from_false (is_optional nullable table) not_so))
  ];
}
  where
    filled : KeyedScheme → Bool
    filled table = not (is_optional nullable table)

    stays : IsPermutation (positions_from filled 0 tables) (always_filled nullable tables)
    stays = IsPermutation-refl (always_filled nullable tables)

    filled-to : (table : KeyedScheme) → Contains (members_at tables (always_filled nullable tables)) table
        → Contains tables table × (not (is_optional nullable table) ≡ true)
    filled-to table h = chosen-to filled tables (always_filled nullable tables) table stays h
