-- Which tables of a design are optional, and where they stand: those that the view joins, and those that it looks up.
use Rattle.std.proofs.Common.{◌≡◌, ◌+◌, ℕ, zero, suc, Bool, true, false, not, List, [], ◌∷◌, map, filter, cond, Some, refl, sym, ap, subst, ◌∙◌, inl, inr, arith}
use Rattle.std.proofs.lemmas.Bool.{cases_Bool, true≢false}
use Rattle.std.proofs.lemmas.List.Sorted.{Contains-permutation, IsPermutation-sym}
use Rattle.std.specs.Prelude.{AllPairs, Contains, if◌then◌else◌, slice_get}
use Rattle.attr_sets.specs.Attributes.{Attributes}
use Rattle.attr_sets.specs.Sets.{attributes}
use Rattle.schema_model.specs.Schemas.{Schema}
use Rattle.schema_model.specs.Schemas.{nullable_of}
use Rattle.dep_model.proofs.DistinctLemmas.{filter-member}
use Rattle.dep_model.proofs.PairLemmas.{no_pairs, all_pairs_cons, first_pairs, later_pairs}
use Rattle.dep_model.proofs.PermutationLemmas.{AllPairs-permutation}
use Rattle.optional_tables.specs.declared.keyed.KeyedScheme.{KeyedScheme}
use Rattle.optional_tables.specs.Homes.{is_optional}
use Rattle.optional_tables.specs.Order.{positions_from, members_at, always_filled, optional_positions, look_up_order}
use Rattle.optional_tables.proofs.HomeLemmas.{optional_from}
use Rattle.optional_tables.proofs.OrderLemmas.{order_moved}
use Rattle.optional_tables.proofs.PositionLemmas.{position_from, position_to, position_of_member, members_of_positions}
use Rattle.ddl_text.specs.declared.table.TableDesign.{TableDesign}
use Rattle.ddl_text.specs.Designs.{keyed}
use Rattle.sql_check_laws.proofs.RowLemmas.{none_is_not_some, some_is}
use Rattle.sql_migrate.specs.Script.{filled_tables, looked_up_tables}
use Rattle.sql_migrate_laws.proofs.FullLemmas.{got_member}

-- ---- tables by their keys
pub got_keyed : (designs : List TableDesign) (k : ℕ) (t : TableDesign) → slice_get designs k ≡ Some t → slice_get (map keyed designs) k ≡ Some (keyed t)
got_keyed [] k t e = absurd (none_is_not_some t e)
got_keyed (design ∷ designs) zero t e = ap (λ (u : TableDesign). Some (keyed u)) (some_is design t e)
got_keyed (design ∷ designs) (suc k) t e = got_keyed designs k t e

pub got_from_keyed : (designs : List TableDesign) (k : ℕ) (table : KeyedScheme) → slice_get (map keyed designs) k ≡ Some table
    → (t : TableDesign) × (slice_get designs k ≡ Some t) × (keyed t ≡ table)
got_from_keyed [] k table e = absurd (none_is_not_some table e)
got_from_keyed (design ∷ designs) zero table e = (design, refl, some_is (keyed design) table e)
got_from_keyed (design ∷ designs) (suc k) table e = got_from_keyed designs k table e

-- the same position of a design has the same table
pub same_got : (designs : List TableDesign) (i j : ℕ) (t u : TableDesign) → slice_get designs i ≡ Some t → slice_get designs j ≡ Some u → i ≡ j → t ≡ u
same_got designs i j t u at_i at_j same = some_is t u (sym at_i ∙ ap (slice_get designs) same ∙ at_j)

positions_keyed : (test : KeyedScheme → Bool) (m : ℕ) (designs : List TableDesign)
    → positions_from test m (map keyed designs) ≡ positions_from (λ t. test (keyed t)) m designs
positions_keyed test m [] = refl
positions_keyed test m (t ∷ designs) =
    ap (λ (ks : List ℕ). if test (keyed t) then m ∷ ks else ks) (positions_keyed test (m + 1) designs)

-- of what passes a test, where that holds between any two that pass it
pairs_kept : {X : Type 0} (R : X → X → Type 0) (p : X → Bool) (xs : List X) → AllPairs (λ x y. p x ≡ true → p y ≡ true → R x y) xs → AllPairs R (filter p xs)
pairs_kept R p [] pairs = no_pairs R
pairs_kept {X} R p (x ∷ xs) pairs =
    by_test (p x) refl (pairs_kept R p xs (later_pairs (λ (y z : X). p y ≡ true → p z ≡ true → R y z) x xs pairs))
  where
    by_test : (b : Bool) → p x ≡ b → AllPairs R (filter p xs) → AllPairs R (cond b (x ∷ filter p xs) (filter p xs))
    by_test true is rest = all_pairs_cons R x (filter p xs) (λ y h.
        let m = filter-member p xs y h in
        first_pairs (λ (z w : X). p z ≡ true → p w ≡ true → R z w) x xs y pairs m.0 is m.1) rest
    by_test false is rest = rest

-- ---- positions that differ
abbrev pub Differ : ℕ → ℕ → Type 0
Differ i j = i ≡ j → ⊥

positions_differ : {X : Type 0} (test : X → Bool) (m : ℕ) (xs : List X) → AllPairs Differ (positions_from test m xs)
positions_differ test m [] = no_pairs Differ
positions_differ {X} test m (x ∷ xs) = by_test (test x) (positions_differ test (m + 1) xs)
  where
    by_test : (b : Bool) → AllPairs Differ (positions_from test (m + 1) xs)
        → AllPairs Differ (if b then m ∷ positions_from test (m + 1) xs else positions_from test (m + 1) xs)
    by_test true rest = all_pairs_cons Differ m (positions_from test (m + 1) xs) (λ k h same.
        let it = position_to test (m + 1) xs k h in let is = it.2 in absurd (omega (arith, is, same))) rest
    by_test false rest = rest

module _ (s : Schema) (designs : List TableDesign) where
  abbrev nullable : Attributes
  nullable = nullable_of s

  abbrev optional : TableDesign → Bool
  optional t = is_optional nullable (keyed t)

  abbrev filled_at : List ℕ
  filled_at = always_filled nullable (map keyed designs)

  abbrev order : List ℕ
  order = look_up_order nullable (map keyed designs)

  -- ---- each table is joined, or looked up
  pub filled_position : (k : ℕ) (t : TableDesign) → slice_get designs k ≡ Some t → optional t ≡ false → Contains filled_at k
  filled_position k t at e =
      let there = position_from (λ table. not (is_optional nullable table)) 0 (map keyed designs) k (keyed t) (got_keyed designs k t at) (ap not e) in
      let is : 0 + k ≡ k = omega arith in
      subst (Contains filled_at) is there

  pub filled_is : (k : ℕ) → Contains filled_at k → (t : TableDesign) × (slice_get designs k ≡ Some t) × (optional t ≡ false)
  filled_is k h =
      let it = position_to (λ table. not (is_optional nullable table)) 0 (map keyed designs) k h in
      let same : k ≡ it.0 = let is = it.2 in omega (arith, is) in
      let of = got_from_keyed designs k it.1 (ap (slice_get (map keyed designs)) same ∙ it.3) in
      (of.0, of.1, not_false (optional of.0) (ap (λ (table : KeyedScheme). not (is_optional nullable table)) of.2 ∙ it.4))
    where
      not_false : (b : Bool) → not b ≡ true → b ≡ false
      not_false true e = absurd (true≢false (sym e))
      not_false false e = refl

  pub optional_position : (k : ℕ) (t : TableDesign) → slice_get designs k ≡ Some t → optional t ≡ true → Contains order k
  optional_position k t at e =
      let there = position_from (is_optional nullable) 0 (map keyed designs) k (keyed t) (got_keyed designs k t at) e in
      let is : 0 + k ≡ k = omega arith in
      Contains-permutation (optional_positions nullable (map keyed designs)) order k (order_moved nullable (map keyed designs))
      (subst (Contains (optional_positions nullable (map keyed designs))) is there)

  pub optional_is : (k : ℕ) → Contains order k → (t : TableDesign) × (slice_get designs k ≡ Some t) × (optional t ≡ true)
  optional_is k h =
      let all = optional_positions nullable (map keyed designs) in
      let it = position_to (is_optional nullable) 0 (map keyed designs) k
      (Contains-permutation order all k (IsPermutation-sym all order (order_moved nullable (map keyed designs))) h) in
      let same : k ≡ it.0 = let is = it.2 in omega (arith, is) in
      let of = got_from_keyed designs k it.1 (ap (slice_get (map keyed designs)) same ∙ it.3) in
      (of.0, of.1, ap (is_optional nullable) of.2 ∙ it.4)

  -- none is looked up twice
  pub order_differs : AllPairs Differ order
  order_differs =
      AllPairs-permutation Differ (λ i j other same. other (sym same)) (optional_positions nullable (map keyed designs)) order
      (order_moved nullable (map keyed designs)) (positions_differ (is_optional nullable) 0 (map keyed designs))

  -- ---- tables that are joined, and tables that are looked up
  pub filled_within : (t : TableDesign) → Contains (filled_tables s designs) t → Contains designs t
  filled_within t h = let it = position_of_member designs filled_at t h in got_member designs it.0 t it.2

  pub looked_up_within : (t : TableDesign) → Contains (looked_up_tables s designs) t → Contains designs t
  looked_up_within t h = let it = position_of_member designs order t h in got_member designs it.0 t it.2

  pub filled_not_optional : (t : TableDesign) → Contains (filled_tables s designs) t → optional t ≡ false
  filled_not_optional t h =
      let it = position_of_member designs filled_at t h in
      let of = filled_is it.0 it.1 in
      ap optional (same_got designs it.0 it.0 t of.0 it.2 of.1 refl) ∙ of.2

  -- no value of the key of a table that is not optional may be missing
  pub key_required : (t : TableDesign) → optional t ≡ false → (k : ℕ) → attributes t.key k ≡ true → nullable k ≡ false
  key_required t e k inside = elim (cases_Bool (nullable k)) [
    | inl missing ↦ absurd (true≢false (sym (optional_from nullable (keyed t) k inside missing) ∙ e))
    | inr required ↦ required
  ]

  -- what holds between any two tables that are not optional holds between any two that are joined
  pub filled_pairs : (R : TableDesign → TableDesign → Type 0) → AllPairs (λ t u. optional t ≡ false → optional u ≡ false → R t u) designs
      → AllPairs R (filled_tables s designs)
  filled_pairs R pairs =
      let p = λ (t : TableDesign). not (optional t) in
      let is : filled_tables s designs ≡ filter p designs =
      ap (members_at designs) (positions_keyed (λ table. not (is_optional nullable table)) 0 designs) ∙ members_of_positions p designs in
      subst (AllPairs R) (sym is) (pairs_kept R p designs (λ i j d before low one other.
      pairs i j d before low (turned _ one) (turned _ other)))
    where
      turned : (b : Bool) → not b ≡ true → b ≡ false
      turned true e = absurd (true≢false (sym e))
      turned false e = refl
