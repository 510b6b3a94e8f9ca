-- Of the tables that are made of legal rows, those that are not optional joined, and the others looked up in the order of a
-- readable design, are exactly the rows.
use Rattle.std.proofs.Common.{◌≡◌, ℕ, ◌+◌, ◌<◌, ◌||◌, Some, Bool, true, false, true≢false, not, List, [], ◌∷◌, ◌++◌, length, map, refl, sym, ap, subst, ◌∙◌, inl, inr, arith}
use mathlib.Core.Path.{fun_ext}
use Rattle.std.specs.Prelude.{◌↔◌, All, Any, Contains, slice_get}
use Rattle.std.specs.List.{AllZip, list_any}
use Rattle.std.proofs.lemmas.List.Elements.{All-contains, All-contains_itself, Contains-append_cases, Contains-append_left, Contains-append_right}
use Rattle.std.proofs.lemmas.List.Folds.{Any-from_list_any, list_any-from_Any}
use Rattle.std.proofs.lemmas.Option.{same_Some, slice_get_within}
use Rattle.std.proofs.lemmas.List.Sorted.{Contains-permutation, IsPermutation-sym}
use Rattle.attr_sets.specs.Attributes.{Attributes, IsSubset}
use Rattle.attr_sets.specs.Sets.{attributes}
use Rattle.dep_model.specs.Dependencies.{Dependency}
use Rattle.dep_model.specs.Implication.{IsLegal}
use Rattle.dep_model.specs.Projections.{IsLossless}
use Rattle.dep_model.specs.Tuples.{Relation, Tuple}
use Rattle.dep_model.proofs.JoinLemmas.{lossless_from}
use Rattle.dep_model.proofs.ListLemmas.{All-members, Any-from, Contains-map, map-member}
use Rattle.design_order.specs.Order.{grouped_below}
use Rattle.design_order.proofs.GroupLemmas.{grouped_below-keeps}
use Rattle.lookup_laws.proofs.JoinedLemmas.{HomesAreIn}
use Rattle.lookup_laws.proofs.MissingLemmas.{empty_is_missing}
use Rattle.lookup_laws.proofs.OrderLemmas.{AreOrdered, tables_are_ordered}
use Rattle.lookup_laws.proofs.ReadBackLemmas.{read_back_are_rows, zipped_at, zipped_from}
use Rattle.optional_laws.proofs.HomeLemmas.{homes_first}
use Rattle.optional_laws.specs.KeyOrder.{HasPrimaryKey}
use Rattle.optional_tables.specs.Homes.{is_optional}
use Rattle.optional_tables.specs.LookUps.{CanBeReadBack, FitsIn, IsReadBack, IsTidyFor, empty_values, rows_for, schemes_of_tables}
use Rattle.optional_tables.specs.Order.{HomesComeFirst, always_filled, look_up_order, members_at, optional_positions}
use Rattle.optional_tables.specs.Readable.{IsReadable}
use Rattle.optional_tables.specs.declared.keyed.KeyedScheme.{KeyedScheme}
use Rattle.optional_tables.proofs.OrderLemmas.{order_moved}
use Rattle.optional_tables.proofs.PositionLemmas.{position_to}
use Rattle.primary_keys.proofs.PrimaryLemmas.{primary_is_key}
use Rattle.table_join.proofs.ValueLemmas.{same_test}
use Rattle.table_join.specs.Factors.{covered_by}
use Rattle.table_join.specs.LookUps.{AreJoinedAndLookedUp}
use Rattle.table_join.specs.Tables.{IsTable, PartialRelation, plan_of_tables, rows_of_tables}
use Rattle.rejoin_laws.specs.ByKeys.{AreLookedUpByKeys, IsOver}
use Rattle.rejoin_laws.proofs.ByKeyLemmas.{apart_moved, attributes_of, by_keys}
use Rattle.rejoin_laws.proofs.ReadBackLemmas.{rows_are_read_back}
use Rattle.rejoin_laws.proofs.ZipLemmas.{all_at, all_grouped, beside_member, from_grouped, zip_append, zip_grouped, zip_mapped_same, zip_members, zip_weaker}

-- a table holds the rows of a keyed scheme
pub record HoldsRows (nullable : Attributes) (r : Relation) (keyed : KeyedScheme) (table : PartialRelation) : Type 0 where
  pub over : IsOver keyed table
  pub rows : table.rows ≡ rows_for (empty_values nullable) r keyed

module _ (n : ℕ) (nullable : Attributes) (keyed : List KeyedScheme) (tables : List PartialRelation) (counts : List ℕ)
    (over : AllZip IsOver keyed tables) (many : length counts ≡ length keyed) (small : All (λ (c : ℕ). c < n + 1) counts) where
  -- the design, and the tables in its order
  abbrev design : List KeyedScheme
  design = grouped_below (n + 1) keyed counts

  abbrev ordered : List PartialRelation
  ordered = grouped_below (n + 1) tables counts

  abbrev filled : List KeyedScheme
  filled = members_at keyed (always_filled nullable keyed)

  abbrev optional : List KeyedScheme
  optional = members_at design (look_up_order nullable design)

  abbrev joined : List PartialRelation
  joined = members_at tables (always_filled nullable keyed)

  abbrev others : List PartialRelation
  others = members_at ordered (look_up_order nullable design)

  -- ---- members
  to_design : (t : KeyedScheme) → Contains keyed t → Contains design t
  to_design t t_in = grouped_below-keeps (n + 1) keyed counts many small t t_in

  from_design : (t : KeyedScheme) → Contains design t → Contains keyed t
  from_design t t_in = from_grouped (n + 1) keyed counts t t_in

  of_keyed : AreOrdered nullable keyed filled (members_at keyed (look_up_order nullable keyed))
  of_keyed = tables_are_ordered nullable keyed

  of_design : AreOrdered nullable design (members_at design (always_filled nullable design)) optional
  of_design = tables_are_ordered nullable design

  filled_there : (t : KeyedScheme) → Contains keyed t → is_optional nullable t ≡ false → Contains filled t
  filled_there t t_in not_so = elim (of_keyed.each t t_in) [
    | inl there ↦ there
    | inr order ↦ absurd (true≢false (sym (of_keyed.optional t order) ∙ not_so))
  ]

  same_filled_to : (t : KeyedScheme) → Contains (members_at design (always_filled nullable design)) t → Contains filled t
  same_filled_to t t_in = filled_there t (from_design t (of_design.joined_in t t_in)) (of_design.not_optional t t_in)

  same_filled_from : (t : KeyedScheme) → Contains filled t → Contains (members_at design (always_filled nullable design)) t
  same_filled_from t t_in = elim (of_design.each t (to_design t (of_keyed.joined_in t t_in))) [
    | inl there ↦ there
    | inr order ↦ absurd (true≢false (sym (of_design.optional t order) ∙ of_keyed.not_optional t t_in))
  ]

  all_there : (t : KeyedScheme) → Contains design t → Contains (filled ++ optional) t
  all_there t t_in = elim (of_design.each t t_in) [
    | inl here ↦ Contains-append_left filled optional t (same_filled_to t here)
    | inr order ↦ Contains-append_right filled optional t order
  ]

  none_else : (t : KeyedScheme) → Contains (filled ++ optional) t → Contains design t
  none_else t t_in = elim (Contains-append_cases filled optional t t_in) [
    | inl here ↦ to_design t (of_keyed.joined_in t here)
    | inr order ↦ of_design.order_in t order
  ]

  -- ---- tables beside them
  filled_over : AllZip IsOver filled joined
  filled_over = zip_members IsOver keyed tables (always_filled nullable keyed) over

  optional_over : AllZip IsOver optional others
  optional_over =
      zip_members IsOver design ordered (look_up_order nullable design) (zip_grouped IsOver (n + 1) keyed tables counts over)

  -- ---- the attributes of those that are joined
  same_any : (one other : List KeyedScheme) (k : ℕ) → ((t : KeyedScheme) → Contains one t → Contains other t)
      → ((t : KeyedScheme) → Contains other t → Contains one t) → attributes_of one k ≡ attributes_of other k
  same_any one other k to from = same_test (attributes_of one k) (attributes_of other k) (moved one other to) (moved other one from)
    where
      moved : (xs ys : List KeyedScheme) → ((t : KeyedScheme) → Contains xs t → Contains ys t) → attributes_of xs k ≡ true
          → attributes_of ys k ≡ true
      moved xs ys goes has =
          let (i, t, low, at, is) = Any-from_list_any (λ (u : KeyedScheme). attributes u.scheme k) xs has in
          list_any-from_Any (λ (u : KeyedScheme). attributes u.scheme k) ys
          (Any-from (λ (u : KeyedScheme). attributes u.scheme k ≡ true) ys t (goes t (i, low, at)) is)

  schemes_same : (ks : List KeyedScheme) (ts : List PartialRelation) → AllZip IsOver ks ts → schemes_of_tables ks ≡ plan_of_tables ts
  schemes_same ks ts all = sym (zip_mapped_same (λ (k : KeyedScheme). attributes k.scheme) (λ (t : PartialRelation). t.scheme) ks ts
      (zip_weaker IsOver (λ (k : KeyedScheme) (t : PartialRelation). t.scheme ≡ attributes k.scheme) (λ k t is. sym is) ks ts all))

  any_mapped : (ks : List KeyedScheme) (k : ℕ) → attributes_of ks k ≡ list_any (λ (x : Attributes). x k) (schemes_of_tables ks)
  any_mapped [] k = refl
  any_mapped (t ∷ ts) k = ap (λ (b : Bool). attributes t.scheme k || b) (any_mapped ts k)

  joined_attributes : attributes_of (members_at design (always_filled nullable design)) ≡ covered_by (plan_of_tables joined)
  joined_attributes = fun_ext (λ (k : ℕ).
      same_any (members_at design (always_filled nullable design)) filled k same_filled_to same_filled_from
      ∙ any_mapped filled k
      ∙ ap (λ (plan : List Attributes). list_any (λ (x : Attributes). x k) plan) (schemes_same filled joined filled_over))

  -- ---- an attribute is in one of those that are joined or looked up exactly where it is in one of all
  pub covered_there : (a : ℕ) → Any (λ (s : Attributes). s a ≡ true) (schemes_of_tables keyed)
      → Any (λ (s : Attributes). s a ≡ true) (plan_of_tables (joined ++ others))
  covered_there a (i, x, at, is, has) =
      let (t, t_in, same) = map-member (λ (k : KeyedScheme). attributes k.scheme) keyed x (i, at, is) in
      let (b, b_in, b_over) = beside_member IsOver (filled ++ optional) (joined ++ others)
      (zip_append IsOver filled optional joined others filled_over optional_over) t (all_there t (to_design t t_in)) in
      Any-from (λ (s : Attributes). s a ≡ true) (plan_of_tables (joined ++ others)) b.scheme
      (Contains-map (λ (u : PartialRelation). u.scheme) (joined ++ others) b b_in)
      (ap (λ (s : Attributes). s a) (sym b_over) ∙ ap (λ (s : Attributes). s a) same ∙ has)

  among_tables : (b : PartialRelation) → Contains (joined ++ others) b → Contains tables b
  among_tables b b_in = elim (Contains-append_cases joined others b b_in) [
    | inl here ↦
        All-contains (Contains tables) joined b
        (all_at (Contains tables) tables (always_filled nullable keyed) (All-contains_itself tables)) here
    | inr there ↦
        All-contains (Contains tables) others b
        (all_at (Contains tables) ordered (look_up_order nullable design)
        (all_grouped (Contains tables) (n + 1) tables counts (All-contains_itself tables))) there
  ]

  pub covered_back : (a : ℕ) → Any (λ (s : Attributes). s a ≡ true) (plan_of_tables (joined ++ others))
      → Any (λ (s : Attributes). s a ≡ true) (plan_of_tables tables)
  covered_back a (i, x, at, is, has) =
      let (b, b_in, same) = map-member (λ (u : PartialRelation). u.scheme) (joined ++ others) x (i, at, is) in
      Any-from (λ (s : Attributes). s a ≡ true) (plan_of_tables tables) b.scheme
      (Contains-map (λ (u : PartialRelation). u.scheme) tables b (among_tables b b_in))
      (ap (λ (s : Attributes). s a) same ∙ has)

  module _ (limit : ℕ) (ds : List Dependency) (r : Relation) (holds : AllZip (HoldsRows nullable r) keyed tables)
      (each : All (IsTable n) tables) (keys : (t : KeyedScheme) → Contains keyed t → HasPrimaryKey n ds nullable t)
      (readable : IsReadable nullable (grouped_below (n + 1) keyed counts))
      (legal : IsLegal n ds r) (lossless : IsLossless n ds (schemes_of_tables keyed))
      (tidy : All (IsTidyFor (empty_values nullable) r) keyed) where
    -- ---- the rows of tables
    filled_hold : AllZip (HoldsRows nullable r) filled joined
    filled_hold = zip_members (HoldsRows nullable r) keyed tables (always_filled nullable keyed) holds

    optional_hold : AllZip (HoldsRows nullable r) optional others
    optional_hold =
        zip_members (HoldsRows nullable r) design ordered (look_up_order nullable design)
        (zip_grouped (HoldsRows nullable r) (n + 1) keyed tables counts holds)

    rows_are : rows_of_tables (joined ++ others) ≡ map (rows_for (empty_values nullable) r) (filled ++ optional)
    rows_are =
        zip_mapped_same (rows_for (empty_values nullable) r) (λ (t : PartialRelation). t.rows) (filled ++ optional) (joined ++ others)
        (zip_weaker (HoldsRows nullable r) (λ (k : KeyedScheme) (t : PartialRelation). t.rows ≡ rows_for (empty_values nullable) r k)
        (λ k t is. is.rows) (filled ++ optional) (joined ++ others)
        (zip_append (HoldsRows nullable r) filled optional joined others filled_hold optional_hold))

    -- ---- the design is looked up by its keys
    design_keys : (t : KeyedScheme) → Contains design t → HasPrimaryKey n ds nullable t
    design_keys t t_in = keys t (from_design t t_in)

    key_within : (t : KeyedScheme) → Contains design t → IsSubset (attributes t.key) (attributes t.scheme)
    key_within t t_in k m =
        (design_keys t t_in).key.nullable_first.within k ((design_keys t t_in).key.others_next.within k m)

    homes : HomesComeFirst nullable (members_at design (always_filled nullable design)) optional
    homes = homes_first n ds nullable design design_keys readable

    none_optional : HomesAreIn nullable (members_at design (always_filled nullable design))
    none_optional t t_in is = absurd (true≢false (sym is ∙ of_design.not_optional t t_in))

    in_positions : (p : ℕ) → Contains (look_up_order nullable design) p → Contains (optional_positions nullable design) p
    in_positions p p_in =
        Contains-permutation (look_up_order nullable design) (optional_positions nullable design) p
        (IsPermutation-sym (optional_positions nullable design) (look_up_order nullable design) (order_moved nullable design)) p_in

    by : AreLookedUpByKeys nullable (covered_by (plan_of_tables joined)) optional
    by = subst (λ (x : Attributes). AreLookedUpByKeys nullable x optional) joined_attributes
        (by_keys nullable design readable key_within (always_filled nullable design) (look_up_order nullable design) homes none_optional
        (All-members (λ (p : ℕ). p < length design) (look_up_order nullable design) (λ p p_in. low_position p (in_positions p p_in)))
        (λ p p_in filled_too. both p (in_positions p p_in) filled_too)
        (apart_moved nullable design)
        (λ p t p_in at. optional_at p t (in_positions p p_in) at))
      where
        low_position : (p : ℕ) → Contains (optional_positions nullable design) p → p < length design
        low_position p p_in =
            let (j, t, is, at, passes) = position_to (is_optional nullable) 0 design p p_in in
            let low = slice_get_within design j t at in
            omega (arith, is, low)

        optional_at : (p : ℕ) (t : KeyedScheme) → Contains (optional_positions nullable design) p → slice_get design p ≡ Some t
            → is_optional nullable t ≡ true
        optional_at p t p_in at =
            let (j, u, is, here, passes) = position_to (is_optional nullable) 0 design p p_in in
            let same : j ≡ p = omega (arith, is) in
            ap (is_optional nullable) (same_Some t u (sym at ∙ ap (slice_get design) (sym same) ∙ here)) ∙ passes

        both : (p : ℕ) → Contains (optional_positions nullable design) p → Contains (always_filled nullable design) p → ⊥
        both p p_in filled_too =
            let (j, u, is, here, passes) = position_to (λ t. not (is_optional nullable t)) 0 design p filled_too in
            let same : j ≡ p = omega (arith, is) in
            true≢false (sym passes ∙ ap not (optional_at p u p_in (ap (slice_get design) (sym same) ∙ here)))

    can : CanBeReadBack n ds nullable design
    can = record {
      lossless = lossless_from n ds (schemes_of_tables keyed) (schemes_of_tables design) lossless
          (λ a low. let (i, x, at, is, has) = lossless.covers a low in
          let (t, t_in, same) = map-member (λ (k : KeyedScheme). attributes k.scheme) keyed x (i, at, is) in
          Any-from (λ (s : Attributes). s a ≡ true) (schemes_of_tables design) (attributes t.scheme)
          (Contains-map (λ (k : KeyedScheme). attributes k.scheme) design t (to_design t t_in)) (ap (λ (s : Attributes). s a) same ∙ has))
          (λ rel legal_rel t long every_scheme scheme has.
          let (k, k_in, same) = map-member (λ (u : KeyedScheme). attributes u.scheme) keyed scheme has in
          every_scheme scheme (subst (Contains (schemes_of_tables design)) same
          (Contains-map (λ (u : KeyedScheme). attributes u.scheme) design k (to_design k k_in))));
      keys = λ t t_in. (primary_is_key n ds nullable (attributes t.scheme) (attributes t.key) (design_keys t t_in).universe (design_keys t t_in).key).superkey;
      readable = readable;
      homes_first = homes;
    }

    back_to : (t : Tuple) → IsReadBack n nullable (empty_values nullable) design (map (rows_for (empty_values nullable) r) design) t
        → IsReadBack n nullable (empty_values nullable) (filled ++ optional) (rows_of_tables (joined ++ others)) t
    back_to t back = record {
      over = back.over;
      in_each = subst (λ (rs : List Relation). AllZip (FitsIn nullable (empty_values nullable) t) (filled ++ optional) rs) (sym rows_are)
          (zipped_from (FitsIn nullable (empty_values nullable) t) (rows_for (empty_values nullable) r) (filled ++ optional) (λ x x_in.
          zipped_at (FitsIn nullable (empty_values nullable) t) (rows_for (empty_values nullable) r) design back.in_each x (none_else x x_in)));
    }

    back_from : (t : Tuple) → IsReadBack n nullable (empty_values nullable) (filled ++ optional) (rows_of_tables (joined ++ others)) t
        → IsReadBack n nullable (empty_values nullable) design (map (rows_for (empty_values nullable) r) design) t
    back_from t back = record {
      over = back.over;
      in_each = zipped_from (FitsIn nullable (empty_values nullable) t) (rows_for (empty_values nullable) r) design (λ x x_in.
          zipped_at (FitsIn nullable (empty_values nullable) t) (rows_for (empty_values nullable) r) (filled ++ optional)
          (subst (λ (rs : List Relation). AllZip (FitsIn nullable (empty_values nullable) t) (filled ++ optional) rs) rows_are back.in_each)
          x (all_there x x_in));
    }

    pub rows_rejoined : (found : Relation) → AreJoinedAndLookedUp n nullable limit joined others found → (t : Tuple)
        → Contains found t ↔ Contains r t
    rows_rejoined found are t =
        let read = rows_are_read_back n limit nullable filled optional joined others found
        (all_at (IsTable n) tables (always_filled nullable keyed) each)
        (all_at (IsTable n) ordered (look_up_order nullable design) (all_grouped (IsTable n) (n + 1) tables counts each))
        (λ a low. covered_there a (lossless.covers a low)) filled_over optional_over
        (All-members (λ (s : KeyedScheme). is_optional nullable s ≡ false) filled of_keyed.not_optional)
        (All-members (λ (s : KeyedScheme). is_optional nullable s ≡ true) optional of_design.optional) by are t in
        let are_rows = read_back_are_rows n ds nullable (empty_values nullable) design r (empty_is_missing nullable) legal can
        (all_grouped (IsTidyFor (empty_values nullable) r) (n + 1) keyed counts tidy) t in
        ((λ h. are_rows.0 (back_from t (read.0 h))), (λ h. read.1 (back_to t (are_rows.1 h))))
