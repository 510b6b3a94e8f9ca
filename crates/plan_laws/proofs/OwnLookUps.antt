-- The tables that a migration makes of a plan that can be read back, each once and in whatever order, are a
-- readable design; so `rejoin` gives the rows of them, whether one is optional or none.
use Rattle.std.proofs.Common.{◌≡◌, ◌<◌, ◌+◌, ℕ, Bool, true, false, true≢false, List, [], ◌∷◌, map, refl, sym, ap, subst, ◌∙◌, arith, IsPermutation}
use Rattle.std.specs.Prelude.{All, Any, Contains}
use Rattle.std.specs.List.{AllZip, list_any}
use Rattle.std.proofs.lemmas.Bool.{false_from_ne_true}
use Rattle.std.proofs.lemmas.Bool.Decides.{nat_tests}
use Rattle.std.proofs.lemmas.List.Elements.{All-head, All-tail}
use Rattle.std.proofs.lemmas.List.Folds.{list_any-from_Any}
use Rattle.std.proofs.lemmas.List.Sorted.{Contains-permutation, IsPermutation-sym, IsPermutation-trans, list_any-IsPermutation}
use Rattle.attr_sets.specs.Attributes.{Attributes}
use Rattle.attr_sets.specs.Sets.{attributes}
use Rattle.dep_model.specs.Plans.{IsPlan}
use Rattle.dep_model.specs.Tuples.{Relation}
use Rattle.dep_model.proofs.ListLemmas.{All-members, Any-from, map-member}
use Rattle.ddl_text.specs.Designs.{keyed}
use Rattle.ddl_text.specs.declared.table.TableDesign.{TableDesign}
use Rattle.design_order.specs.Order.{DeterminesSoMany}
use Rattle.design_order.proofs.OrderLemmas.{order-keeps, order-member}
use Rattle.named_tables.specs.Tables.{TableValue}
use Rattle.optional_laws.proofs.MovedLemmas.{readable_moved}
use Rattle.optional_tables.specs.Homes.{is_optional}
use Rattle.optional_tables.specs.LookUps.{schemes_of_tables}
use Rattle.optional_tables.specs.Readable.{IsReadable}
use Rattle.optional_tables.specs.declared.keyed.KeyedScheme.{KeyedScheme}
use Rattle.optional_tables.proofs.AlikeLemmas.{AreAlike, alike_back, unhindered_alike}
use Rattle.optional_tables.proofs.ReadableLemmas.{readable_from}
use Rattle.rejoin_laws.proofs.MovedLemmas.{grouped_moved, zip_found, zip_moved}
use Rattle.schema_model.specs.Schemas.{LegalFor, Schema, nullable_of, theory_of, width_of}
use Rattle.split_forms.proofs.StepLemmas.{cons-head, cons-tail}
use Rattle.table_join.specs.Tables.{PartialRelation, plan_of_tables}
use Rattle.table_names.specs.TableNames.{GivenNames}
use Rattle.desk_designs.specs.Designs.{AreReadable, IsDesignOf}
use Rattle.desk_designs.specs.Joins.{LosesNothing}
use Rattle.desk_tables.specs.Migrations.{AreTablesOf}
use Rattle.desk_tables.specs.Rejoining.{HaveLookUps, IsKeyedTable, in_order}
use Rattle.desk_tables.specs.Tidiness.{AreTidy, HasPrimaryKey}
use Rattle.plan_laws.specs.Rejoined.{GivesTheRows, HaveRowsInAnyOrder, HaveRowsOnceEach, HasNoOptional}
use Rattle.plan_laws.proofs.DesignedLaws.{same_design}
use Rattle.plan_laws.proofs.LookedUpLaws.{as_many_counts, looked_up_again, small_counts}
use Rattle.plan_laws.proofs.RejoinedLaws.{rejoined_in_any_order, same_schemes, schemes_among}

-- ---- files beside the tables of a design
keyed_files : (s : Schema) (parts : List PartialRelation) (design : List KeyedScheme)
    → schemes_of_tables design ≡ plan_of_tables parts → All (HasPrimaryKey s) design → AllZip (IsKeyedTable s) parts design
keyed_files s [] [] same keys = tt
keyed_files s [] (d ∷ ds) same keys = absurd (cc same)
keyed_files s (p ∷ ps) [] same keys = absurd (cc same)
keyed_files s (p ∷ ps) (d ∷ ds) same keys = (
  record {
    scheme = cons-head (attributes d.scheme) p.scheme (schemes_of_tables ds) (plan_of_tables ps) same;
    key = All-head (HasPrimaryKey s) d ds keys;
  },
  keyed_files s ps ds (cons-tail (attributes d.scheme) p.scheme (schemes_of_tables ds) (plan_of_tables ps) same)
      (All-tail (HasPrimaryKey s) d ds keys),
)

-- the design of the tables is that of which it is known that nothing hinders it
alike_design : (s : Schema) (names : GivenNames) (plan : List Attributes) (rows : Relation) (tables : List TableValue)
    (designs : List TableDesign) → IsDesignOf s names plan designs → (are : AreTablesOf s names plan rows tables)
    → AreAlike are.design (map keyed designs)
alike_design s names plan rows tables designs of =
    subst (λ (p : List Attributes). (are : AreTablesOf s names p rows tables) → AreAlike are.design (map keyed designs)) of.same
    (λ are. same_design s names of.plan designs rows tables of.sound are)

module _ (s : Schema) (names : GivenNames) (plan : List Attributes) (rows : Relation) (tables : List TableValue)
    (parts : List PartialRelation) (lossless : LosesNothing s plan) (readable : AreReadable s names plan)
    (are : AreTablesOf s names plan rows tables) (have : HaveRowsOnceEach s plan tables parts) where
  -- ---- the design can be read back
  covers_missing : (a : ℕ) → nullable_of s a ≡ true → Any (λ (table : KeyedScheme). attributes table.scheme a ≡ true) are.design
  covers_missing a missing =
      let in_universe = s.typed.nullable_within a missing in
      let low : a < width_of s = grind (arith, nat_tests, in_universe) in
      let (i, x, at, is, has) = lossless.covers a low in
      let in_design = order-keeps (width_of s) (theory_of s) plan (schemes_of_tables are.design) are.keyed.order x (i, at, is) in
      let (t, t_in, same) = map-member (λ (k : KeyedScheme). attributes k.scheme) are.design x in_design in
      Any-from (λ (table : KeyedScheme). attributes table.scheme a ≡ true) are.design t t_in
      (ap (λ (y : Attributes). y a) same ∙ has)

  design_readable : IsReadable (nullable_of s) are.design
  design_readable =
      let (designs, of, unhindered) = readable in
      let alike = alike_design s names plan rows tables designs of are in
      readable_from (nullable_of s) are.design
      (unhindered_alike (nullable_of s) (map keyed designs) are.design (alike_back are.design (map keyed designs) alike) unhindered)
      covers_missing

  -- ---- the files are that design in another order
  to_order : (part : PartialRelation) → Contains parts part → Contains have.in_order part
  to_order part part_in =
      Contains-permutation parts have.in_order part (IsPermutation-sym have.in_order parts have.moved) part_in

  in_plan : (x : Attributes) → Contains (plan_of_tables parts) x → Contains plan x
  in_plan x x_in =
      order-member (width_of s) (theory_of s) plan (plan_of_tables have.in_order) have.are.order x
      (schemes_among parts have.in_order to_order x x_in)

  pub own_look_ups : list_any (is_optional (nullable_of s)) are.design ≡ true
      → (ks : List KeyedScheme) × ((counts : List ℕ) × HaveLookUps s parts ks counts)
  own_look_ups some =
      let in_files = keyed_files s have.in_order are.design
      (same_schemes s names plan rows tables have.in_order are have.are) are.keyed.keys in
      let (ks, moved, keys) = zip_moved (IsKeyedTable s) have.in_order parts are.design have.moved in_files in
      let (counts, determined) = zip_found (DeterminesSoMany (width_of s) (theory_of s)) plan (plan_of_tables parts)
      are.keyed.order.counts are.keyed.order.determined in_plan in
      let grouped : IsPermutation are.design (in_order s counts ks) =
      IsPermutation-trans are.design ks (in_order s counts ks) moved
      (grouped_moved (width_of s + 1) ks counts (as_many_counts s parts ks counts keys determined)
      (small_counts (width_of s) (theory_of s) (plan_of_tables parts) counts determined)) in (
        ks,
        (
          counts,
          record {
            keys = keys;
            determined = determined;
            readable = readable_moved (nullable_of s) are.design (in_order s counts ks) grouped design_readable;
            optional = sym (list_any-IsPermutation (is_optional (nullable_of s)) are.design (in_order s counts ks) grouped) ∙ some;
          },
        ),
      )

  -- ---- and back
  none_optional : list_any (is_optional (nullable_of s)) are.design ≡ false → HasNoOptional s plan
  none_optional none = (
    are.design,
    are.keyed,
    All-members (λ (t : KeyedScheme). is_optional (nullable_of s) t ≡ false) are.design
        (λ t t_in. false_from_ne_true (is_optional (nullable_of s) t) (λ is.
        true≢false (sym (list_any-from_Any (is_optional (nullable_of s)) are.design
        (Any-from (λ (u : KeyedScheme). is_optional (nullable_of s) u ≡ true) are.design t t_in is)) ∙ none))),
  )

  in_any_order : HaveRowsInAnyOrder s plan tables parts
  in_any_order = record {
    in_order = have.in_order;
    are = have.are;
    same = λ part. (to_order part, λ part_in. Contains-permutation have.in_order parts part have.moved part_in);
  }

  pub looked_up_where_optional : (HasNoOptional s plan → ⊥)
      → (ks : List KeyedScheme) × ((counts : List ℕ) × HaveLookUps s parts ks counts)
  looked_up_where_optional some = by_test (list_any (is_optional (nullable_of s)) are.design) refl
    where
      by_test : (b : Bool) → list_any (is_optional (nullable_of s)) are.design ≡ b
          → (ks : List KeyedScheme) × ((counts : List ℕ) × HaveLookUps s parts ks counts)
      by_test true is = own_look_ups is
      by_test false is = absurd (some (none_optional is))

  pub there_and_back : IsPlan (width_of s) plan → LegalFor s rows → AreTidy s plan rows → GivesTheRows s parts rows
  there_and_back planned legal tidy = by_test (list_any (is_optional (nullable_of s)) are.design) refl
    where
      by_test : (b : Bool) → list_any (is_optional (nullable_of s)) are.design ≡ b → GivesTheRows s parts rows
      by_test true is =
          let (ks, (counts, looks)) = own_look_ups is in
          looked_up_again s names plan rows tables parts lossless planned legal tidy are in_any_order ks counts looks
      by_test false is =
          rejoined_in_any_order s names plan rows tables parts lossless (none_optional is) legal are in_any_order
