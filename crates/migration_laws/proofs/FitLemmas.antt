-- A sound design that can be read back fits legal relations, and its script ends.
use Rattle.std.proofs.Common.{◌≡◌, ◌<◌, ℕ, zero, suc, true, List, [], ◌∷◌, Some, length, map, take, refl, sym, ap, subst, ◌∙◌, arith}
use Rattle.std.proofs.lemmas.Bool.Decides.{nat_tests}
use Rattle.std.proofs.lemmas.List.Elements.{All-contains}
use Rattle.std.specs.Prelude.{Any, All, Contains, slice_get, slice_index_or}
use Rattle.attr_sets.specs.Attributes.{Attributes, IsSubset}
use Rattle.attr_sets.specs.Sets.{attributes}
use Rattle.attr_sets.specs.declared.set.AttrSet.{AttrSet}
use Rattle.dep_model.specs.Plans.{schemes_of}
use Rattle.dep_model.specs.Projections.{IsLossless}
use Rattle.dep_model.specs.Tuples.{Relation}
use Rattle.dep_model.proofs.JoinLemmas.{lossless_from}
use Rattle.dep_model.proofs.ListLemmas.{Any-from, Contains-map, map-member, same_default}
use Rattle.schema_model.specs.Schemas.{Schema, width_of, universe_of, theory_of, nullable_of}
use Rattle.design_order.proofs.OrderLemmas.{order-member, order-keeps}
use Rattle.primary_keys.specs.PrimaryKeys.{IsPrimaryKey}
use Rattle.optional_tables.specs.declared.keyed.KeyedScheme.{KeyedScheme}
use Rattle.optional_tables.specs.Hindrances.{IsUnhindered}
use Rattle.optional_tables.specs.Readable.{IsReadable}
use Rattle.optional_tables.proofs.ReadableLemmas.{readable_from}
use Rattle.optional_laws.specs.KeyOrder.{HasPrimaryKey}
use Rattle.optional_laws.proofs.HomeLemmas.{homes_first}
use Rattle.table_names.specs.TableNames.{GivenNames}
use Rattle.ddl_text.specs.Designs.{keyed, IsTableOf}
use Rattle.ddl_text.specs.declared.table.TableDesign.{TableDesign}
use Rattle.ddl_text.proofs.DesignLemmas.{table_at, other_key, slice_get-member, referred_table, design_earlier}
use Rattle.sql_evaluation.specs.Cells.{Cell}
use Rattle.sql_evaluation.specs.Running.{State, Cast, Fails, ended, outcome}
use Rattle.sql_migrate.specs.Script.{migration}
use Rattle.sql_migrate_laws.specs.Ending.{FitsRelations}
use Rattle.sql_migrate_laws.proofs.EndLemmas.{run_ends}
use Rattle.sql_migrate_laws.proofs.FullLemmas.{got_member}
use Rattle.desk_designs.specs.Designs.{IsSoundDesign}
use Rattle.desk_designs.specs.Joins.{LosesNothing}
use Rattle.migration_laws.specs.Ready.{IsPrinted, HoldsSoundRows, NamesAreFree, IsFairEngine}
use Rattle.migration_laws.proofs.OwnNameLemmas.{own_names}

element_at : {X : Type 0} (xs : List X) (k : ℕ) → k < length xs → (x : X) × (slice_get xs k ≡ Some x)
element_at [] k low = absurd (omega (arith, low))
element_at (x ∷ xs) zero low = (x, refl)
element_at (x ∷ xs) (suc k) low = element_at xs k (omega (arith, low))

module _ (s : Schema) (names : GivenNames) (plan : List AttrSet) (tables : List TableDesign)
    (within : All (λ scheme. IsSubset (attributes scheme) (universe_of s)) plan) (sound : IsSoundDesign s names plan tables) where
  -- ---- a table
  -- its scheme is one of the plan
  abbrev scheme_at : TableDesign → ℕ → AttrSet
  scheme_at t k = slice_index_or sound.ordered k t.scheme

  table_is : (t : TableDesign) (h : Contains tables t) → IsTableOf s names (take h.0 tables) (scheme_at t h.0) t
  table_is t h = table_at s names sound.ordered tables h.0 t sound.design (slice_get-member tables t h)

  scheme_within : (t : TableDesign) → Contains tables t → IsSubset (attributes t.scheme) (universe_of s)
  scheme_within t h =
      let is = table_is t h in
      let in_order : Contains sound.ordered t.scheme = (h.0, omega (arith, h.1, sound.design.one_each), sym is.columns) in
      let in_plan = order-member (width_of s) (theory_of s) (schemes_of plan) (schemes_of sound.ordered) sound.order (attributes t.scheme)
      (Contains-map attributes sound.ordered t.scheme in_order) in
      let of = map-member attributes plan (attributes t.scheme) in_plan in
      subst (λ (x : Attributes). IsSubset x (universe_of s)) of.2
      (All-contains (λ (x : AttrSet). IsSubset (attributes x) (universe_of s)) plan of.0 within of.1)

  primary : (t : TableDesign) → Contains tables t → IsPrimaryKey (width_of s) (theory_of s) (nullable_of s) (attributes t.scheme) (attributes t.key)
  primary t h =
      let is = table_is t h in
      subst (λ (x : AttrSet). IsPrimaryKey (width_of s) (theory_of s) (nullable_of s) (attributes x) (attributes t.key)) (sym is.columns) is.key

  -- what lies within the scheme of its position lies within its scheme
  in_scheme : (t : TableDesign) (h : Contains tables t) (x : Attributes) → IsSubset x (attributes (scheme_at t h.0)) → IsSubset x (attributes t.scheme)
  in_scheme t h x inside = subst (λ (y : AttrSet). IsSubset x (attributes y)) (sym (table_is t h).columns) inside

  pub fits : IsReadable (nullable_of s) (map keyed tables) → FitsRelations s tables
  fits readable = record {
    within = scheme_within;
    key_within = λ t h k e. let p = primary t h in p.nullable_first.within k (p.others_next.within k e);
    other_keys_within = λ t h key known.
        let is_key = other_key s (attributes (scheme_at t h.0)) (attributes t.key) t.other_keys key (table_is t h).other_keys known in
        in_scheme t h key is_key.superkey.within.0;
    earlier = design_earlier s names sound.ordered tables sound.design;
    refers_within = λ t other j h refers at.
        let found = referred_table (attributes (scheme_at t h.0)) tables h.0 j other (((table_is t h).refs.exactly j).0 refers) at in
        in_scheme t h (attributes other.key) found.within;
    keys_hold = sound.keys_hold;
    other_keys_hold = sound.other_keys_hold;
    readable = readable;
    homes_first = homes_first (width_of s) (theory_of s) (nullable_of s) (map keyed tables) (λ table h.
        let of = map-member keyed tables table h in
        subst (HasPrimaryKey (width_of s) (theory_of s) (nullable_of s)) of.2
        (record { universe = scheme_within of.0 of.1; key = primary of.0 of.1 })) readable;
  }

  -- ---- a plan that loses nothing
  abbrev schemes : List Attributes
  schemes = map (λ (t : TableDesign). attributes t.scheme) tables

  -- each scheme of the plan is that of a table
  in_tables : (scheme : Attributes) → Contains (schemes_of plan) scheme → Contains schemes scheme
  in_tables scheme h =
      let in_order = order-keeps (width_of s) (theory_of s) (schemes_of plan) (schemes_of sound.ordered) sound.order scheme h in
      let of = map-member attributes sound.ordered scheme in_order in
      let place = of.1 in
      let found = element_at tables place.0 (omega (arith, place.1, sound.design.one_each)) in
      let t = found.0 in
      let is = table_at s names sound.ordered tables place.0 t sound.design found.1 in
      let same : slice_index_or sound.ordered place.0 t.scheme ≡ of.0 = same_default sound.ordered place.0 t.scheme of.0 place.1 ∙ place.2 in
      subst (Contains schemes) (ap attributes (is.columns ∙ same) ∙ of.2)
      (Contains-map (λ (u : TableDesign). attributes u.scheme) tables t (got_member tables place.0 t found.1))

  covered : LosesNothing s (schemes_of plan) → (k : ℕ) → k < width_of s → Any (λ (scheme : Attributes). scheme k ≡ true) schemes
  covered lossless k low =
      let has = lossless.covers k low in
      Any-from (λ (scheme : Attributes). scheme k ≡ true) schemes has.1 (in_tables has.1 (has.0, has.2, has.3)) has.4

  pub still_lossless : LosesNothing s (schemes_of plan) → IsLossless (width_of s) (theory_of s) schemes
  still_lossless lossless =
      lossless_from (width_of s) (theory_of s) (schemes_of plan) schemes lossless (covered lossless)
      (λ r legal t long each scheme has. each scheme (in_tables scheme has))

  -- ---- tables that can be read back
  pub readable : LosesNothing s (schemes_of plan) → IsUnhindered (nullable_of s) (map keyed tables) → IsReadable (nullable_of s) (map keyed tables)
  readable lossless unhindered =
      readable_from (nullable_of s) (map keyed tables) unhindered (λ a missing.
      let in_universe = s.typed.nullable_within a missing in
      let low : a < width_of s = grind (arith, nat_tests, in_universe) in
      let has = covered lossless a low in
      let of = map-member (λ (t : TableDesign). attributes t.scheme) tables has.1 (has.0, has.2, has.3) in
      Any-from (λ (table : KeyedScheme). attributes table.scheme a ≡ true) (map keyed tables) (keyed of.0) (Contains-map keyed tables of.0 of.1)
      (ap (λ (x : Attributes). x a) of.2 ∙ has.4))

-- ---- a run
pub migrations_end : (fails : Fails) (cast : Cast) (s : Schema) (names : GivenNames) (plan : List AttrSet) (tables : List TableDesign) (name : List ℕ)
    (cell : ℕ → List ℕ → Cell) (r : Relation) (start : State) → IsPrinted s names plan tables → HoldsSoundRows cast s name cell r tables start
    → NamesAreFree start tables → IsFairEngine fails cast (migration s name tables)
    → (last : State) × (outcome fails cast (migration s name tables) start ≡ ended last)
migrations_end fails cast s names plan tables name cell r start printed rows free fair =
    let own = own_names s names plan tables printed.sound printed.apart printed.few in
    run_ends fails cast s name cell r tables start (record {
      holds = rows.holds;
      whole = rows.whole;
      legal = rows.legal;
      none_missing = rows.none_missing;
      integers = rows.integers;
      tidy = rows.tidy;
      comparable = rows.comparable;
      casts = fair.casts;
      refuses = fair.refuses;
      free = record {
        copy = free.copy;
        view = free.view;
        test = free.test;
        each = free.each;
        not_copy = own.not_copy;
        not_view = own.not_view;
        not_test = own.not_test;
        differ = own.differ;
      };
      fits = fits s names plan tables printed.within printed.sound (readable s names plan tables printed.within printed.sound printed.lossless printed.unhindered);
      lossless = still_lossless s names plan tables printed.within printed.sound printed.lossless;
    })
