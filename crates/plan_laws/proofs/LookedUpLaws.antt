-- The parts that have the rows of a migration's tables, in whatever order a readable design that has an optional
-- table, are looked up to the rows.
use Rattle.std.proofs.Common.{◌≡◌, ◌<◌, ◌+◌, ◌++◌, ℕ, List, [], ◌∷◌, filter, length, map, sym, ap, subst, ◌∙◌, inl, inr, arith}
use Rattle.std.specs.Prelude.{All, Contains}
use Rattle.std.specs.List.{AllZip}
use Rattle.std.proofs.lemmas.List.{length-map}
use Rattle.std.proofs.lemmas.List.Elements.{All-nil, All-cons, All-contains}
use Rattle.attr_sets.specs.Attributes.{Attributes, IsSubset, below, count_below}
use Rattle.attr_sets.specs.Sets.{attributes}
use Rattle.attr_sets.proofs.AttributesLemmas.{count_below-le}
use Rattle.csv_migrate.specs.Migration.{relations_of}
use Rattle.dep_model.specs.Dependencies.{Dependency}
use Rattle.dep_model.specs.Plans.{IsPlan}
use Rattle.dep_model.specs.Projections.{Covers, ordered_projection, project_tuple, IsLossless}
use Rattle.schema_model.specs.Schemas.{nullable_of, width_of, theory_of, LegalFor}
use Rattle.dep_model.specs.Tuples.{IsOver as HasWidth, Relation, SameRelation, Tuple}
use Rattle.schema_model.specs.Schemas.{Schema}
use Rattle.dep_model.proofs.DistinctLemmas.{filter-member, ordered_projection-same}
use Rattle.dep_model.proofs.ListLemmas.{All-members, Contains-head, Contains-later, Contains-map, map-member}
use Rattle.dep_model.proofs.SchemeLemmas.{length-project_tuple}
use Rattle.design_order.specs.Order.{DeterminesSoMany}
use Rattle.design_order.proofs.OrderLemmas.{order-lossless, order-member}
use Rattle.optional_laws.specs.KeyOrder as law
use Rattle.optional_tables.specs.LookUps.{IsTidyFor, complete_tuples, empty_values, misses_none, rows_for, schemes_of_tables}
use Rattle.optional_tables.specs.declared.keyed.KeyedScheme.{KeyedScheme}
use Rattle.optional_tables.proofs.AlikeLemmas.{IsAlike}
use Rattle.rejoin_laws.proofs.RejoinedLemmas.{HoldsRows, covered_back, covered_there, rows_rejoined}
use Rattle.rejoin_laws.proofs.MovedLemmas.{zip_long}
use Rattle.rejoin_laws.proofs.ZipLemmas.{beside_member, zip_mapped_same, zip_weaker}
use Rattle.rejoin_laws.specs.ByKeys.{IsOver}
use Rattle.table_names.specs.TableNames.{GivenNames}
use Rattle.named_tables.specs.Tables.{TableValue}
use Rattle.table_join.specs.Answers.{IsCovered}
use Rattle.table_join.specs.LookUps.{AreJoinedAndLookedUp}
use Rattle.split_forms.proofs.StepLemmas.{cons-head, cons-tail}
use Rattle.table_join.specs.Tables.{IsTable, PartialRelation, plan_of_tables, rows_of_tables}
use Rattle.table_join.specs.declared.refusal.JoinRefusal.TheVariants.{NotCovered, TooManyRows}
use Rattle.desk_designs.specs.Joins.{LosesNothing}
use Rattle.desk_tables.proofs.OneDesignLemmas.{same_key}
use Rattle.desk_tables.specs.Migrations.{AreTablesOf}
use Rattle.desk_tables.specs.Rejoining.{HaveLookUps, IsKeyedTable, joined_tables, looked_up_tables}
use Rattle.desk_tables.specs.Tidiness.{AreTidy, HasPrimaryKey}
use Rattle.desk_tables.specs.declared.rejoining.TheConstants.{MOST_JOINED_ROWS}
use Rattle.plan_laws.specs.Rejoined.{GivesTheRows, HaveRowsInAnyOrder}
use Rattle.plan_laws.proofs.TidyAnswers.{all_tidy_alike, one_keyed, tidy_alike}
use Rattle.plan_laws.proofs.RejoinedLaws.{keyed_of, more_lossless, relations_from, same_schemes, schemes_among}

-- ---- lists beside one another
pub small_counts : (n : ℕ) (ds : List Dependency) (plan : List Attributes) (counts : List ℕ) → AllZip (DeterminesSoMany n ds) plan counts
    → All (λ (c : ℕ). c < n + 1) counts
small_counts n ds [] [] each = All-nil (λ (c : ℕ). c < n + 1)
small_counts n ds [] (c ∷ cs) each = absurd each
small_counts n ds (x ∷ plan) [] each = absurd each
small_counts n ds (x ∷ plan) (c ∷ cs) each =
    All-cons (λ (c : ℕ). c < n + 1) c cs (omega (arith, each.0.members, count_below-le n each.0.closure)) (small_counts n ds plan cs each.1)

zip_turned : {X Y : Type 0} (R : X → Y → Type 0) (S : Y → X → Type 0) (xs : List X) (ys : List Y)
    → ((x : X) (y : Y) → Contains xs x → R x y → S y x) → AllZip R xs ys → AllZip S ys xs
zip_turned R S [] [] gives each = tt
zip_turned R S [] (y ∷ ys) gives each = absurd each
zip_turned R S (x ∷ xs) [] gives each = absurd each
zip_turned R S (x ∷ xs) (y ∷ ys) gives each =
    (gives x y (Contains-head x xs) each.0, zip_turned R S xs ys (λ a b a_in. gives a b (Contains-later x xs a a_in)) each.1)

-- ---- parts that are looked up
-- a part with the scheme and the rows of a table of the design
pub record IsTableAs (s : Schema) (r : Relation) (part : PartialRelation) (table : KeyedScheme) : Type 0 where
  pub scheme : attributes table.scheme ≡ part.scheme
  pub rows : part.rows ≡ rows_for (empty_values (nullable_of s)) r table

tables_as : (s : Schema) (rows : Relation) (parts : List PartialRelation) (design : List KeyedScheme)
    → schemes_of_tables design ≡ plan_of_tables parts
    → rows_of_tables parts ≡ map (rows_for (empty_values (nullable_of s)) rows) design → AllZip (IsTableAs s rows) parts design
tables_as s rows [] [] schemes are = tt
tables_as s rows [] (d ∷ ds) schemes are = absurd (cc schemes)
tables_as s rows (p ∷ ps) [] schemes are = absurd (cc schemes)
tables_as s rows (p ∷ ps) (d ∷ ds) schemes are = (
  record {
    scheme = cons-head (attributes d.scheme) p.scheme (schemes_of_tables ds) (plan_of_tables ps) schemes;
    rows = cons-head p.rows (rows_for (empty_values (nullable_of s)) rows d) (rows_of_tables ps)
        (map (rows_for (empty_values (nullable_of s)) rows) ds) are;
  },
  tables_as s rows ps ds (cons-tail (attributes d.scheme) p.scheme (schemes_of_tables ds) (plan_of_tables ps) schemes)
      (cons-tail p.rows (rows_for (empty_values (nullable_of s)) rows d) (rows_of_tables ps)
      (map (rows_for (empty_values (nullable_of s)) rows) ds) are),
)

rows_alike : (s : Schema) (rows : Relation) (t u : KeyedScheme) → IsAlike t u
    → rows_for (empty_values (nullable_of s)) rows t ≡ rows_for (empty_values (nullable_of s)) rows u
rows_alike s rows t u alike =
    ap (λ (x : Attributes). ordered_projection x (filter (misses_none (empty_values (nullable_of s)) (attributes t.key)) rows)) alike.scheme
    ∙ ap (λ (x : Attributes). ordered_projection (attributes u.scheme) (filter (misses_none (empty_values (nullable_of s)) x) rows)) alike.key

-- ---- files that are a readable design
files_over : (s : Schema) (parts : List PartialRelation) (keyed : List KeyedScheme) → AllZip (IsKeyedTable s) parts keyed
    → AllZip IsOver keyed parts
files_over s parts keyed keys = zip_turned (IsKeyedTable s) IsOver parts keyed (λ part k part_in is. is.scheme) keys

files_schemes : (s : Schema) (parts : List PartialRelation) (keyed : List KeyedScheme) → AllZip (IsKeyedTable s) parts keyed
    → schemes_of_tables keyed ≡ plan_of_tables parts
files_schemes s parts keyed keys =
    sym (zip_mapped_same (λ (k : KeyedScheme). attributes k.scheme) (λ (p : PartialRelation). p.scheme) keyed parts
    (zip_weaker IsOver (λ (k : KeyedScheme) (p : PartialRelation). p.scheme ≡ attributes k.scheme) (λ k p is. sym is) keyed parts
    (files_over s parts keyed keys)))

pub as_many_counts : (s : Schema) (parts : List PartialRelation) (keyed : List KeyedScheme) (counts : List ℕ)
    → AllZip (IsKeyedTable s) parts keyed
    → AllZip (DeterminesSoMany (width_of s) (theory_of s)) (plan_of_tables parts) counts → length counts ≡ length keyed
as_many_counts s parts keyed counts keys determined =
    sym (zip_long (DeterminesSoMany (width_of s) (theory_of s)) (plan_of_tables parts) counts determined)
    ∙ length-map parts (λ (p : PartialRelation). p.scheme) ∙ zip_long (IsKeyedTable s) parts keyed keys

-- what is joined and what is looked up have the attributes that the files have
module _ (s : Schema) (parts : List PartialRelation) (keyed : List KeyedScheme) (counts : List ℕ)
    (looks : HaveLookUps s parts keyed counts) where
  as_many : length counts ≡ length keyed
  as_many = as_many_counts s parts keyed counts looks.keys looks.determined

  all_small : All (λ (c : ℕ). c < width_of s + 1) counts
  all_small = small_counts (width_of s) (theory_of s) (plan_of_tables parts) counts looks.determined

  pub looked_up_has : (a : ℕ) → IsCovered (plan_of_tables parts) a
      → IsCovered (plan_of_tables (joined_tables s parts keyed ++ looked_up_tables s parts keyed counts)) a
  looked_up_has a has =
      covered_there (width_of s) (nullable_of s) keyed parts counts (files_over s parts keyed looks.keys) as_many all_small a
      (subst (λ (schemes : List Attributes). IsCovered schemes a) (sym (files_schemes s parts keyed looks.keys)) has)

  pub looked_up_back : (a : ℕ) → IsCovered (plan_of_tables (joined_tables s parts keyed ++ looked_up_tables s parts keyed counts)) a
      → IsCovered (plan_of_tables parts) a
  looked_up_back =
      covered_back (width_of s) (nullable_of s) keyed parts counts (files_over s parts keyed looks.keys) as_many all_small

module _ (s : Schema) (names : GivenNames) (plan : List Attributes) (rows : Relation) (tables : List TableValue)
    (parts : List PartialRelation) (lossless : LosesNothing s plan) (planned : IsPlan (width_of s) plan) (legal : LegalFor s rows)
    (tidy : AreTidy s plan rows) (are : AreTablesOf s names plan rows tables) (have : HaveRowsInAnyOrder s plan tables parts) where
  -- the table of the design that a part holds
  table_of_part : (part : PartialRelation) → Contains parts part
      → (d : KeyedScheme) × Contains are.design d × IsTableAs s rows part d
  table_of_part part part_in =
      beside_member (IsTableAs s rows) have.in_order are.design
      (tables_as s rows have.in_order are.design (same_schemes s names plan rows tables have.in_order are have.are)
      (have.are.rows ∙ ap relations_of are.projections ∙ relations_from s names rows 0 are.design))
      part ((have.same part).0 part_in)

  scheme_within : (part : PartialRelation) → Contains parts part → IsSubset part.scheme (below (width_of s))
  scheme_within part part_in =
      All-contains (λ (x : Attributes). IsSubset x (below (width_of s))) plan part.scheme planned.within
      (order-member (width_of s) (theory_of s) plan (plan_of_tables have.in_order) have.are.order part.scheme
      (Contains-map (λ (p : PartialRelation). p.scheme) have.in_order part ((have.same part).0 part_in)))

  is_table : (part : PartialRelation) → Contains parts part → IsTable (width_of s) part
  is_table part part_in =
      let (d, d_in, held) = table_of_part part part_in in
      record {
        within = scheme_within part part_in;
        over = subst (HasWidth (count_below part.scheme (width_of s))) (sym held.rows)
            (subst (λ (x : Attributes). HasWidth (count_below x (width_of s)) (rows_for (empty_values (nullable_of s)) rows d)) held.scheme
            (All-members (λ (t : Tuple). length t ≡ count_below (attributes d.scheme) (width_of s)) (rows_for (empty_values (nullable_of s)) rows d)
            (λ t t_in.
            let (u, u_in, same) = map-member (project_tuple (attributes d.scheme)) (complete_tuples (empty_values (nullable_of s)) d rows) t
            ((ordered_projection-same (attributes d.scheme) (complete_tuples (empty_values (nullable_of s)) d rows) t).1 t_in) in
            let in_rows = (filter-member (misses_none (empty_values (nullable_of s)) (attributes d.key)) rows u u_in).0 in
            ap length (sym same) ∙ length-project_tuple (attributes d.scheme) u
            ∙ ap (λ (m : ℕ). count_below (attributes d.scheme) m)
            (All-contains (λ (z : Tuple). length z ≡ width_of s) rows u legal.over in_rows))));
      }

  module _ (keyed : List KeyedScheme) (counts : List ℕ) (looks : HaveLookUps s parts keyed counts) where
    part_of : (k : KeyedScheme) → Contains keyed k → (part : PartialRelation) × Contains parts part × IsKeyedTable s part k
    part_of = keyed_of s parts keyed looks.keys

    same_as : (part : PartialRelation) (k : KeyedScheme) (d : KeyedScheme) → Contains are.design d → IsTableAs s rows part d
        → IsKeyedTable s part k → IsAlike d k
    same_as part k d d_in held is =
        same_key s d k (held.scheme ∙ sym is.scheme) (All-contains (HasPrimaryKey s) are.design d are.keyed.keys d_in) is.key

    holds : AllZip (HoldsRows (nullable_of s) rows) keyed parts
    holds = zip_turned (IsKeyedTable s) (HoldsRows (nullable_of s) rows) parts keyed (λ part k part_in is.
        let (d, d_in, held) = table_of_part part part_in in
        record {
          over = is.scheme;
          rows = held.rows ∙ rows_alike s rows d k (same_as part k d d_in held is);
        }) looks.keys

    keys : (t : KeyedScheme) → Contains keyed t → law.HasPrimaryKey (width_of s) (theory_of s) (nullable_of s) t
    keys t t_in =
        let (part, part_in, is) = part_of t t_in in
        record {
          universe = subst (λ (x : Attributes). IsSubset x (below (width_of s))) (sym is.scheme) (scheme_within part part_in);
          key = is.key;
        }

    each_tidy : All (IsTidyFor (empty_values (nullable_of s)) rows) keyed
    each_tidy = All-members (IsTidyFor (empty_values (nullable_of s)) rows) keyed (λ k k_in.
        let (part, part_in, is) = part_of k k_in in
        let (d, d_in, held) = table_of_part part part_in in
        tidy_alike (empty_values (nullable_of s)) rows d k (same_as part k d d_in held is)
        (All-contains (IsTidyFor (empty_values (nullable_of s)) rows) are.design d
        (all_tidy_alike (empty_values (nullable_of s)) rows tidy.0 are.design
        (one_keyed s plan tidy.0 are.design tidy.1 are.keyed) tidy.2) d_in))

    files_lossless : IsLossless (width_of s) (theory_of s) (plan_of_tables parts)
    files_lossless =
        more_lossless (width_of s) (theory_of s) (plan_of_tables have.in_order) (plan_of_tables parts)
        (schemes_among have.in_order parts (λ part has. (have.same part).1 has))
        (order-lossless (width_of s) (theory_of s) (theory_of s) plan (plan_of_tables have.in_order) have.are.order lossless)

    covered : Covers (width_of s) (plan_of_tables (joined_tables s parts keyed ++ looked_up_tables s parts keyed counts))
    covered a low = looked_up_has s parts keyed counts looks a (files_lossless.covers a low)

    read : (found : Relation) → AreJoinedAndLookedUp (width_of s) (nullable_of s) MOST_JOINED_ROWS (joined_tables s parts keyed)
        (looked_up_tables s parts keyed counts) found → SameRelation found rows
    read found is t =
        rows_rejoined (width_of s) (nullable_of s) keyed parts counts (files_over s parts keyed looks.keys)
        (as_many s parts keyed counts looks) (all_small s parts keyed counts looks) MOST_JOINED_ROWS (theory_of s) rows holds (All-members (IsTable (width_of s)) parts is_table) keys looks.readable legal
        (subst (IsLossless (width_of s) (theory_of s)) (sym (files_schemes s parts keyed looks.keys)) files_lossless) each_tidy
        found is t

  pub looked_up_again : (keyed : List KeyedScheme) (counts : List ℕ) → HaveLookUps s parts keyed counts → GivesTheRows s parts rows
  looked_up_again keyed counts looks response (inr (none, joins)) = absurd (none keyed counts looks)
  looked_up_again keyed counts looks response (inl (others, (numbers, also, inl (found, is, says)))) =
      inl (found, read others numbers also found is.joined, is.once, says)
  looked_up_again keyed counts looks response (inl (others, (numbers, also, inr (NotCovered a, refused, says)))) =
      absurd (refused.uncovered (covered others numbers also a refused.within))
  looked_up_again keyed counts looks response (inl (others, (numbers, also, inr (TooManyRows k, refused, says)))) = inr (k, says)
