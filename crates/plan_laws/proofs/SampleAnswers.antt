-- `sample` has one answer, since two schemas of the sample have the same names and dependencies.
use Rattle.std.proofs.Common.{◌≡◌, ◌+◌, ◌<◌, ◌^◌, ℕ, false, get_or, List, [], ◌∷◌, length, map, refl, sym, ap, ap₂, subst, ◌∙◌, inl, inr}
use mathlib.Core.Path.{fun_ext}
use Rattle.std.specs.Prelude.{All}
use Rattle.std.proofs.lemmas.Bool.{true≢false}
use Rattle.attr_sets.specs.Attributes.{Attributes, difference}
use Rattle.attr_sets.specs.Sets.{attributes}
use Rattle.attr_sets.specs.declared.set.AttrSet.{AttrSet}
use Rattle.csv_migrate.specs.Migration.{tables_from, JoinIs, ReadsBack}
use Rattle.dep_model.specs.Dependencies.{Dependency}
use Rattle.dep_model.specs.Implication.{IsLegal}
use Rattle.dep_model.specs.Plans.{schemes_of}
use Rattle.dep_model.specs.Projections.{members_below, IsLossless}
use Rattle.schema_model.specs.Schemas.{names_of, naming_of, nullable_of, width_of, theory_of, LegalFor}
use Rattle.dep_model.specs.Tuples.{Relation}
use Rattle.schema_model.specs.declared.naming.Naming.{Naming}
use Rattle.schema_model.specs.Schemas.{Schema}
use Rattle.design_order.specs.Order.{IsInDesignOrder}
use Rattle.named_tables.specs.Tables.{TableValue}
use Rattle.normal_forms.specs.Chosen.{IsInForm}
use Rattle.dep_model.specs.declared.form.Form.TheVariants.{Fourth}
use Rattle.sample_rows.proofs.SampleLemmas.{rows_legal}
use Rattle.sample_rows.specs.Sample.{sample_relation, sample_theory}
use Rattle.schema_printer.specs.Printing.{members_from}
use Rattle.schema_printer.specs.Spelling.{printed_names_of, spelling}
use Rattle.split_forms.specs.Refusals.{IsWithinLimits}
use Rattle.split_forms.specs.Splitting.{HasTooManySchemes, IsSplitPlan, IsTooWideAt}
use Rattle.table_names.specs.TableNames.{name_of_table}
use Rattle.implication_laws.specs.OneAnswer.{AllowsOne}
use Rattle.desk_designs.specs.declared.decomposition.TheConstants.{MOST_SPLIT_SCHEMES}
use Rattle.desk_designs.specs.Decompositions.{IsSplitInForm, SplitStops, WithPlanInForm}
use Rattle.desk_responses.specs.Lines.{too_wide_text}
use Rattle.desk_responses.specs.ResponseValues.{ResponseValue, RespondsWithTables, text_only}
use Rattle.desk_responses.specs.declared.status.Status.TheVariants.{Refused}
use Rattle.lookup_laws.proofs.MissingLemmas.{disjoint_misses_none, empty_is_missing}
use Rattle.optional_tables.specs.Homes.{is_optional}
use Rattle.optional_tables.specs.LookUps.{CanBeReadBack, IsTidyFor, empty_values, rows_for, schemes_of_tables}
use Rattle.optional_tables.specs.declared.keyed.KeyedScheme.{KeyedScheme}
use Rattle.primary_keys.specs.PrimaryKeys.{IsPrimaryKey}
use Rattle.desk_tables.specs.Tidiness.{AreTidy, IsKeyedDesign}
use Rattle.desk_tables.specs.Migrations.{GivesTables, IsSampleSchema, MigratesRows, Samples, migrated_text}
use Rattle.plan_laws.proofs.RowAnswers.{same_migrated}
use Rattle.plan_laws.proofs.SplitAnswers.{one_in_form}

-- ---- two schemas of the sample
module _ (s t : Schema) (first : IsSampleSchema s) (second : IsSampleSchema t) where
  same_names : names_of s ≡ names_of t
  same_names = first.names ∙ sym second.names

  same_printed : printed_names_of s ≡ printed_names_of t
  unfolding printed_names_of
  same_printed =
      ap (λ (naming : Naming). map (spelling naming) (names_of s)) (first.bare ∙ sym second.bare)
      ∙ ap (λ (names : List (List ℕ)). map (spelling (naming_of t)) names) same_names

  -- what is said of the width and the dependencies of the one is said of those of the other
  moved : (P : ℕ → List Dependency → Type 0) → P (width_of s) (theory_of s) → P (width_of t) (theory_of t)
  moved P is =
      subst (λ (ds : List Dependency). P (width_of t) ds) (first.theory ∙ sym second.theory)
      (subst (λ (names : List (List ℕ)). P (length names) (theory_of s)) same_names is)

  stop_moved : (response : ResponseValue) → SplitStops s Fourth response → SplitStops t Fourth response
  stop_moved response (inl (scheme, wide, says)) =
      inl (
        scheme,
        moved (λ n ds. IsTooWideAt n ds Fourth MOST_SPLIT_SCHEMES scheme) wide,
        says ∙ ap (λ (names : List (List ℕ)). text_only Refused (too_wide_text names scheme)) same_printed,
      )
  stop_moved response (inr (many, says)) =
      inr (moved (λ n ds. HasTooManySchemes n ds Fourth MOST_SPLIT_SCHEMES) many, says)

  plan_moved : (plan : List AttrSet) → IsSplitInForm s Fourth plan → IsSplitInForm t Fourth plan
  plan_moved plan is = record {
    split = moved (λ n ds. IsSplitPlan n ds Fourth plan) is.split;
    within_limits = moved (λ n ds. IsWithinLimits n ds Fourth MOST_SPLIT_SCHEMES) is.within_limits;
    lossless = moved (λ n ds. IsLossless n ds (schemes_of plan)) is.lossless;
    in_form = moved (λ n ds. All (IsInForm n ds Fourth) (schemes_of plan)) is.in_form;
  }

  -- a schema of bare names has no value that may be missing
  same_nullable : nullable_of s ≡ nullable_of t
  same_nullable = fun_ext (λ (k : ℕ).
      (s.typed.bare first.bare).none_nullable k ∙ sym ((t.typed.bare second.bare).none_nullable k))

  -- the same where it is also said of the attributes of which a value may be missing
  moved_all : (P : ℕ → List Dependency → Attributes → Type 0) → P (width_of s) (theory_of s) (nullable_of s)
      → P (width_of t) (theory_of t) (nullable_of t)
  moved_all P is =
      moved (λ n ds. P n ds (nullable_of t)) (subst (λ (x : Attributes). P (width_of s) (theory_of s) x) same_nullable is)

  -- the table of a scheme with its key, by the names, the width and what may be missing
  abbrev made : ℕ → KeyedScheme → Relation → List (List ℕ) → ℕ → Attributes → TableValue
  made number table rows names n nullable = record {
    name = name_of_table [] number;
    columns = members_from (attributes table.scheme) 0 names;
    nullable = map (difference nullable (attributes table.key)) (members_below n (attributes table.scheme));
    rows = rows_for (empty_values nullable) rows table;
  }

  same_table : (rows : Relation) (number : ℕ) (table : KeyedScheme)
      → made number table rows (names_of s) (width_of s) (nullable_of s) ≡ made number table rows (names_of t) (width_of t) (nullable_of t)
  same_table rows number table =
      ap (λ (names : List (List ℕ)). made number table rows names (length names) (nullable_of s)) same_names
      ∙ ap (λ (nullable : Attributes). made number table rows (names_of t) (width_of t) nullable) same_nullable

  same_tables : (rows : Relation) (number : ℕ) (design : List KeyedScheme)
      → tables_from s [] rows number design ≡ tables_from t [] rows number design
  same_tables rows number [] = refl
  same_tables rows number (table ∷ design) =
      ap₂ (λ (one : TableValue) (others : List TableValue). one ∷ others) (same_table rows number table)
      (same_tables rows (number + 1) design)

  keyed_moved : (plan : List Attributes) (design : List KeyedScheme) → IsKeyedDesign s plan design → IsKeyedDesign t plan design
  keyed_moved plan design keyed = record {
    order = moved (λ n ds. IsInDesignOrder n ds plan (schemes_of_tables design)) keyed.order;
    keys = moved_all (λ n ds nullable. All (λ (table : KeyedScheme).
        IsPrimaryKey n ds nullable (attributes table.scheme) (attributes table.key)) design) keyed.keys;
  }

  -- so no row misses a value
  all_tidy : (design : List KeyedScheme) (rows : Relation) → All (IsTidyFor (empty_values (nullable_of s)) rows) design
  all_tidy design rows k d l row row_in incomplete =
      absurd (true≢false (sym (disjoint_misses_none (nullable_of s) (empty_values (nullable_of s)) (attributes (get_or design k d).key) row
      (empty_is_missing (nullable_of s)) (λ a m. (s.typed.bare first.bare).none_nullable a)) ∙ incomplete))

  tidy_moved : (plan : List Attributes) (rows : Relation) → AreTidy s plan rows → AreTidy t plan rows
  tidy_moved plan rows (design, keyed, tidy) = (
    design,
    keyed_moved plan design keyed,
    moved_all (λ n ds nullable. All (IsTidyFor (empty_values nullable) rows) design) tidy,
  )

  given_moved : (plan : List Attributes) (rows : Relation) (response : ResponseValue)
      → GivesTables s [] plan rows response → GivesTables t [] plan rows response
  given_moved plan rows response (tables, are, responds) = (
    tables,
    record {
      design = are.design;
      keyed = keyed_moved plan are.design are.keyed;
      projections = are.projections ∙ same_tables rows 0 are.design;
      reads_back = moved_all (λ n ds nullable. CanBeReadBack n ds nullable are.design → ReadsBack n nullable are.design tables rows) are.reads_back;
      joins = moved_all (λ n ds nullable. All (λ (table : KeyedScheme). is_optional nullable table ≡ false) are.design
          → JoinIs n (schemes_of_tables are.design) tables rows) are.joins;
    },
    subst (λ (naming : Naming). RespondsWithTables (migrated_text naming rows tables) tables response)
        (first.bare ∙ sym second.bare) responds,
  )

  legal : (persons : ℕ) → persons < 2 ^ 64 → LegalFor s (sample_relation persons)
  legal persons short =
      subst (λ (ds : List Dependency). IsLegal (width_of s) ds (sample_relation persons)) (sym first.theory)
      (subst (λ (names : List (List ℕ)). IsLegal (length names) sample_theory (sample_relation persons))
      (sym first.names) (rows_legal persons (sample_relation persons) short refl))

  rows_moved : (persons : ℕ) → persons < 2 ^ 64 → (plan : List Attributes) (response : ResponseValue)
      → MigratesRows s [] plan (sample_relation persons) response
      → MigratesRows t [] plan (sample_relation persons) response
  rows_moved persons short plan response (inl stops) = absurd (stops.0 (legal persons short))
  rows_moved persons short plan response (inr (is_legal, inl (design, keyed, (lost, found)))) =
      absurd (lost (all_tidy design (sample_relation persons)))
  rows_moved persons short plan response (inr (is_legal, inr (tidy, given))) =
      inr (
        moved (λ n ds. IsLegal n ds (sample_relation persons)) is_legal,
        inr (tidy_moved plan (sample_relation persons) tidy, given_moved plan (sample_relation persons) response given),
      )

  answer_moved : (persons : ℕ) → persons < 2 ^ 64 → (response : ResponseValue)
      → WithPlanInForm s Fourth (λ plan. MigratesRows s [] (schemes_of plan) (sample_relation persons)) response
      → WithPlanInForm t Fourth (λ plan. MigratesRows t [] (schemes_of plan) (sample_relation persons)) response
  answer_moved persons short response (inl stops) = inl (stop_moved response stops)
  answer_moved persons short response (inr (plan, is, rest)) =
      inr (plan, plan_moved plan is, rows_moved persons short (schemes_of plan) response rest)

-- ---- `sample`
pub one_sampled : (persons : ℕ) → persons < 2 ^ 64 → AllowsOne (Samples persons)
one_sampled persons short one other (s, is, first) (t, also, second) =
    one_in_form t Fourth (λ plan. MigratesRows t [] (schemes_of plan) (sample_relation persons))
    (same_migrated t [] (sample_relation persons)) one other
    (answer_moved s t is also persons short one first) second
