-- Each script that `sql migrate` prints is that of a printed design.
use Rattle.std.proofs.Common.{◌≡◌, ◌≤◌, ℕ, List, [], length, None, refl, sym, ap, subst, inl, inr, arith}
use Rattle.std.proofs.lemmas.List.{length-map}
use Rattle.std.proofs.lemmas.List.Elements.{All-contains, All-contains_itself, All-weaker}
use Rattle.std.specs.Prelude.{All, Contains}
use Rattle.attr_sets.specs.Attributes.{Attributes, below, IsSubset}
use Rattle.attr_sets.specs.Sets.{attributes}
use Rattle.attr_sets.specs.declared.set.AttrSet.{AttrSet}
use Rattle.dep_model.specs.Plans.{IsPlan, schemes_of}
use Rattle.dep_model.specs.declared.form.Form.{Form}
use Rattle.dep_model.specs.declared.form.Form.TheVariants.{Third, Bcnf, Fourth}
use Rattle.dep_model.proofs.ListLemmas.{Contains-map}
use Rattle.schema_model.specs.Schemas.{Schema, width_of, universe_of, theory_of, nullable_of}
use Rattle.table_names.specs.TableNames.{GivenNames}
use Rattle.table_names.specs.declared.numbered.TheConstants.{MOST_TABLES}
use Rattle.plan_printer.specs.NamedPlans.{AreApart}
use Rattle.ddl_text.specs.declared.table.TableDesign.{TableDesign}
use Rattle.sql_scripts.specs.Naming.{quoted_table}
use Rattle.desk_responses.specs.ResponseValues.{ResponseValue, Says}
use Rattle.desk_responses.specs.declared.status.Status.TheVariants.{Yes, No, Refused}
use Rattle.desk_designs.specs.Decompositions.{FormStops, IsPlanInForm}
use Rattle.desk_designs.specs.Designs.{IsSoundDesign, AreReadable}
use Rattle.desk_designs.specs.Joins.{LosesNothing}
use Rattle.desk_scripts.specs.Scripts.{MakesTables, ScriptsMigration, ScriptsMigrationByPlan}
use Rattle.implication_laws.proofs.ImplyingLaws.{no_not_yes, refused_not_yes}
use Rattle.plan_laws.proofs.FormPlans.{form_is_plan}
use Rattle.plan_laws.proofs.MissingAnswers.{finds_there, one_design_of}
use Rattle.plan_laws.proofs.NameLaws.{none_given}
use Rattle.plan_laws.proofs.PlanLengths.{form_length, ordered_length}
use Rattle.migration_laws.specs.Ready.{IsPrinted}
use Rattle.migration_laws.specs.Printed.{EndsInFairEngines}
use Rattle.migration_laws.proofs.FitLemmas.{migrations_end}

-- ---- answers that are not yes
not_refused : {A : Type 0} (t : List ℕ) (response : ResponseValue) → Says Refused t response → response.status ≡ Yes → A
not_refused t response says yes_is = absurd (refused_not_yes response yes_is (ap (λ (answer : ResponseValue). answer.status) says))

not_no : {A : Type 0} (t : List ℕ) (response : ResponseValue) → Says No t response → response.status ≡ Yes → A
not_no t response says yes_is = absurd (no_not_yes response yes_is (ap (λ (answer : ResponseValue). answer.status) says))

no_form_stops : {A : Type 0} (s : Schema) (form : Form) (response : ResponseValue) → FormStops s form response → response.status ≡ Yes → A
no_form_stops s Third response stops yes_is = absurd stops
no_form_stops s Bcnf response (inl (scheme, wide, says)) yes_is = not_refused _ response says yes_is
no_form_stops s Bcnf response (inr (many, says)) yes_is = not_refused _ response says yes_is
no_form_stops s Fourth response (inl (scheme, wide, says)) yes_is = not_refused _ response says yes_is
no_form_stops s Fourth response (inr (many, says)) yes_is = not_refused _ response says yes_is

-- ---- a design that is printed
module _ (s : Schema) (names : GivenNames) (plan : List AttrSet) (is_plan : IsPlan (width_of s) (schemes_of plan)) (few : length plan ≤ MOST_TABLES)
    (apart : AreApart names) (lossless : LosesNothing s (schemes_of plan)) where
  within : All (λ scheme. IsSubset (attributes scheme) (universe_of s)) plan
  within =
      All-weaker (Contains plan) (λ scheme. IsSubset (attributes scheme) (universe_of s)) (λ scheme h.
      All-contains (λ (x : Attributes). IsSubset x (below (width_of s))) (schemes_of plan) (attributes scheme) is_plan.within (Contains-map attributes plan scheme h))
      plan (All-contains_itself plan)

  printed : (tables : List TableDesign) → IsSoundDesign s names plan tables → AreReadable s names (schemes_of plan) → IsPrinted s names plan tables
  printed tables sound (designs, is, unhindered) = record {
    within = within;
    sound = sound;
    unhindered = finds_there (nullable_of s) designs tables
        (one_design_of s names (schemes_of plan) designs tables is (record { plan = plan; same = refl; sound = sound })) None unhindered;
    lossless = lossless;
    apart = apart;
    few =
        let no_more = ordered_length (width_of s) (theory_of s) (schemes_of plan) (schemes_of sound.ordered) sound.order in
        let one = length-map sound.ordered attributes in
        let other = length-map plan attributes in
        omega (arith, no_more, one, other, few, sound.design.one_each);
  }

  pub tables_end : (name : List ℕ) (response : ResponseValue) → AreReadable s names (schemes_of plan) → MakesTables s names name plan response
      → EndsInFairEngines s name response
  tables_end name response readable (tables, sound, (script, says)) = (
    tables,
    λ fails cast cell r start rows free fair.
        migrations_end fails cast s names plan tables (quoted_table name) cell r start (printed tables sound readable) rows free fair,
    says,
  )

-- ---- a normal form
form_lossless : (s : Schema) (form : Form) (plan : List AttrSet) → IsPlanInForm s form plan → LosesNothing s (schemes_of plan)
form_lossless s Third plan is = is.lossless
form_lossless s Bcnf plan is = is.lossless
form_lossless s Fourth plan is = is.lossless

pub form_ends : (s : Schema) (form : Form) (name : List ℕ) (response : ResponseValue) → ScriptsMigration s form name response → response.status ≡ Yes
    → EndsInFairEngines s name response
form_ends s form name response (inl (none, says)) yes_is = not_refused _ response says yes_is
form_ends s form name response (inr (named, inl stops)) yes_is = no_form_stops s form response stops yes_is
form_ends s form name response (inr (named, inr (plan, is, inl (tables, design, (refusal, found, says))))) yes_is = not_refused _ response says yes_is
form_ends s form name response (inr (named, inr (plan, is, inr (readable, makes)))) yes_is =
    tables_end s [] plan (form_is_plan s form plan is) (form_length s form plan is) none_given (form_lossless s form plan is) name response readable makes

-- ---- a plan
pub plan_ends : (s : Schema) (names : GivenNames) (schemes : List Attributes) (name : List ℕ) (response : ResponseValue) → IsPlan (width_of s) schemes
    → length schemes ≤ MOST_TABLES → AreApart names → ScriptsMigrationByPlan s names schemes name response → response.status ≡ Yes
    → EndsInFairEngines s name response
plan_ends s names schemes name response is_plan few apart (inl (none, says)) yes_is = not_refused _ response says yes_is
plan_ends s names schemes name response is_plan few apart (inr (named, inl (met, is, says))) yes_is = not_refused _ response says yes_is
plan_ends s names schemes name response is_plan few apart (inr (named, inr (other, inl (tables, design, (refusal, found, says))))) yes_is =
    not_refused _ response says yes_is
plan_ends s names schemes name response is_plan few apart (inr (named, inr (other, inr (readable, inl (inl (small, loses, (rows, shows, says))))))) yes_is =
    not_no _ response says yes_is
plan_ends s names schemes name response is_plan few apart (inr (named, inr (other, inr (readable, inl (inr (large, says)))))) yes_is =
    not_refused _ response says yes_is
plan_ends s names schemes name response is_plan few apart (inr (named, inr (other, inr (readable, inr (shown, (plan, same, makes)))))) yes_is =
    let long = length-map plan attributes in
    let as_many : length (schemes_of plan) ≡ length schemes = ap (λ (xs : List Attributes). length xs) same in
    tables_end s names plan (subst (IsPlan (width_of s)) (sym same) is_plan) (omega (arith, few, long, as_many)) apart
    (subst (LosesNothing s) (sym same) shown.lossless) name response (subst (AreReadable s names) (sym same) readable) makes
