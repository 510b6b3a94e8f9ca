-- `ddl`, `draw` and `sql` have one answer each.
use Rattle.std.proofs.Common.{◌≡◌, ℕ, IsTrue, None, Some, List, [], ap, sym, ◌∙◌}
use Rattle.attr_sets.specs.Attributes.{Attributes}
use Rattle.attr_sets.specs.declared.set.AttrSet.{AttrSet}
use Rattle.dep_model.specs.Plans.{schemes_of}
use Rattle.schema_model.specs.Schemas.{Schema}
use Rattle.dep_model.specs.declared.form.Form.{Form}
use Rattle.sql_scripts.specs.Naming.{is_table_name, met_name, quoted_table}
use Rattle.table_names.specs.TableNames.{GivenNames}
use Rattle.implication_laws.specs.OneAnswer.{AllowsOne}
use Rattle.implication_laws.proofs.StepLaws.{same_says, Unless-one}
use Rattle.desk_responses.specs.ResponseValues.{ResponseValue, Allowed, Unless, text_only}
use Rattle.desk_responses.specs.declared.status.Status.TheVariants.{Yes, Refused}
use Rattle.desk_designs.specs.Designs.{WithoutMissing, WritesTables, WritesForm, WritesSchemes, WritesPlan}
use Rattle.desk_designs.specs.Drawings.{DrawsTables, DrawsForm, DrawsSchemes}
use Rattle.desk_designs.specs.Joins.{IsShownLossless, LossStops, WithoutLoss}
use Rattle.desk_scripts.specs.Scripts.{AsksTable, MeasuresTable, MetNameStops, MakesSchemes, MakesTables, ScriptsCheck, ScriptsMeasure, ScriptsMigration, ScriptsMigrationByPlan, TableNameStops, WithTableName, met_table_text}
use Rattle.desk_designs.specs.Decompositions.{WithPlanInForm}
use Rattle.plan_laws.proofs.DesignTexts.{ddl_same, drawing_same}
use Rattle.plan_laws.proofs.MissingAnswers.{one_without_missing, same_without_missing}
use Rattle.plan_laws.proofs.ScriptTexts.{script_same}
use Rattle.plan_laws.proofs.OneDesign.{one_sound_design}
use Rattle.plan_laws.proofs.SplitAnswers.{one_in_form}
use Rattle.plan_laws.proofs.UniqueLaws.{loss_goes, one_loss_stop}

-- after the test of a plan there is one answer
pub one_without_loss : (s : Schema) (plan : List Attributes) (rest : Allowed) → AllowsOne rest
    → AllowsOne (WithoutLoss s plan rest)
one_without_loss s plan rest one_rest =
    Unless-one (LossStops s plan) (IsShownLossless s plan) rest (one_loss_stop s plan)
    (λ response shown stops. loss_goes s plan response shown stops) (λ shown. one_rest)

-- ---- `ddl`
one_written : (s : Schema) (names : GivenNames) (plan others : List AttrSet) (one other : ResponseValue)
    → schemes_of plan ≡ schemes_of others → WritesTables s names plan one → WritesTables s names others other → one ≡ other
one_written s names plan others one other at (tables, sound, says) (designs, also, said) =
    same_says Yes _ _ one other says said
    (ddl_same s tables designs (one_sound_design s names plan others tables designs at sound also))

pub one_form_written : (s : Schema) (form : Form) → AllowsOne (WritesForm s form)
one_form_written s form =
    one_in_form s form (λ plan. WithoutMissing s [] (schemes_of plan) (WritesTables s [] plan))
    (same_without_missing s [] (WritesTables s []) (one_written s []))

one_schemes_written : (s : Schema) (names : GivenNames) (schemes : List Attributes) → AllowsOne (WritesSchemes s names schemes)
one_schemes_written s names schemes one other (plan, is, written) (others, also, again) =
    one_written s names plan others one other (is ∙ sym also) written again

pub one_plan_written : (s : Schema) (names : GivenNames) (schemes : List Attributes) → AllowsOne (WritesPlan s names schemes)
one_plan_written s names schemes =
    one_without_missing s names schemes (WithoutLoss s schemes (WritesSchemes s names schemes))
    (one_without_loss s schemes (WritesSchemes s names schemes) (one_schemes_written s names schemes))

-- ---- `draw`
one_drawn : (s : Schema) (names : GivenNames) (plan others : List AttrSet) (one other : ResponseValue)
    → schemes_of plan ≡ schemes_of others → DrawsTables s names plan one → DrawsTables s names others other → one ≡ other
one_drawn s names plan others one other at (tables, sound, says) (designs, also, said) =
    same_says Yes _ _ one other says said
    (drawing_same s tables designs (one_sound_design s names plan others tables designs at sound also))

pub one_form_drawn : (s : Schema) (form : Form) → AllowsOne (DrawsForm s form)
one_form_drawn s form = one_in_form s form (DrawsTables s []) (one_drawn s [])

pub one_plan_drawn : (s : Schema) (names : GivenNames) (schemes : List Attributes) → AllowsOne (DrawsSchemes s names schemes)
one_plan_drawn s names schemes one other (plan, is, drawn) (others, also, again) =
    one_drawn s names plan others one other (is ∙ sym also) drawn again

-- ---- `sql`
one_after_name : (name : List ℕ) (rest : Allowed) → AllowsOne rest → AllowsOne (WithTableName name rest)
one_after_name name rest one_rest =
    Unless-one (TableNameStops name) (IsTrue (is_table_name name)) rest (λ one other stops also. stops.1 ∙ sym also.1)
    (λ response named stops. stops.0 named) (λ named. one_rest)

pub one_check_scripted : (s : Schema) (name : List ℕ) → AllowsOne (ScriptsCheck s name)
one_check_scripted s name =
    one_after_name name (AsksTable s name) (λ one other first second. first.1 ∙ sym second.1)

pub one_measure_scripted : (s : Schema) (name : List ℕ) → AllowsOne (ScriptsMeasure s name)
one_measure_scripted s name =
    one_after_name name (MeasuresTable s name) (λ one other first second. first.1 ∙ sym second.1)

one_made : (s : Schema) (names : GivenNames) (name : List ℕ) (plan others : List AttrSet) (one other : ResponseValue)
    → schemes_of plan ≡ schemes_of others → MakesTables s names name plan one → MakesTables s names name others other
    → one ≡ other
one_made s names name plan others one other at (tables, sound, (script, says)) (designs, also, (second, said)) =
    same_says Yes _ _ one other says said
    (script_same s (quoted_table name) tables designs
    (one_sound_design s names plan others tables designs at sound also))

pub one_form_scripted : (s : Schema) (form : Form) (name : List ℕ) → AllowsOne (ScriptsMigration s form name)
one_form_scripted s form name =
    one_after_name name
    (WithPlanInForm s form (λ plan. WithoutMissing s [] (schemes_of plan) (MakesTables s [] name plan)))
    (one_in_form s form (λ plan. WithoutMissing s [] (schemes_of plan) (MakesTables s [] name plan))
    (same_without_missing s [] (MakesTables s [] name) (one_made s [] name)))

one_schemes_made : (s : Schema) (names : GivenNames) (name : List ℕ) (schemes : List Attributes) → AllowsOne (MakesSchemes s names name schemes)
one_schemes_made s names name schemes one other (plan, is, made) (others, also, again) =
    one_made s names name plan others one other (is ∙ sym also) made again

-- a word has one name of a table that it is refused for
one_met : (names : GivenNames) (name : List ℕ) (one other : ResponseValue) → MetNameStops names name one → MetNameStops names name other
    → one ≡ other
one_met names name one other (met, is, says) (again, also, said) =
    let same : met ≡ again = let both : Some met ≡ Some again = sym is ∙ also in cc in
    says ∙ ap (λ (n : List ℕ). text_only Refused (met_table_text n)) same ∙ sym said

pub one_plan_scripted : (s : Schema) (names : GivenNames) (schemes : List Attributes) (name : List ℕ)
    → AllowsOne (ScriptsMigrationByPlan s names schemes name)
one_plan_scripted s names schemes name =
    one_after_name name
    (Unless (MetNameStops names name) (met_name names name ≡ None)
    (WithoutMissing s names schemes (WithoutLoss s schemes (MakesSchemes s names name schemes))))
    (Unless-one (MetNameStops names name) (met_name names name ≡ None)
    (WithoutMissing s names schemes (WithoutLoss s schemes (MakesSchemes s names name schemes)))
    (λ one other stops also. one_met names name one other stops also)
    (λ response free stops. let never : Some stops.0 ≡ None = sym stops.1 ∙ free in cc)
    (λ free. one_without_missing s names schemes (WithoutLoss s schemes (MakesSchemes s names name schemes))
    (one_without_loss s schemes (MakesSchemes s names name schemes) (one_schemes_made s names name schemes))))
