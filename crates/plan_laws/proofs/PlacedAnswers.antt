-- `migrate` has one answer beside the files that are read.
use Rattle.std.proofs.Common.{◌≡◌, ℕ, List, [], ◌∷◌, length, sym, subst, ◌∙◌}
use Rattle.attr_sets.specs.Attributes.{Attributes}
use Rattle.attr_sets.specs.declared.set.AttrSet.{AttrSet}
use Rattle.dep_model.specs.Plans.{schemes_of}
use Rattle.dep_model.specs.Tuples.{Relation}
use Rattle.schema_model.specs.Schemas.{Schema}
use Rattle.table_names.specs.TableNames.{GivenNames}
use Rattle.implication_laws.specs.OneAnswer.{AllowsOne}
use Rattle.implication_laws.proofs.StepLaws.{Unless-one}
use Rattle.dep_model.specs.declared.form.Form.{Form}
use Rattle.desk_designs.specs.Designs.{WithoutMissing}
use Rattle.desk_responses.specs.ResponseValues.{Allowed, ResponseValue}
use Rattle.desk_tables.specs.Migrations.{MigratesPlan, MigratesRows}
use Rattle.desk_tables.specs.Overwriting.{IsTableFile, KeepsFiles, MigratesHere, MigratesPlanHere, OverStops}
use Rattle.plan_laws.proofs.MissingAnswers.{one_without_missing, same_without_missing}
use Rattle.plan_laws.proofs.RowAnswers.{one_migrated, one_plan_migrated}
use Rattle.plan_laws.proofs.SplitAnswers.{one_in_form}

one_over : (names : GivenNames) (tables : ℕ) (file : List ℕ) → AllowsOne (OverStops names tables file)
one_over names tables file one other (is, says) (also, said) = says ∙ sym said

one_keeping : (names : GivenNames) (tables : ℕ) (files : List (List ℕ)) (rest : Allowed) → AllowsOne rest
    → AllowsOne (KeepsFiles names tables files rest)
one_keeping names tables [] rest one_rest = one_rest
one_keeping names tables (file ∷ files) rest one_rest =
    Unless-one (OverStops names tables file) (IsTableFile names tables file → ⊥) (KeepsFiles names tables files rest)
    (one_over names tables file) (λ response stays stops. stays stops.0)
    (λ stays. one_keeping names tables files rest one_rest)

same_here : (s : Schema) (names : GivenNames) (files : List (List ℕ)) (rows : Relation) (plan others : List AttrSet)
    (one other : ResponseValue) → schemes_of plan ≡ schemes_of others
    → KeepsFiles names (length (schemes_of plan)) files (MigratesRows s names (schemes_of plan) rows) one
    → KeepsFiles names (length (schemes_of others)) files (MigratesRows s names (schemes_of others) rows) other → one ≡ other
same_here s names files rows plan others one other at first second =
    one_keeping names (length (schemes_of plan)) files (MigratesRows s names (schemes_of plan) rows)
    (one_migrated s names (schemes_of plan) rows) one other first
    (subst (λ (schemes : List Attributes). KeepsFiles names (length schemes) files (MigratesRows s names schemes rows) other)
    (sym at) second)

pub one_form_placed : (s : Schema) (form : Form) (files : List (List ℕ)) (rows : Relation)
    → AllowsOne (MigratesHere s form files rows)
one_form_placed s form files rows =
    one_in_form s form
    (λ plan. WithoutMissing s [] (schemes_of plan)
    (KeepsFiles [] (length (schemes_of plan)) files (MigratesRows s [] (schemes_of plan) rows)))
    (same_without_missing s []
    (λ plan. KeepsFiles [] (length (schemes_of plan)) files (MigratesRows s [] (schemes_of plan) rows))
    (same_here s [] files rows))

pub one_plan_placed : (s : Schema) (names : GivenNames) (plan : List Attributes) (files : List (List ℕ)) (rows : Relation)
    → AllowsOne (MigratesPlanHere s names plan files rows)
one_plan_placed s names plan files rows =
    one_without_missing s names plan (KeepsFiles names (length plan) files (MigratesPlan s names plan rows))
    (one_keeping names (length plan) files (MigratesPlan s names plan rows) (one_plan_migrated s names plan rows))
