-- `migrate` into a folder of its own has one answer, where a look at a name has one.
use Rattle.std.proofs.Common.{◌≡◌, ℕ, true, List, [], inl, inr, sym, ap, ◌∙◌}
use Rattle.std.specs.Prelude.{IsTrue}
use Rattle.attr_sets.specs.Attributes.{Attributes}
use Rattle.attr_sets.specs.declared.set.AttrSet.{AttrSet}
use Rattle.dep_model.specs.Plans.{schemes_of}
use Rattle.dep_model.specs.Tuples.{Relation}
use Rattle.schema_model.specs.Schemas.{Schema}
use Rattle.table_names.specs.TableNames.{GivenNames}
use Rattle.implication_laws.specs.OneAnswer.{AllowsOne}
use Rattle.implication_laws.proofs.StepLaws.{Unless-one}
use Rattle.dep_model.specs.declared.form.Form.{Form}
use Rattle.desk_responses.specs.ResponseValues.{OwnFolder, ResponseValue, Unless, in_own_folder}
use Rattle.desk_tables.specs.OwnFolders.{FolderStops, HasOneLook, IsFolderOf, Looks, MigratesInto, MigratesPlanInto, MigratesRowsInto, MigratesSchemesInto}
use Rattle.desk_designs.specs.Designs.{WithoutMissing}
use Rattle.desk_designs.specs.Joins.{WithoutLoss}
use Rattle.plan_laws.proofs.DesignAnswers.{one_without_loss}
use Rattle.plan_laws.proofs.DesignTexts.{ddl_same}
use Rattle.plan_laws.proofs.MissingAnswers.{one_without_missing, same_without_missing}
use Rattle.plan_laws.proofs.OneDesign.{one_sound_design}
use Rattle.plan_laws.proofs.RowAnswers.{same_migrated}
use Rattle.plan_laws.proofs.SplitAnswers.{one_in_form}

one_folder : (s : Schema) (names : GivenNames) (plan others : List AttrSet) (name : List ℕ) (folder other : OwnFolder)
    → schemes_of plan ≡ schemes_of others → IsFolderOf s names plan name folder → IsFolderOf s names others name other
    → folder ≡ other
one_folder s names plan others name folder other at is also =
    let named : folder.name ≡ other.name = is.named ∙ sym also.named in
    let scripted : folder.script ≡ other.script =
    is.script ∙ ddl_same s is.tables also.tables (one_sound_design s names plan others is.tables also.tables at is.sound also.sound)
    ∙ sym also.script in
    ap (λ (name : List ℕ). record { name = name; script = folder.script }) named
    ∙ ap (λ (script : List ℕ). record { name = other.name; script = script }) scripted

one_rows_into : (s : Schema) (names : GivenNames) (name : List ℕ) (rows : Relation) (plan others : List AttrSet) (one other : ResponseValue)
    → schemes_of plan ≡ schemes_of others → MigratesRowsInto s names plan name rows one → MigratesRowsInto s names others name rows other
    → one ≡ other
one_rows_into s names name rows plan others one other at (folder, is, (plain, answers, says)) (another, also, (simple, again, said)) =
    says
    ∙ ap (λ (f : OwnFolder). in_own_folder f plain) (one_folder s names plan others name folder another at is also)
    ∙ ap (in_own_folder another) (same_migrated s names rows plan others plain simple at answers again)
    ∙ sym said

one_folder_stop : (looks : Looks) (name : List ℕ) → AllowsOne (FolderStops looks name)
one_folder_stop looks name one other (taken, says) (again, said) = says ∙ sym said

same_into : (looks : Looks) (s : Schema) (names : GivenNames) (name : List ℕ) (rows : Relation) → HasOneLook looks → (plan others : List AttrSet)
    (one other : ResponseValue) → schemes_of plan ≡ schemes_of others
    → Unless (FolderStops looks name) (IsTrue (looks name true)) (MigratesRowsInto s names plan name rows) one
    → Unless (FolderStops looks name) (IsTrue (looks name true)) (MigratesRowsInto s names others name rows) other → one ≡ other
same_into looks s names name rows single plan others one other at (inl stops) (inl stopped) =
    one_folder_stop looks name one other stops stopped
same_into looks s names name rows single plan others one other at (inl stops) (inr (free, answers)) =
    absurd (single name free stops.0)
same_into looks s names name rows single plan others one other at (inr (free, answers)) (inl stops) =
    absurd (single name free stops.0)
same_into looks s names name rows single plan others one other at (inr (free, answers)) (inr (also, again)) =
    one_rows_into s names name rows plan others one other at answers again

pub one_form_into : (looks : Looks) (s : Schema) (form : Form) (name : List ℕ) (rows : Relation) → HasOneLook looks
    → AllowsOne (MigratesInto looks s form name rows)
one_form_into looks s form name rows single =
    one_in_form s form
    (λ plan. WithoutMissing s [] (schemes_of plan)
    (Unless (FolderStops looks name) (IsTrue (looks name true)) (MigratesRowsInto s [] plan name rows)))
    (same_without_missing s []
    (λ plan. Unless (FolderStops looks name) (IsTrue (looks name true)) (MigratesRowsInto s [] plan name rows))
    (same_into looks s [] name rows single))

one_schemes_into : (s : Schema) (names : GivenNames) (schemes : List Attributes) (name : List ℕ) (rows : Relation)
    → AllowsOne (MigratesSchemesInto s names schemes name rows)
one_schemes_into s names schemes name rows one other (plan, is, answers) (others, also, again) =
    one_rows_into s names name rows plan others one other (is ∙ sym also) answers again

pub one_plan_into : (looks : Looks) (s : Schema) (names : GivenNames) (plan : List Attributes) (name : List ℕ) (rows : Relation)
    → HasOneLook looks → AllowsOne (MigratesPlanInto looks s names plan name rows)
one_plan_into looks s names plan name rows single =
    one_without_missing s names plan
    (Unless (FolderStops looks name) (IsTrue (looks name true)) (WithoutLoss s plan (MigratesSchemesInto s names plan name rows)))
    (Unless-one (FolderStops looks name) (IsTrue (looks name true)) (WithoutLoss s plan (MigratesSchemesInto s names plan name rows))
    (one_folder_stop looks name) (λ response free stops. single name free stops.0)
    (λ free. one_without_loss s plan (MigratesSchemesInto s names plan name rows) (one_schemes_into s names plan name rows)))
