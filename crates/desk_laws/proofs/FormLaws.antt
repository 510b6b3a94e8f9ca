-- Where the files of `form` and `synthesize fewest` have their meaning, they answer yes or no.
use Rattle.std.proofs.Common.{ℕ, List, [], ◌∷◌, inl, inr, ap}
use Rattle.std.specs.Prelude.{All, codes}
use Rattle.std.proofs.lemmas.List.Elements.{All-cons, All-contains, All-nil}
use Rattle.attr_sets.specs.Attributes.{Attributes}
use Rattle.schema_model.specs.Schemas.{Schema, theory_of, universe_of}
use Rattle.fd_closure.specs.LeftSides.{IsWideScheme}
use Rattle.plan_printer.specs.NamedPlans.{NamedSchemes}
use Rattle.desk_outside.specs.Files.{Files}
use Rattle.desk_responses.specs.ResponseValues.{ResponseValue}
use Rattle.desk_designs.specs.FewestTables.{SynthesizesFewest}
use Rattle.desk_designs.specs.FormsOfSchemes.{IsTestable, ListsFormOfAll, ListsFormsOfPlan}
use Rattle.desk_words.specs.Forms.{after_form, after_synthesize, form_of, form_over_schema}
use Rattle.desk_inputs.specs.FileKinds.{IsFile, WithFile}
use Rattle.desk_inputs.specs.Inputs.{schema_file}
use Rattle.desk_inputs.specs.Plans.{plan_file}
use Rattle.desk_inputs.specs.Readings.{known_files}
use Rattle.implication_laws.proofs.OnePlanAnswer.{failing_in_plan}
use Rattle.desk_cli.specs.Performs.{Answers, AnswersPlan, AnswersSchema, Does, Performs}
use Rattle.desk_laws.specs.Completeness.{IsAnswered, IsYesOrNo}
use Rattle.desk_laws.proofs.CompleteLaws.{after_plan, after_schema}
use Rattle.desk_tables.specs.OwnFolders.{Looks}

-- ---- `form`
lists_forms : (s : Schema) (plan : List Attributes) (response : ResponseValue) → All (IsTestable s) plan
    → ListsFormsOfPlan s plan response → IsYesOrNo response.status
lists_forms s plan response narrow (inl (all, (text, are, says))) = inl (ap (λ (a : ResponseValue). a.status) says)
lists_forms s plan response narrow (inr (scheme, first, wide, says)) =
    absurd (All-contains (IsTestable s) plan scheme narrow (failing_in_plan (IsTestable s) plan scheme first) wide)

form_asks : (files : Files) (name : List ℕ) (looks : Looks) (response : ResponseValue)
    → Answers looks (known_files files) (codes "form" ∷ name ∷ []) response
    → WithFile schema_file (known_files files) name ListsFormOfAll response
unfolding form_of form_over_schema after_form Performs Does AnswersSchema AnswersPlan
form_asks files name looks response answered = answered

pub form_answered : (files : Files) (name : List ℕ) (schema : Schema) → IsFile schema_file (known_files files) name schema
    → (IsWideScheme (theory_of schema) (universe_of schema) → ⊥) → IsAnswered files (codes "form" ∷ name ∷ [])
form_answered files name schema file narrow looks response answered =
    lists_forms schema (universe_of schema ∷ []) response
    (All-cons (IsTestable schema) (universe_of schema) [] narrow (All-nil (IsTestable schema)))
    (after_schema files name schema ListsFormOfAll response file (form_asks files name looks response answered))

forms_asks : (files : Files) (name file : List ℕ) (looks : Looks) (response : ResponseValue)
    → Answers looks (known_files files) (codes "form" ∷ name ∷ file ∷ []) response
    → WithFile schema_file (known_files files) name (λ r. WithFile (plan_file r) (known_files files) file (λ p. ListsFormsOfPlan r p.schemes)) response
unfolding form_of form_over_schema after_form Performs Does AnswersSchema AnswersPlan
forms_asks files name file looks response answered = answered

pub forms_answered : (files : Files) (name file : List ℕ) (schema : Schema) (plan : NamedSchemes)
    → IsFile schema_file (known_files files) name schema → IsFile (plan_file schema) (known_files files) file plan
    → All (λ scheme. IsWideScheme (theory_of schema) scheme → ⊥) plan.schemes
    → IsAnswered files (codes "form" ∷ name ∷ file ∷ [])
forms_answered files name file schema plan held_schema held_plan narrow looks response answered =
    lists_forms schema plan.schemes response narrow
    (after_plan files schema file plan (λ p. ListsFormsOfPlan schema p.schemes) response held_plan
    (after_schema files name schema (λ r. WithFile (plan_file r) (known_files files) file (λ p. ListsFormsOfPlan r p.schemes)) response held_schema
    (forms_asks files name file looks response answered)))

-- ---- `synthesize fewest`
fewest_asks : (files : Files) (name : List ℕ) (looks : Looks) (response : ResponseValue)
    → Answers looks (known_files files) (codes "synthesize" ∷ codes "fewest" ∷ name ∷ []) response
    → WithFile schema_file (known_files files) name SynthesizesFewest response
unfolding form_of form_over_schema after_synthesize Performs Does AnswersSchema
fewest_asks files name looks response answered = answered

pub fewest_answered : (files : Files) (name : List ℕ) (schema : Schema) → IsFile schema_file (known_files files) name schema
    → IsAnswered files (codes "synthesize" ∷ codes "fewest" ∷ name ∷ [])
fewest_answered files name schema file looks response answered =
    let found = after_schema files name schema SynthesizesFewest response file (fewest_asks files name looks response answered) in
    inl (ap (λ (a : ResponseValue). a.status) found.2)
