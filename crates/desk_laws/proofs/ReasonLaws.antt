-- Where the schema file means a schema, and the command itself is answered, it is explained.
use Rattle.std.proofs.Common.{ℕ, List, [], ◌∷◌, inl, inr, ap, sym, subst, ◌∙◌}
use Rattle.std.specs.Prelude.{codes}
use Rattle.schema_model.specs.Schemas.{Schema, theory_in}
use Rattle.key_listing.specs.Refusals.{IsTooWide}
use Rattle.dep_model.specs.Dependencies.{Dependency}
use Rattle.desk_arguments.specs.Goals.{IsGoal, WithGoal}
use Rattle.desk_cli.specs.Performs.{Answers, Performs, Does, AnswersSchema}
use Rattle.desk_covers.specs.CoverReasons.{AreCoverReasons, ExplainsCover}
use Rattle.desk_covers.specs.Covering.{GivesCover}
use Rattle.desk_implication.specs.Explanations.{ExplainsGoal}
use Rattle.desk_keys.specs.KeyReasons.{AreKeyReasons, ExplainsKeys}
use Rattle.desk_keys.specs.Keys.{HasManyKeys, ListsKeys}
use Rattle.desk_inputs.specs.FileKinds.{IsFile, WithFile}
use Rattle.desk_inputs.specs.Inputs.{schema_file}
use Rattle.desk_inputs.specs.Readings.{known_files}
use Rattle.desk_outside.specs.Files.{Files}
use Rattle.desk_designs.specs.Decompositions.{IsSplitInForm, SplitStops, ShowsPlan, WithPlanInForm}
use Rattle.desk_designs.specs.FewestReasons.{AreFewestReasons, ExplainsFewest}
use Rattle.desk_designs.specs.FewestTables.{SynthesizesFewest}
use Rattle.desk_designs.specs.Synthesis.{Synthesizes}
use Rattle.desk_designs.specs.SplitReasons.{AreSplitReasons, ExplainsCuts}
use Rattle.desk_designs.specs.SynthesisReasons.{AreSynthesisReasons, ExplainsSynthesis}
use Rattle.desk_responses.specs.Reasons.{Explained}
use Rattle.desk_responses.specs.ResponseValues.{ResponseValue, Allowed, With}
use Rattle.dep_model.specs.declared.form.Form.{Form}
use Rattle.dep_model.specs.declared.form.Form.TheVariants.{Bcnf, Fourth}
use Rattle.desk_responses.specs.declared.status.Status.{Status}
use Rattle.desk_words.specs.Forms.{form_of, form_over_schema, after_explain, after_explain_split, after_explain_synthesize, schema_alone, schema_and_word}
use Rattle.desk_laws.specs.Completeness.{IsYesOrNo, IsAnswered, HasPlanInForm}
use Rattle.desk_laws.proofs.CompleteLaws.{Decided-yes_or_no, after_goal, after_schema, lists_keys}
use Rattle.desk_laws.proofs.TableLaws.{after_form}
use Rattle.desk_tables.specs.OwnFolders.{Looks}

Explained-yes_or_no : (AreReasons : List ℕ → Type 0) (answers : Allowed) (response : ResponseValue)
    → ((plain : ResponseValue) → answers plain → IsYesOrNo plain.status)
    → Explained AreReasons answers response → IsYesOrNo response.status
Explained-yes_or_no AreReasons answers response go (plain, is, inl (agrees, (reasons, are, reads))) =
    inl (ap (λ (r : ResponseValue). r.status) reads ∙ agrees)
Explained-yes_or_no AreReasons answers response go (plain, is, inr (stops, same)) =
    subst (λ (status : Status). IsYesOrNo status) (sym (ap (λ (r : ResponseValue). r.status) same)) (go plain is)

ExplainsGoal-yes_or_no : (r : Schema) (d : Dependency) (response : ResponseValue) → ExplainsGoal r d response
    → IsYesOrNo response.status
ExplainsGoal-yes_or_no r d response (inl (implied, (lines, found, says))) = inl (ap (λ (a : ResponseValue). a.status) says)
ExplainsGoal-yes_or_no r d response (inr (broken, found)) = Decided-yes_or_no r d response found

implies_asks : (files : Files) (name goal : List ℕ) (looks : Looks) (response : ResponseValue)
    → Answers looks (known_files files) (codes "explain" ∷ codes "implies" ∷ name ∷ goal ∷ []) response
    → WithFile schema_file (known_files files) name (λ r. WithGoal r goal (ExplainsGoal r)) response
unfolding form_of form_over_schema after_explain schema_and_word Performs Does AnswersSchema
implies_asks files name goal looks response answered = answered

pub implies_explained : (files : Files) (name goal : List ℕ) (schema : Schema) (dep : Dependency)
    → IsFile schema_file (known_files files) name schema → IsGoal schema goal dep
    → IsAnswered files (codes "explain" ∷ codes "implies" ∷ name ∷ goal ∷ [])
implies_explained files name goal schema dep file is looks response answered =
    ExplainsGoal-yes_or_no schema dep response
    (after_goal schema goal dep (ExplainsGoal schema) response is
    (after_schema files name schema (λ r. WithGoal r goal (ExplainsGoal r)) response file
    (implies_asks files name goal looks response answered)))

cover_asks : (files : Files) (name : List ℕ) (looks : Looks) (response : ResponseValue)
    → Answers looks (known_files files) (codes "explain" ∷ codes "cover" ∷ name ∷ []) response
    → WithFile schema_file (known_files files) name ExplainsCover response
unfolding form_of form_over_schema after_explain schema_alone Performs Does AnswersSchema
cover_asks files name looks response answered = answered

pub cover_explained : (files : Files) (name : List ℕ) (schema : Schema) → IsFile schema_file (known_files files) name schema
    → IsAnswered files (codes "explain" ∷ codes "cover" ∷ name ∷ [])
cover_explained files name schema file looks response answered =
    Explained-yes_or_no (AreCoverReasons schema) (GivesCover schema) response
    (λ plain is. inl (ap (λ (a : ResponseValue). a.status) is.4))
    (after_schema files name schema ExplainsCover response file (cover_asks files name looks response answered))

keys_asks : (files : Files) (name : List ℕ) (looks : Looks) (response : ResponseValue)
    → Answers looks (known_files files) (codes "explain" ∷ codes "keys" ∷ name ∷ []) response
    → WithFile schema_file (known_files files) name ExplainsKeys response
unfolding form_of form_over_schema after_explain schema_alone Performs Does AnswersSchema
keys_asks files name looks response answered = answered

pub keys_explained : (files : Files) (name : List ℕ) (schema : Schema) → IsFile schema_file (known_files files) name schema
    → (IsTooWide (theory_in schema) → ⊥) → (HasManyKeys schema → ⊥)
    → IsAnswered files (codes "explain" ∷ codes "keys" ∷ name ∷ [])
keys_explained files name schema file narrow within_limit looks response answered =
    Explained-yes_or_no (AreKeyReasons schema) (ListsKeys schema) response
    (λ plain is. lists_keys schema plain narrow within_limit is)
    (after_schema files name schema ExplainsKeys response file (keys_asks files name looks response answered))

synthesis_asks : (files : Files) (name : List ℕ) (looks : Looks) (response : ResponseValue)
    → Answers looks (known_files files) (codes "explain" ∷ codes "synthesize" ∷ name ∷ []) response
    → WithFile schema_file (known_files files) name ExplainsSynthesis response
unfolding form_of form_over_schema after_explain after_explain_synthesize Performs Does AnswersSchema
synthesis_asks files name looks response answered = answered

pub synthesis_explained : (files : Files) (name : List ℕ) (schema : Schema)
    → IsFile schema_file (known_files files) name schema
    → IsAnswered files (codes "explain" ∷ codes "synthesize" ∷ name ∷ [])
synthesis_explained files name schema file looks response answered =
    Explained-yes_or_no (AreSynthesisReasons schema) (Synthesizes schema) response
    (λ plain is. inl (ap (λ (a : ResponseValue). a.status) is.2))
    (after_schema files name schema ExplainsSynthesis response file (synthesis_asks files name looks response answered))

fewest_asks : (files : Files) (name : List ℕ) (looks : Looks) (response : ResponseValue)
    → Answers looks (known_files files) (codes "explain" ∷ codes "synthesize" ∷ codes "fewest" ∷ name ∷ []) response
    → WithFile schema_file (known_files files) name ExplainsFewest response
unfolding form_of form_over_schema after_explain after_explain_synthesize Performs Does AnswersSchema
fewest_asks files name looks response answered = answered

pub fewest_explained : (files : Files) (name : List ℕ) (schema : Schema)
    → IsFile schema_file (known_files files) name schema
    → IsAnswered files (codes "explain" ∷ codes "synthesize" ∷ codes "fewest" ∷ name ∷ [])
fewest_explained files name schema file looks response answered =
    Explained-yes_or_no (AreFewestReasons schema) (SynthesizesFewest schema) response
    (λ plain is. inl (ap (λ (a : ResponseValue). a.status) is.2))
    (after_schema files name schema ExplainsFewest response file (fewest_asks files name looks response answered))

-- a split of a form below how it comes about, where splitting meets no limit
cuts_said : (s : Schema) (form : Form) (response : ResponseValue) → HasPlanInForm s form
    → ((response : ResponseValue) → With (SplitStops s form) (IsSplitInForm s form) (ShowsPlan s) response
    → WithPlanInForm s form (ShowsPlan s) response)
    → ExplainsCuts s form response → IsYesOrNo response.status
cuts_said s form response can splits found =
    Explained-yes_or_no (AreSplitReasons s form) (With (SplitStops s form) (IsSplitInForm s form) (ShowsPlan s)) response
    (λ plain is. after_form s form (ShowsPlan s) plain can
    (λ plan says. inl (ap (λ (a : ResponseValue). a.status) says)) (splits plain is)) found

bcnf_asks : (files : Files) (name : List ℕ) (looks : Looks) (response : ResponseValue)
    → Answers looks (known_files files) (codes "explain" ∷ codes "split" ∷ codes "bcnf" ∷ name ∷ []) response
    → WithFile schema_file (known_files files) name (λ r. ExplainsCuts r Bcnf) response
unfolding form_of form_over_schema after_explain after_explain_split schema_alone Performs Does AnswersSchema
bcnf_asks files name looks response answered = answered

pub bcnf_explained : (files : Files) (name : List ℕ) (schema : Schema)
    → IsFile schema_file (known_files files) name schema → HasPlanInForm schema Bcnf
    → IsAnswered files (codes "explain" ∷ codes "split" ∷ codes "bcnf" ∷ name ∷ [])
bcnf_explained files name schema file can looks response answered =
    cuts_said schema Bcnf response can (λ plain is. is)
    (after_schema files name schema (λ r. ExplainsCuts r Bcnf) response file (bcnf_asks files name looks response answered))

fourth_asks : (files : Files) (name : List ℕ) (looks : Looks) (response : ResponseValue)
    → Answers looks (known_files files) (codes "explain" ∷ codes "split" ∷ codes "4nf" ∷ name ∷ []) response
    → WithFile schema_file (known_files files) name (λ r. ExplainsCuts r Fourth) response
unfolding form_of form_over_schema after_explain after_explain_split schema_alone Performs Does AnswersSchema
fourth_asks files name looks response answered = answered

pub fourth_explained : (files : Files) (name : List ℕ) (schema : Schema)
    → IsFile schema_file (known_files files) name schema → HasPlanInForm schema Fourth
    → IsAnswered files (codes "explain" ∷ codes "split" ∷ codes "4nf" ∷ name ∷ [])
fourth_explained files name schema file can looks response answered =
    cuts_said schema Fourth response can (λ plain is. is)
    (after_schema files name schema (λ r. ExplainsCuts r Fourth) response file (fourth_asks files name looks response answered))
