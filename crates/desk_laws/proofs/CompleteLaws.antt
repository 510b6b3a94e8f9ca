-- Where the inputs of a command have their meaning, it answers yes or no.
use Rattle.std.proofs.Common.{◌≡◌, ℕ, List, [], ◌∷◌, Result, Ok, inl, inr, sym, ap, subst}
use Rattle.std.specs.Prelude.{codes}
use Rattle.attr_sets.specs.Attributes.{Attributes}
use Rattle.dep_model.specs.Dependencies.{Dependency}
use Rattle.schema_model.specs.Schemas.{names_of, naming_of, theory_in}
use Rattle.dep_model.specs.Tuples.{Relation}
use Rattle.dep_model.specs.declared.memory.OutOfMemory.{OutOfMemory}
use Rattle.schema_model.specs.Schemas.{Schema}
use Rattle.derivation.specs.Trees.{Tree}
use Rattle.key_listing.specs.Refusals.{IsTooWide}
use Rattle.plan_printer.specs.NamedPlans.{NamedSchemes}
use Rattle.desk_outside.specs.Files.{Files}
use Rattle.desk_responses.specs.declared.status.Status.{Status}
use Rattle.desk_responses.specs.ResponseValues.{ResponseValue, Allowed}
use Rattle.desk_implication.specs.Certificates.{Checked}
use Rattle.desk_covers.specs.Covering.{GivesCanonicalCover, GivesCover}
use Rattle.desk_cli.specs.Desk.{Desk, FileSourceInCall, SinkInCall, looks_in}
use Rattle.desk_delivery.specs.Outcomes.{DestinationsInCall, FolderInCall}
use Rattle.desk_words.specs.Forms.{form_of, after_check, after_cover, schema_and_two, no_more_arguments, form_over_schema, after_keys, after_synthesize, schema_and_word, schema_and_plan, schema_and_rows}
use Rattle.desk_implication.specs.Implication.{Decided}
use Rattle.desk_inputs.specs.FileKinds.{IsFile, WithFile}
use Rattle.desk_inputs.specs.Inputs.{schema_file, proof_file}
use Rattle.implication_laws.proofs.GoalLemmas.{goal_goes, one_goal}
use Rattle.desk_arguments.specs.Goals.{GoalStops, WithGoal, IsGoal}
use Rattle.desk_designs.specs.Joins.{JudgesJoin, IsTooLarge}
use Rattle.desk_keys.specs.Keys.{ListsKeys, HasManyKeys}
use Rattle.desk_tables.specs.Legality.{JudgesRows}
use Rattle.desk_cli.specs.Performs.{Answers, Performs, Does, AnswersSchema, AnswersPlan, AnswersRows}
use Rattle.desk_inputs.specs.Plans.{plan_file}
use Rattle.desk_inputs.specs.Readings.{known_files}
use Rattle.desk_inputs.specs.Rows.{rows_file}
use Rattle.desk_designs.specs.Synthesis.{Synthesizes}
use Rattle.desk_laws.specs.Completeness.{IsYesOrNo, IsAnswered, IsAnsweredBy, FailsNowhere}
use Rattle.desk_laws.proofs.OneFile.{after_file}
use Rattle.desk_laws.proofs.OneText.{plan_tables_once, proof_text_once, rows_text_once, schema_once}
use Rattle.desk_laws.proofs.StopLemmas.{With-goes}
use Rattle.desk_tables.specs.OwnFolders.{Looks}

-- ---- the call
pub calls_end : (words : List (List ℕ)) (files : Files) (source : FileSourceInCall) (sink notices : SinkInCall)
    (destinations : DestinationsInCall) (own : FolderInCall) (result : Result Status OutOfMemory)
    → Desk words source sink notices destinations own result → FailsNowhere files source sink destinations own
    → IsAnsweredBy (looks_in own) files words → (status : Status) → result ≡ Ok status → IsYesOrNo status
calls_end words files source sink notices destinations own result desk nowhere answered status is =
    let delivers = desk.complete files nowhere.holds nowhere.reads nowhere.writes nowhere.writes_tables status is in
    subst IsYesOrNo (sym delivers.2) (answered delivers.0 delivers.1)

-- ---- files
-- each answer after the file of a schema is one on this schema, and so of the others
pub after_schema : (files : Files) (name : List ℕ) (s : Schema) (rest : Schema → Allowed) (response : ResponseValue)
    → IsFile schema_file (known_files files) name s → WithFile schema_file (known_files files) name rest response
    → rest s response
after_schema files name s rest response is answered =
    after_file files name schema_file schema_once s rest response is answered

after_proof : (files : Files) (s : Schema) (name : List ℕ) (t : Tree) (rest : Tree → Allowed) (response : ResponseValue)
    → IsFile (proof_file s) (known_files files) name t → WithFile (proof_file s) (known_files files) name rest response
    → rest t response
after_proof files s name t rest response is answered =
    after_file files name (proof_file s) (proof_text_once s) t rest response is answered

pub after_rows : (files : Files) (s : Schema) (name : List ℕ) (rows : Relation) (rest : Relation → Allowed)
    (response : ResponseValue) → IsFile (rows_file s) (known_files files) name rows
    → WithFile (rows_file s) (known_files files) name rest response → rest rows response
after_rows files s name rows rest response is answered =
    after_file files name (rows_file s) (rows_text_once s) rows rest response is answered

pub after_plan : (files : Files) (s : Schema) (name : List ℕ) (plan : NamedSchemes) (rest : NamedSchemes → Allowed)
    (response : ResponseValue) → IsFile (plan_file s) (known_files files) name plan
    → WithFile (plan_file s) (known_files files) name rest response → rest plan response
after_plan files s name plan rest response is answered =
    after_file files name (plan_file s) (plan_tables_once s) plan rest response is answered

-- ---- goals
-- and each after the reading of a goal is one on its dependency
pub after_goal : (s : Schema) (goal : List ℕ) (dep : Dependency) (rest : Dependency → Allowed) (response : ResponseValue)
    → IsGoal s goal dep → WithGoal s goal rest response → rest dep response
after_goal s goal dep rest response is answered =
    With-goes (GoalStops s goal) (IsGoal s goal) rest dep response
    (goal_goes s goal dep response is)
    (λ d also. one_goal (naming_of s) (names_of s) goal d dep also.means is.means) answered

pub Decided-yes_or_no : (r : Schema) (d : Dependency) (response : ResponseValue) → Decided r d response → IsYesOrNo response.status
Decided-yes_or_no r d response (inl (implied, found)) = inl (ap (λ (a : ResponseValue). a.status) found.4)
Decided-yes_or_no r d response (inr (broken, found)) = inr (ap (λ (a : ResponseValue). a.status) found.3)

implies_asks : (files : Files) (name goal : List ℕ) (looks : Looks) (response : ResponseValue)
    → Answers looks (known_files files) (codes "implies" ∷ name ∷ goal ∷ []) response
    → WithFile schema_file (known_files files) name (λ r. WithGoal r goal (Decided r)) response
unfolding form_of form_over_schema schema_and_word Performs Does AnswersSchema
implies_asks files name goal looks response answered = answered

pub implies_answered : (files : Files) (name goal : List ℕ) (schema : Schema) (dep : Dependency)
    → IsFile schema_file (known_files files) name schema → IsGoal schema goal dep
    → IsAnswered files (codes "implies" ∷ name ∷ goal ∷ [])
implies_answered files name goal schema dep file is looks response answered =
    Decided-yes_or_no schema dep response
    (after_goal schema goal dep (Decided schema) response is
    (after_schema files name schema (λ r. WithGoal r goal (Decided r)) response file
    (implies_asks files name goal looks response answered)))

-- ---- certificates
Checked-yes_or_no : (r : Schema) (t : Tree) (d : Dependency) (response : ResponseValue) → Checked r t d response → IsYesOrNo response.status
Checked-yes_or_no r t d response (inl (proved, implied, says)) = inl (ap (λ (a : ResponseValue). a.status) says)
Checked-yes_or_no r t d response (inr (unproved, found)) = inr (ap (λ (a : ResponseValue). a.status) found.2)

proof_asks : (files : Files) (name file goal : List ℕ) (looks : Looks) (response : ResponseValue)
    → Answers looks (known_files files) (codes "check" ∷ codes "proof" ∷ name ∷ file ∷ goal ∷ []) response
    → WithFile schema_file (known_files files) name (λ r. WithFile (proof_file r) (known_files files) file (λ t. WithGoal r goal (Checked r t))) response
unfolding form_of form_over_schema after_check schema_and_two Performs Does
proof_asks files name file goal looks response answered = answered

pub proof_answered : (files : Files) (name file goal : List ℕ) (schema : Schema) (tree : Tree) (dep : Dependency)
    → IsFile schema_file (known_files files) name schema → IsFile (proof_file schema) (known_files files) file tree → IsGoal schema goal dep
    → IsAnswered files (codes "check" ∷ codes "proof" ∷ name ∷ file ∷ goal ∷ [])
proof_answered files name file goal schema tree dep held_schema held_proof is looks response answered =
    Checked-yes_or_no schema tree dep response
    (after_goal schema goal dep (Checked schema tree) response is
    (after_proof files schema file tree (λ t. WithGoal schema goal (Checked schema t)) response held_proof
    (after_schema files name schema
    (λ r. WithFile (proof_file r) (known_files files) file (λ t. WithGoal r goal (Checked r t))) response held_schema
    (proof_asks files name file goal looks response answered))))

-- ---- rows
JudgesRows-yes_or_no : (r : Schema) (rows : Relation) (response : ResponseValue) → JudgesRows r rows response → IsYesOrNo response.status
JudgesRows-yes_or_no r rows response (inl (broken, found)) = inr (ap (λ (a : ResponseValue). a.status) found.2)
JudgesRows-yes_or_no r rows response (inr (legal, says)) = inl (ap (λ (a : ResponseValue). a.status) says)

rows_asks : (files : Files) (name file : List ℕ) (looks : Looks) (response : ResponseValue)
    → Answers looks (known_files files) (codes "check" ∷ codes "rows" ∷ name ∷ file ∷ []) response
    → WithFile schema_file (known_files files) name (λ r. WithFile (rows_file r) (known_files files) file (JudgesRows r)) response
unfolding form_of form_over_schema after_check schema_and_rows Performs Does AnswersRows
rows_asks files name file looks response answered = answered

pub rows_answered : (files : Files) (name file : List ℕ) (schema : Schema) (rows : Relation)
    → IsFile schema_file (known_files files) name schema → IsFile (rows_file schema) (known_files files) file rows
    → IsAnswered files (codes "check" ∷ codes "rows" ∷ name ∷ file ∷ [])
rows_answered files name file schema rows held_schema held_rows looks response answered =
    JudgesRows-yes_or_no schema rows response
    (after_rows files schema file rows (JudgesRows schema) response held_rows
    (after_schema files name schema (λ r. WithFile (rows_file r) (known_files files) file (JudgesRows r)) response held_schema
    (rows_asks files name file looks response answered)))

-- ---- plans
judges_join : (r : Schema) (plan : List Attributes) (response : ResponseValue) → (IsTooLarge r plan → ⊥) → JudgesJoin r plan response
    → IsYesOrNo response.status
judges_join r plan response small (inl (inl (fits, lossy, found))) = inr (ap (λ (a : ResponseValue). a.status) found.2)
judges_join r plan response small (inl (inr (large, says))) = absurd (small large)
judges_join r plan response small (inr (lossless, says)) = inl (ap (λ (a : ResponseValue). a.status) says)

join_asks : (files : Files) (name file : List ℕ) (looks : Looks) (response : ResponseValue)
    → Answers looks (known_files files) (codes "check" ∷ codes "join" ∷ name ∷ file ∷ []) response
    → WithFile schema_file (known_files files) name (λ r. WithFile (plan_file r) (known_files files) file (λ p. JudgesJoin r p.schemes)) response
unfolding form_of form_over_schema after_check schema_and_plan Performs Does AnswersPlan
join_asks files name file looks response answered = answered

pub join_answered : (files : Files) (name file : List ℕ) (schema : Schema) (plan : NamedSchemes)
    → IsFile schema_file (known_files files) name schema → IsFile (plan_file schema) (known_files files) file plan
    → (IsTooLarge schema plan.schemes → ⊥) → IsAnswered files (codes "check" ∷ codes "join" ∷ name ∷ file ∷ [])
join_answered files name file schema plan held_schema held_plan small looks response answered =
    judges_join schema plan.schemes response small
    (after_plan files schema file plan (λ p. JudgesJoin schema p.schemes) response held_plan
    (after_schema files name schema (λ r. WithFile (plan_file r) (known_files files) file (λ p. JudgesJoin r p.schemes)) response held_schema
    (join_asks files name file looks response answered)))

-- ---- schemas alone
pub cover_asks : (files : Files) (name : List ℕ) (looks : Looks) (response : ResponseValue)
    → Answers looks (known_files files) (codes "cover" ∷ name ∷ []) response → WithFile schema_file (known_files files) name GivesCover response
unfolding form_of form_over_schema after_cover Performs Does AnswersSchema
cover_asks files name looks response answered = answered

pub cover_answered : (files : Files) (name : List ℕ) (schema : Schema) → IsFile schema_file (known_files files) name schema
    → IsAnswered files (codes "cover" ∷ name ∷ [])
cover_answered files name schema file looks response answered =
    let found = after_schema files name schema GivesCover response file (cover_asks files name looks response answered) in
    inl (ap (λ (a : ResponseValue). a.status) found.4)

pub canonical_asks : (files : Files) (name : List ℕ) (looks : Looks) (response : ResponseValue)
    → Answers looks (known_files files) (codes "cover" ∷ codes "canonical" ∷ name ∷ []) response
    → WithFile schema_file (known_files files) name GivesCanonicalCover response
unfolding form_of form_over_schema after_cover Performs Does AnswersSchema
canonical_asks files name looks response answered = answered

pub canonical_answered : (files : Files) (name : List ℕ) (schema : Schema) → IsFile schema_file (known_files files) name schema
    → IsAnswered files (codes "cover" ∷ codes "canonical" ∷ name ∷ [])
canonical_answered files name schema file looks response answered =
    let found = after_schema files name schema GivesCanonicalCover response file (canonical_asks files name looks response answered) in
    inl (ap (λ (a : ResponseValue). a.status) found.4)

synthesize_asks : (files : Files) (name : List ℕ) (looks : Looks) (response : ResponseValue)
    → Answers looks (known_files files) (codes "synthesize" ∷ name ∷ []) response → WithFile schema_file (known_files files) name Synthesizes response
unfolding form_of form_over_schema after_synthesize Performs Does AnswersSchema
synthesize_asks files name looks response answered = answered

pub synthesize_answered : (files : Files) (name : List ℕ) (schema : Schema) → IsFile schema_file (known_files files) name schema
    → IsAnswered files (codes "synthesize" ∷ name ∷ [])
synthesize_answered files name schema file looks response answered =
    let found = after_schema files name schema Synthesizes response file (synthesize_asks files name looks response answered) in
    inl (ap (λ (a : ResponseValue). a.status) found.2)

pub lists_keys : (r : Schema) (response : ResponseValue) → (IsTooWide (theory_in r) → ⊥) → (HasManyKeys r → ⊥) → ListsKeys r response
    → IsYesOrNo response.status
lists_keys r response narrow within_limit (inl found) = inl (ap (λ (a : ResponseValue). a.status) found.4)
lists_keys r response narrow within_limit (inr (inl (wide, says))) = absurd (narrow wide)
lists_keys r response narrow within_limit (inr (inr (fits, many, says))) = absurd (within_limit many)

keys_asks : (files : Files) (name : List ℕ) (looks : Looks) (response : ResponseValue) → Answers looks (known_files files) (codes "keys" ∷ name ∷ []) response
    → WithFile schema_file (known_files files) name ListsKeys response
unfolding form_of form_over_schema after_keys Performs Does AnswersSchema AnswersPlan
keys_asks files name looks response answered = answered

pub keys_answered : (files : Files) (name : List ℕ) (schema : Schema) → IsFile schema_file (known_files files) name schema
    → (IsTooWide (theory_in schema) → ⊥) → (HasManyKeys schema → ⊥)
    → IsAnswered files (codes "keys" ∷ name ∷ [])
keys_answered files name schema file narrow within_limit looks response answered =
    lists_keys schema response narrow within_limit
    (after_schema files name schema ListsKeys response file (keys_asks files name looks response answered))

-- ---- no schema
pub help_answered : (files : Files) → IsAnswered files (codes "help" ∷ [])
unfolding form_of form_over_schema no_more_arguments Performs
help_answered files looks response answered = inl (ap (λ (a : ResponseValue). a.status) answered)

pub long_help_answered : (files : Files) → IsAnswered files (codes "--help" ∷ [])
unfolding form_of form_over_schema no_more_arguments Performs
long_help_answered files looks response answered = inl (ap (λ (a : ResponseValue). a.status) answered)

pub short_help_answered : (files : Files) → IsAnswered files (codes "-h" ∷ [])
unfolding form_of form_over_schema no_more_arguments Performs
short_help_answered files looks response answered = inl (ap (λ (a : ResponseValue). a.status) answered)

pub version_answered : (files : Files) → IsAnswered files (codes "--version" ∷ [])
unfolding form_of form_over_schema no_more_arguments Performs
version_answered files looks response answered = inl (ap (λ (a : ResponseValue). a.status) answered)
