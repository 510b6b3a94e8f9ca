-- Where the inputs of the commands on sets, keys of a plan and two schemas have their meaning, they answer
-- yes or no.
use Rattle.std.proofs.Common.{◌≡◌, ℕ, List, [], ◌∷◌, ◌++◌, inl, inr, refl, sym, ap, ◌∙◌, subst, arith}
use Rattle.std.proofs.lemmas.Bool.{false≢true}
use Rattle.std.specs.Prelude.{codes, All, Contains}
use Rattle.attr_sets.specs.Attributes.{Attributes, IsEmpty}
use Rattle.attr_sets.specs.declared.set.AttrSet.{AttrSet}
use Rattle.cover_accounts.specs.declared.diagnostic.CoverForm.{CoverForm}
use Rattle.cover_accounts.specs.declared.diagnostic.CoverForm.TheVariants.{Canonical, Minimal}
use Rattle.dep_model.specs.Dependencies.{Dependency}
use Rattle.schema_model.specs.Schemas.{names_of, width_of, theory_of, naming_of}
use Rattle.schema_model.specs.Schemas.{Schema}
use Rattle.key_listing.specs.Listing.{AreManyKeys}
use Rattle.fd_closure.specs.LeftSides.{IsWideScheme}
use Rattle.fd_projection.specs.Refusals.{AreTooMany}
use Rattle.schema_match.specs.Columns.{SameNames, undeclared_attributes}
use Rattle.plan_printer.specs.NamedPlans.{NamedSchemes}
use Rattle.desk_outside.specs.Files.{Files}
use Rattle.desk_responses.specs.ResponseValues.{ResponseValue, Allowed}
use Rattle.desk_implication.specs.Bases.{TellsBasis}
use Rattle.desk_words.specs.Forms.{form_of, form_over_schema, after_check, after_check_cover, after_keys, two_schemas, schema_and_word}
use Rattle.desk_inputs.specs.FileKinds.{IsFile, WithFile}
use Rattle.desk_inputs.specs.Inputs.{schema_file}
use Rattle.desk_arguments.specs.Goals.{WithSet, SetStops, IsSetText}
use Rattle.desk_implication.specs.Closures.{TellsClosure}
use Rattle.desk_covers.specs.CoverChecks.{TestsCover}
use Rattle.desk_keys.specs.KeyChecks.{TestsKey}
use Rattle.desk_implication.specs.Projections.{ProjectsSet}
use Rattle.desk_keys.specs.Keys.{ListsKeysOfPlan}
use Rattle.desk_cli.specs.Performs.{Answers, Performs, Does, AnswersPair, AnswersSchema, AnswersPlan}
use Rattle.desk_inputs.specs.Plans.{plan_file}
use Rattle.desk_inputs.specs.Readings.{known_files}
use Rattle.desk_covers.specs.Sameness.{WithSameNames, Compares, LacksName}
use Rattle.implication_laws.proofs.OneAnswer.{one_set, set_goes}
use Rattle.desk_laws.specs.Completeness.{IsYesOrNo, IsAnswered}
use Rattle.desk_laws.proofs.CompleteLaws.{after_schema, after_plan}
use Rattle.desk_laws.proofs.StopLemmas.{With-goes}
use Rattle.std.proofs.lemmas.List.Elements.{All-contains, Contains-append_right}
use Rattle.desk_tables.specs.OwnFolders.{Looks}

-- ---- sets
-- each answer after the reading of a set is one on its attributes
after_set : (s : Schema) (set : List ℕ) (x : Attributes) (rest : Attributes → Allowed) (response : ResponseValue)
    → IsSetText s set x → WithSet s set rest response → rest x response
after_set s set x rest response is answered =
    With-goes (SetStops s set) (IsSetText s set) rest x response (set_goes s set x response is)
    (λ y also. one_set (naming_of s) (names_of s) set y x also.means is.means) answered

-- a command on a set, of which each answer is yes or no
set_answered : (files : Files) (name set : List ℕ) (schema : Schema) (x : Attributes) (rest : Schema → Attributes → Allowed)
    → ((r : Schema) (y : Attributes) (response : ResponseValue) → rest r y response → IsYesOrNo response.status)
    → IsFile schema_file (known_files files) name schema → IsSetText schema set x → (response : ResponseValue)
    → WithFile schema_file (known_files files) name (λ r. WithSet r set (rest r)) response → IsYesOrNo response.status
set_answered files name set schema x rest decided file is response asked =
    decided schema x response
    (after_set schema set x (rest schema) response is
    (after_schema files name schema (λ r. WithSet r set (rest r)) response file asked))

basis_asks : (files : Files) (name set : List ℕ) (looks : Looks) (response : ResponseValue)
    → Answers looks (known_files files) (codes "basis" ∷ name ∷ set ∷ []) response
    → WithFile schema_file (known_files files) name (λ r. WithSet r set (TellsBasis r)) response
unfolding form_of form_over_schema schema_and_word Performs Does AnswersSchema
basis_asks files name set looks response answered = answered

pub basis_answered : (files : Files) (name set : List ℕ) (schema : Schema) (x : Attributes)
    → IsFile schema_file (known_files files) name schema → IsSetText schema set x
    → IsAnswered files (codes "basis" ∷ name ∷ set ∷ [])
basis_answered files name set schema x file is looks response answered =
    set_answered files name set schema x TellsBasis (λ r y given found. inl (ap (λ (a : ResponseValue). a.status) found.2)) file is response
    (basis_asks files name set looks response answered)

closure_asks : (files : Files) (name set : List ℕ) (looks : Looks) (response : ResponseValue)
    → Answers looks (known_files files) (codes "closure" ∷ name ∷ set ∷ []) response
    → WithFile schema_file (known_files files) name (λ r. WithSet r set (TellsClosure r)) response
unfolding form_of form_over_schema schema_and_word Performs Does AnswersSchema
closure_asks files name set looks response answered = answered

pub closure_answered : (files : Files) (name set : List ℕ) (schema : Schema) (x : Attributes)
    → IsFile schema_file (known_files files) name schema → IsSetText schema set x
    → IsAnswered files (codes "closure" ∷ name ∷ set ∷ [])
closure_answered files name set schema x file is looks response answered =
    set_answered files name set schema x TellsClosure (λ r y given found. inl (ap (λ (a : ResponseValue). a.status) found.2)) file is response
    (closure_asks files name set looks response answered)

projects_yes : (s : Schema) (x : Attributes) (response : ResponseValue) → (IsEmpty x → ⊥) → (IsWideScheme (theory_of s) x → ⊥)
    → ((found : List Dependency) → AreTooMany (width_of s) (theory_of s) x found → ⊥) → ProjectsSet s x response → IsYesOrNo response.status
projects_yes s x response some narrow few (inl (empty, says)) = absurd (some empty)
projects_yes s x response some narrow few (inr (inl (also, inl (wide, says)))) = absurd (narrow wide)
projects_yes s x response some narrow few (inr (inl (also, inr ((fits, many), says)))) = absurd (few many.0 many.1)
projects_yes s x response some narrow few (inr (inr (rules, is, says))) = inl (ap (λ (a : ResponseValue). a.status) says)

project_asks : (files : Files) (name set : List ℕ) (looks : Looks) (response : ResponseValue)
    → Answers looks (known_files files) (codes "project" ∷ name ∷ set ∷ []) response
    → WithFile schema_file (known_files files) name (λ r. WithSet r set (ProjectsSet r)) response
unfolding form_of form_over_schema schema_and_word Performs Does AnswersSchema
project_asks files name set looks response answered = answered

pub project_answered : (files : Files) (name set : List ℕ) (schema : Schema) (x : Attributes)
    → IsFile schema_file (known_files files) name schema → IsSetText schema set x
    → (IsEmpty x → ⊥) → (IsWideScheme (theory_of schema) x → ⊥)
    → ((found : List Dependency) → AreTooMany (width_of schema) (theory_of schema) x found → ⊥)
    → IsAnswered files (codes "project" ∷ name ∷ set ∷ [])
project_answered files name set schema x file is some narrow few looks response answered =
    projects_yes schema x response some narrow few
    (after_set schema set x (ProjectsSet schema) response is
    (after_schema files name schema (λ r. WithSet r set (ProjectsSet r)) response file
    (project_asks files name set looks response answered)))

TestsKey-yes_or_no : (r : Schema) (y : Attributes) (response : ResponseValue) → TestsKey r y response → IsYesOrNo response.status
TestsKey-yes_or_no r y response (text, inl (shown, says)) = inl (ap (λ (a : ResponseValue). a.status) says)
TestsKey-yes_or_no r y response (text, inr (why, says)) = inr (ap (λ (a : ResponseValue). a.status) says)

check_key_asks : (files : Files) (name set : List ℕ) (looks : Looks) (response : ResponseValue)
    → Answers looks (known_files files) (codes "check" ∷ codes "key" ∷ name ∷ set ∷ []) response
    → WithFile schema_file (known_files files) name (λ r. WithSet r set (TestsKey r)) response
unfolding form_of form_over_schema after_check schema_and_word Performs Does AnswersSchema
check_key_asks files name set looks response answered = answered

pub check_key_answered : (files : Files) (name set : List ℕ) (schema : Schema) (x : Attributes)
    → IsFile schema_file (known_files files) name schema → IsSetText schema set x
    → IsAnswered files (codes "check" ∷ codes "key" ∷ name ∷ set ∷ [])
check_key_answered files name set schema x file is looks response answered =
    set_answered files name set schema x TestsKey TestsKey-yes_or_no file is response
    (check_key_asks files name set looks response answered)

-- ---- keys of a plan
abbrev HasFewKeys : Schema → Attributes → Type 0
HasFewKeys s scheme = (found : List AttrSet) → AreManyKeys (width_of s) (theory_of s) scheme found → ⊥

in_plan : (plan earlier later : List Attributes) (scheme : Attributes) → plan ≡ earlier ++ scheme ∷ later → Contains plan scheme
in_plan plan earlier later scheme list =
    subst (λ (l : List Attributes). Contains l scheme) (sym list) (Contains-append_right earlier (scheme ∷ later) scheme (0, omega arith, refl))

answer_agrees : (s : Schema) (plan : List Attributes) (response : ResponseValue)
    → All (λ scheme. IsWideScheme (theory_of s) scheme → ⊥) plan → All (HasFewKeys s) plan → ListsKeysOfPlan s plan response → IsYesOrNo response.status
answer_agrees s plan response narrow within_limit (inl (listed, schemes, keys, says)) = inl (ap (λ (a : ResponseValue). a.status) says)
answer_agrees s plan response narrow within_limit (inr (scheme, first, inl (wide, says))) =
    absurd (All-contains (λ (x : Attributes). IsWideScheme (theory_of s) x → ⊥) plan scheme narrow
    (in_plan plan first.earlier first.later scheme first.list) wide)
answer_agrees s plan response narrow within_limit (inr (scheme, first, inr (fits, more))) =
    absurd (All-contains (HasFewKeys s) plan scheme within_limit (in_plan plan first.earlier first.later scheme first.list)
    more.0 more.1)

keys_asks : (files : Files) (name file : List ℕ) (looks : Looks) (response : ResponseValue)
    → Answers looks (known_files files) (codes "keys" ∷ name ∷ file ∷ []) response
    → WithFile schema_file (known_files files) name (λ r. WithFile (plan_file r) (known_files files) file (λ p. ListsKeysOfPlan r p.schemes)) response
unfolding form_of form_over_schema after_keys Performs Does AnswersSchema AnswersPlan
keys_asks files name file looks response answered = answered

pub keys_of_plan_answered : (files : Files) (name file : List ℕ) (schema : Schema) (plan : NamedSchemes)
    → IsFile schema_file (known_files files) name schema → IsFile (plan_file schema) (known_files files) file plan
    → All (λ scheme. IsWideScheme (theory_of schema) scheme → ⊥) plan.schemes
    → All (λ scheme. (found : List AttrSet) → AreManyKeys (width_of schema) (theory_of schema) scheme found → ⊥) plan.schemes
    → IsAnswered files (codes "keys" ∷ name ∷ file ∷ [])
keys_of_plan_answered files name file schema plan held_schema held_plan narrow within_limit looks response answered =
    answer_agrees schema plan.schemes response narrow within_limit
    (after_plan files schema file plan (λ p. ListsKeysOfPlan schema p.schemes) response held_plan
    (after_schema files name schema (λ r. WithFile (plan_file r) (known_files files) file (λ p. ListsKeysOfPlan r p.schemes)) response held_schema
    (keys_asks files name file looks response answered)))

-- ---- two schemas
lacks_none : (r p : Schema) (file : List ℕ) (response : ResponseValue) → IsEmpty (undeclared_attributes r p) → LacksName r p file response → ⊥
lacks_none r p file response none (a, least, says) = false≢true (sym (none a) ∙ least.member)

Compares-yes_or_no : (r p : Schema) (file other_file : List ℕ) (response : ResponseValue) → Compares r p file other_file response → IsYesOrNo response.status
Compares-yes_or_no r p file other_file response (inl (alike, says)) = inl (ap (λ (a : ResponseValue). a.status) says)
Compares-yes_or_no r p file other_file response (inr (there, back, differ, says)) = inr (ap (λ (a : ResponseValue). a.status) says)

after_names : (s t : Schema) (file other_file : List ℕ) (rest : Allowed) (response : ResponseValue) → SameNames s t
    → WithSameNames s t file other_file rest response → rest response
after_names s t file other_file rest response names (inl (inl lacks)) = absurd (lacks_none s t other_file response names.0 lacks)
after_names s t file other_file rest response names (inl (inr (declared, lacks))) = absurd (lacks_none t s file response names.1 lacks)
after_names s t file other_file rest response names (inr (same_names, found)) = found

-- a command on two schemas over the same names, of which each answer is yes or no
two_answered : (files : Files) (name other_name : List ℕ) (schema other : Schema) (rest : Schema → Schema → List ℕ → List ℕ → Allowed)
    → ((r p : Schema) (file other_file : List ℕ) (response : ResponseValue) → rest r p file other_file response → IsYesOrNo response.status)
    → IsFile schema_file (known_files files) name schema → IsFile schema_file (known_files files) other_name other
    → SameNames schema other → (response : ResponseValue)
    → WithFile schema_file (known_files files) name (λ r. WithFile schema_file (known_files files) other_name (λ p. WithSameNames r p name other_name (rest r p name other_name))) response
    → IsYesOrNo response.status
two_answered files name other_name schema other rest decided held_schema held_other names response asked =
    decided schema other name other_name response
    (after_names schema other name other_name (rest schema other name other_name) response names
    (after_schema files other_name other
    (λ p. WithSameNames schema p name other_name (rest schema p name other_name)) response held_other
    (after_schema files name schema
    (λ r. WithFile schema_file (known_files files) other_name (λ p. WithSameNames r p name other_name (rest r p name other_name))) response held_schema
    asked)))

same_asks : (files : Files) (name other_name : List ℕ) (looks : Looks) (response : ResponseValue)
    → Answers looks (known_files files) (codes "check" ∷ codes "same" ∷ name ∷ other_name ∷ []) response
    → WithFile schema_file (known_files files) name (λ r. WithFile schema_file (known_files files) other_name (λ p. WithSameNames r p name other_name (Compares r p name other_name))) response
unfolding form_of form_over_schema after_check two_schemas Performs Does AnswersPair
same_asks files name other_name looks response answered = answered

pub same_answered : (files : Files) (name other_name : List ℕ) (schema other : Schema)
    → IsFile schema_file (known_files files) name schema → IsFile schema_file (known_files files) other_name other
    → SameNames schema other
    → IsAnswered files (codes "check" ∷ codes "same" ∷ name ∷ other_name ∷ [])
same_answered files name other_name schema other held_schema held_other names looks response answered =
    two_answered files name other_name schema other Compares Compares-yes_or_no held_schema held_other names response
    (same_asks files name other_name looks response answered)

TestsCover-yes_or_no : (form : CoverForm) (r p : Schema) (file other_file : List ℕ) (response : ResponseValue)
    → TestsCover form r p file other_file response → IsYesOrNo response.status
TestsCover-yes_or_no form r p file other_file response (inl (there, back, differ, says)) = inr (ap (λ (a : ResponseValue). a.status) says)
TestsCover-yes_or_no form r p file other_file response (inr (same, (found, are, inl (none, says)))) = inl (ap (λ (a : ResponseValue). a.status) says)
TestsCover-yes_or_no form r p file other_file response (inr (same, (found, are, inr (some, says)))) = inr (ap (λ (a : ResponseValue). a.status) says)

pub cover_asks : (files : Files) (name other_name : List ℕ) (looks : Looks) (response : ResponseValue)
    → Answers looks (known_files files) (codes "check" ∷ codes "cover" ∷ name ∷ other_name ∷ []) response
    → WithFile schema_file (known_files files) name (λ r. WithFile schema_file (known_files files) other_name (λ p. WithSameNames r p name other_name (TestsCover Minimal r p name other_name))) response
unfolding form_of form_over_schema after_check after_check_cover Performs Does AnswersPair
cover_asks files name other_name looks response answered = answered

pub cover_checked : (files : Files) (name other_name : List ℕ) (schema other : Schema)
    → IsFile schema_file (known_files files) name schema → IsFile schema_file (known_files files) other_name other
    → SameNames schema other
    → IsAnswered files (codes "check" ∷ codes "cover" ∷ name ∷ other_name ∷ [])
cover_checked files name other_name schema other held_schema held_other names looks response answered =
    two_answered files name other_name schema other (TestsCover Minimal) (TestsCover-yes_or_no Minimal) held_schema held_other names response
    (cover_asks files name other_name looks response answered)

pub canonical_asks : (files : Files) (name other_name : List ℕ) (looks : Looks) (response : ResponseValue)
    → Answers looks (known_files files) (codes "check" ∷ codes "cover" ∷ codes "canonical" ∷ name ∷ other_name ∷ []) response
    → WithFile schema_file (known_files files) name (λ r. WithFile schema_file (known_files files) other_name (λ p. WithSameNames r p name other_name (TestsCover Canonical r p name other_name))) response
unfolding form_of form_over_schema after_check after_check_cover Performs Does AnswersPair
canonical_asks files name other_name looks response answered = answered

pub canonical_checked : (files : Files) (name other_name : List ℕ) (schema other : Schema)
    → IsFile schema_file (known_files files) name schema → IsFile schema_file (known_files files) other_name other
    → SameNames schema other
    → IsAnswered files (codes "check" ∷ codes "cover" ∷ codes "canonical" ∷ name ∷ other_name ∷ [])
canonical_checked files name other_name schema other held_schema held_other names looks response answered =
    two_answered files name other_name schema other (TestsCover Canonical) (TestsCover-yes_or_no Canonical) held_schema held_other names response
    (canonical_asks files name other_name looks response answered)
