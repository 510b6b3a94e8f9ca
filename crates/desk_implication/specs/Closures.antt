-- How the closure of a set comes about, step by step: for `closure`.
use Rattle.std.specs.Prelude.{◌≡◌, ◌⊎◌, ◌↔◌, ℕ, true, List, [], ◌++◌, codes, slice_get}
use Rattle.std.specs.List.{flat_map}
use Rattle.attr_sets.specs.Attributes.{Attributes, difference, IsEmpty}
use Rattle.closure_steps.specs.Steps.{ClosureStepValue, AreClosureSteps, reached}
use Rattle.dep_model.specs.Keys.{InClosure}
use Rattle.schema_model.specs.Schemas.{width_of, theory_of, deps_of, lines_of}
use Rattle.schema_model.specs.Schemas.{Schema}
use Rattle.schema_printer.specs.Spelling.{printed_names_of}
use Rattle.desk_responses.specs.declared.status.Status.TheVariants.{Yes}
use Rattle.desk_responses.specs.ResponseValues.{Allowed, Says}
use Rattle.desk_responses.specs.Lines.{line_number_text, dep_text}
use Rattle.desk_arguments.specs.Goals.{WithSet}
use Rattle.desk_texts.specs.Texts.{set_line}

-- ---- texts
-- a step: a dependency of the file, with its line, and what it adds
abbrev pub step_text : Schema → ClosureStepValue → List ℕ
step_text schema step =
    set_line (codes "line " ++ line_number_text (slice_get (lines_of schema) step.position) ++ codes ": "
    ++ dep_text (printed_names_of schema) (slice_get (deps_of schema) step.position) ++ codes " adds ")
    (printed_names_of schema) step.added

abbrev pub steps_text : Schema → List ClosureStepValue → List ℕ
steps_text schema steps = flat_map (step_text schema) steps

-- a line for what multivalued dependencies give beside, where that is something
abbrev pub IsBesideText : List (List ℕ) → Attributes → List ℕ → Type 0
IsBesideText names beside text =
    (IsEmpty beside × (text ≡ []))
    ⊎ ((IsEmpty beside → ⊥) × (text ≡ set_line (codes "by multivalued dependencies: ") names beside))

-- the set, its steps, what is beside them, and the closed set
abbrev pub closure_text : Schema → Attributes → List ClosureStepValue → List ℕ → Attributes → List ℕ
closure_text schema x steps beside closed =
    set_line (codes "start ") (printed_names_of schema) x ++ steps_text schema steps ++ beside
    ++ set_line (codes "closure ") (printed_names_of schema) closed

-- ---- answers
-- the steps by which a set is closed under the functional dependencies, what it determines by all
-- dependencies beside what they reach, and all that it determines
pub record ComesAbout (schema : Schema) (x : Attributes) (text : List ℕ) : Type 0 where
  pub steps : List ClosureStepValue
  pub are_steps : AreClosureSteps (theory_of schema) x steps
  pub closed : Attributes
  pub is_closure : (a : ℕ) → (closed a ≡ true) ↔ InClosure (width_of schema) (theory_of schema) x a
  pub beside : List ℕ
  pub is_beside : IsBesideText (printed_names_of schema) (difference closed (reached x steps)) beside
  pub reads : text ≡ closure_text schema x steps beside closed

-- yes, with how the closure of a set comes about
abbrev pub TellsClosure : Schema → Attributes → Allowed
TellsClosure schema x response = (text : List ℕ) × ComesAbout schema x text × Says Yes text response

-- the same of a set that is given as a text
abbrev pub GivesClosure : Schema → List ℕ → Allowed
GivesClosure schema set = WithSet schema set (TellsClosure schema)
