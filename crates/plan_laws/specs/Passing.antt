-- What the tests of plans say of the plans that commands give: for the laws of `passing`. `Desk` does not
-- cite it.
use Rattle.std.specs.Prelude.{◌≡◌, ◌⊎◌, List, Any}
use Rattle.attr_sets.specs.Attributes.{Attributes}
use Rattle.schema_model.specs.Schemas.{Schema}
use Rattle.schema_model.specs.Schemas.{theory_of}
use Rattle.which_form.specs.declared.forms.TestedForm.{TestedForm}
use Rattle.fd_closure.specs.LeftSides.{IsWideScheme}
use Rattle.desk_responses.specs.declared.status.Status.TheVariants.{Yes, Refused}
use Rattle.desk_responses.specs.ResponseValues.{ResponseValue, Says}
use Rattle.desk_designs.specs.NormalForms.{JudgesForm, in_form_text}
use Rattle.desk_designs.specs.Joins.{JudgesJoin, IsTooLarge, lossless_text}
use Rattle.desk_designs.specs.Keeping.{JudgesKeeping, kept_text}

-- `check form` says yes of a plan, or refuses it for a scheme that is too wide to be searched
abbrev pub PassesCheckForm : Schema → TestedForm → List Attributes → Type 0
PassesCheckForm schema form plan =
    (response : ResponseValue) → JudgesForm schema form plan response
    → Says Yes (in_form_text form) response ⊎ (Any (IsWideScheme (theory_of schema)) plan × (response.status ≡ Refused))

-- `check join` says yes of a plan, or refuses it for a tableau of too many rows
abbrev pub PassesCheckJoin : Schema → List Attributes → Type 0
PassesCheckJoin schema plan =
    (response : ResponseValue) → JudgesJoin schema plan response
    → Says Yes lossless_text response ⊎ (IsTooLarge schema plan × (response.status ≡ Refused))

-- `check keeps` says yes of a plan
abbrev pub PassesCheckKeeps : Schema → List Attributes → Type 0
PassesCheckKeeps schema plan =
    (response : ResponseValue) → JudgesKeeping schema plan response → Says Yes kept_text response
