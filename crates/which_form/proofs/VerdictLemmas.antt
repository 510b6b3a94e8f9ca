-- What is found of a form: the answer of a test, and nothing where a higher form gives it.
use Rattle.std.proofs.Common.{ℕ, ◌↔◌, List, Result, refl}
use Rattle.std.specs.Prelude.{Option, None, IsNone, IfSome, IfOk}
use Rattle.attr_sets.specs.Attributes.{Attributes}
use Rattle.attr_sets.specs.Sets.{attributes}
use Rattle.dep_model.specs.Dependencies.{Dependency}
use Rattle.dep_model.proofs.FailureLemmas.{IfOk_both}
use Rattle.normal_forms.specs.declared.forms.Breach.{Breach}
use Rattle.normal_forms.specs.declared.forms.TooWide.{TooWide}
use Rattle.which_form.specs.declared.forms.TestedForm.{TestedForm}
use Rattle.which_form.specs.Tested.{IsInTested, IsNamedViolation}
use Rattle.which_form.specs.Verdicts.{IsVerdict}

-- the scheme is in the form
pub in_form_verdict : (n : ℕ) (ds : List Dependency) (scheme : Attributes) (form : TestedForm) → IsInTested n ds form scheme
    → IsVerdict n ds scheme form None
in_form_verdict n ds scheme form formed = record { none = ((λ _. formed), (λ _. refl)); named = tt }

-- what a test answers
pub tested_verdict : (n : ℕ) (ds : List Dependency) (scheme : Attributes) (form : TestedForm) (answer : Result (Option Breach) TooWide)
    → IfOk answer (λ found. IsNone found ↔ IsInTested n ds form scheme)
    → IfOk answer (λ found. IfSome found (λ breach. IsNamedViolation n ds form scheme (attributes breach.lhs) (attributes breach.rhs)))
    → IfOk answer (IsVerdict n ds scheme form)
tested_verdict n ds scheme form answer none named =
    IfOk_both answer none named (λ found none named. record { none = none; named = named })
