-- `split` has one answer, and so has every command up to the plan in a normal form that it takes.
use Rattle.std.proofs.Common.{◌≡◌, List, sym, ap, ◌∙◌, inl, inr}
use Rattle.attr_sets.specs.declared.set.AttrSet.{AttrSet}
use Rattle.dep_model.specs.Plans.{schemes_of}
use Rattle.schema_model.specs.Schemas.{width_of, theory_of}
use Rattle.schema_model.specs.Schemas.{Schema}
use Rattle.dep_model.specs.declared.form.Form.{Form}
use Rattle.dep_model.specs.declared.form.Form.TheVariants.{Third, Bcnf, Fourth}
use Rattle.plan_printer.specs.Printing.{plan_text}
use Rattle.schema_printer.specs.Spelling.{printed_names_of}
use Rattle.split_forms.proofs.SplitLemmas.{one_stuck, stuck_within_limit}
use Rattle.implication_laws.specs.OneAnswer.{AllowsOne}
use Rattle.implication_laws.proofs.StepLaws.{same_says, With-alike}
use Rattle.desk_responses.specs.Lines.{too_wide_text}
use Rattle.desk_responses.specs.ResponseValues.{ResponseValue, Allowed}
use Rattle.desk_responses.specs.declared.status.Status.TheVariants.{Yes, Refused}
use Rattle.desk_designs.specs.declared.decomposition.TheConstants.{MOST_SPLIT_SCHEMES}
use Rattle.desk_designs.specs.Decompositions.{FormStops, IsPlanInForm, IsSplitInForm, SplitStops, Splits, SplitsWide, ShowsPlan, WithPlanInForm, wide_split_text}
use Rattle.plan_laws.proofs.FormTables.{same_schemes}
use Rattle.plan_laws.proofs.UniqueLaws.{wide_split_same}

-- ---- the search for a plan
one_split_stop : (s : Schema) (form : Form) → (form ≡ Third → ⊥) → AllowsOne (SplitStops s form)
one_split_stop s form not_third one other (inl (scheme, wide, says)) (inl (second, also, said)) =
    same_says Refused _ _ one other says said
    (ap (too_wide_text (printed_names_of s))
    (one_stuck (width_of s) (theory_of s) form s.valid.names_not_empty not_third MOST_SPLIT_SCHEMES scheme second wide
    also))
one_split_stop s form not_third one other (inl (scheme, wide, says)) (inr (many, said)) =
    absurd (stuck_within_limit (width_of s) (theory_of s) form s.valid.names_not_empty not_third MOST_SPLIT_SCHEMES
    scheme wide many)
one_split_stop s form not_third one other (inr (many, says)) (inl (scheme, wide, said)) =
    absurd (stuck_within_limit (width_of s) (theory_of s) form s.valid.names_not_empty not_third MOST_SPLIT_SCHEMES
    scheme wide many)
one_split_stop s form not_third one other (inr (many, says)) (inr (also, said)) = says ∙ sym said

one_form_stop : (s : Schema) (form : Form) → AllowsOne (FormStops s form)
one_form_stop s Third one other first second = absurd first
one_form_stop s Bcnf one other first second = one_split_stop s Bcnf (λ third. cc) one other first second
one_form_stop s Fourth one other first second = one_split_stop s Fourth (λ third. cc) one other first second

split_goes : (s : Schema) (form : Form) (plan : List AttrSet) (response : ResponseValue) → IsSplitInForm s form plan
    → SplitStops s form response → ⊥
split_goes s form plan response is (inl (scheme, wide, says)) = is.within_limits.narrow scheme wide
split_goes s form plan response is (inr (many, says)) = is.within_limits.within_limit many

form_goes : (s : Schema) (form : Form) (plan : List AttrSet) (response : ResponseValue) → IsPlanInForm s form plan
    → FormStops s form response → ⊥
form_goes s Third plan response is stops = stops
form_goes s Bcnf plan response is stops = split_goes s Bcnf plan response is stops
form_goes s Fourth plan response is stops = split_goes s Fourth plan response is stops

-- after a plan in a form there is one answer, where it rests on the sets of the plan alone
pub one_in_form : (s : Schema) (form : Form) (rest : List AttrSet → Allowed)
    → ((plan others : List AttrSet) (one other : ResponseValue) → schemes_of plan ≡ schemes_of others
    → rest plan one → rest others other → one ≡ other)
    → AllowsOne (WithPlanInForm s form rest)
one_in_form s form rest alike =
    With-alike (FormStops s form) (IsPlanInForm s form) rest (one_form_stop s form)
    (λ plan response is stops. form_goes s form plan response is stops)
    (λ plan others one other is also.
    alike plan others one other (same_schemes s form plan others is also))

-- ---- `split`
one_shown : (s : Schema) (plan others : List AttrSet) (one other : ResponseValue)
    → schemes_of plan ≡ schemes_of others → ShowsPlan s plan one → ShowsPlan s others other → one ≡ other
one_shown s plan others one other same says said =
    same_says Yes _ _ one other says said (ap (plan_text (printed_names_of s)) same)

pub one_split_answer : (s : Schema) (form : Form) → AllowsOne (Splits s form)
one_split_answer s form = one_in_form s form (ShowsPlan s) (one_shown s)

pub one_wide_split_answer : (s : Schema) → AllowsOne (SplitsWide s)
one_wide_split_answer s one other (plan, is, says) (others, also, said) =
    same_says Yes _ _ one other says said (ap (wide_split_text (printed_names_of s)) (wide_split_same s plan others is also))
