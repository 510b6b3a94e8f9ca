-- The plan of a normal form, and why there is none, are what the command says; and what is named of a violation lies
-- within the universe.
use Rattle.std.proofs.Common.{◌≡◌, ℕ, List, [], Err, refl, sym, ap, ◌∙◌, append-nil, inl, inr}
use Rattle.attr_sets.specs.Attributes.{Attributes, IsSubset}
use Rattle.attr_sets.specs.declared.set.AttrSet.{AttrSet}
use Rattle.dep_model.specs.Dependencies.{Dependency}
use Rattle.dep_model.specs.declared.form.Form.{Form}
use Rattle.dep_model.specs.declared.form.Form.TheVariants.{Third, Bcnf, Fourth}
use Rattle.which_form.specs.Tested.{IsNamedViolation}
use Rattle.which_form.specs.declared.forms.TestedForm.{TestedForm}
use Rattle.which_form.specs.declared.forms.TestedForm.TheVariants.{Second, Higher}
use Rattle.schema_model.specs.Schemas.{Schema}
use Rattle.html_pages.specs.Pages.{open_text}
use Rattle.desk_responses.specs.ResponseValues.{ResponseValue, text_only}
use Rattle.desk_responses.specs.Responses.{ExitsAs, response_value}
use Rattle.desk_responses.specs.declared.response.EarlyExit.{EarlyExit}
use Rattle.desk_responses.specs.declared.response.EarlyExit.TheVariants.{Answered, OutOfMemory}
use Rattle.desk_responses.specs.declared.status.Status.TheVariants.{Yes}
use Rattle.desk_designs.specs.Decompositions.{FormStops, IsPlanInForm}
use Rattle.desk_designs.proofs.ReasonLemmas.{plain_text}
use Rattle.desk_reports.specs.Answers.{OpensText}
use Rattle.desk_reports.specs.Pieces.{Opens, Then}
use Rattle.desk_reports.specs.Tables.{GivesPlan, ShowsTablesIfAny}

pub gives_plan : (s : Schema) (form : Form) (plan : List AttrSet) → IsPlanInForm s form plan
    → GivesPlan s form (text_only Yes (plain_text s plan))
gives_plan s Third plan is = (plan, is, refl)
gives_plan s Bcnf plan is = inr (plan, is, refl)
gives_plan s Fourth plan is = inr (plan, is, refl)

pub gives_stop : (s : Schema) (form : Form) (response : ResponseValue) → FormStops s form response
    → GivesPlan s form response
gives_stop s Third response stops = absurd stops
gives_stop s Bcnf response stops = inl stops
gives_stop s Fourth response stops = inl stops

pub left_side_within : (n : ℕ) (ds : List Dependency) (form : TestedForm) (scheme x y : Attributes)
    → IsNamedViolation n ds form scheme x y → IsSubset x scheme
left_side_within n ds Second scheme x y is = is.within
left_side_within n ds (Higher form) scheme x y is = is.within

-- the piece of a plan that is refused, after which nothing stands
pub refused_piece : (s : Schema) (file : List ℕ) (form : Form) (title said : List ℕ) (exit : EarlyExit) → said ≡ title
    → ExitsAs (FormStops s form) exit → (piece : List ℕ) → OpensText said (Err exit) piece
    → Then (Opens title (GivesPlan s form)) (ShowsTablesIfAny file s form) piece
refused_piece s file form title said (Answered response) same exits piece (printed, is, whole) =
    let stops = exits response refl in (
      piece,
      [],
      (
        printed,
        (response_value response, gives_stop s form (response_value response) stops, is),
        whole ∙ ap (λ (t : List ℕ). open_text t printed) same,
      ),
      inl (response_value response, stops, refl),
      sym (append-nil piece),
    )
refused_piece s file form title said OutOfMemory same exits piece (printed, is, whole) = absurd is
