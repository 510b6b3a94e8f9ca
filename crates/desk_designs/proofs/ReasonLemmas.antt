-- The plan of a normal form, below how it comes about, is what its explanation allows.
use Rattle.std.proofs.Common.{ℕ, List, ◌++◌, refl, inl, inr}
use Rattle.attr_sets.specs.declared.set.AttrSet.{AttrSet}
use Rattle.dep_model.specs.Plans.{schemes_of}
use Rattle.dep_model.specs.declared.form.Form.{Form}
use Rattle.dep_model.specs.declared.form.Form.TheVariants.{Third, Bcnf, Fourth}
use Rattle.plan_printer.specs.Printing.{plan_text}
use Rattle.schema_model.specs.Schemas.{Schema}
use Rattle.schema_printer.specs.Spelling.{printed_names_of}
use Rattle.desk_responses.specs.ResponseValues.{text_only}
use Rattle.desk_responses.specs.declared.status.Status.TheVariants.{Yes}
use Rattle.desk_designs.specs.Decompositions.{IsPlanInForm, IsSplitInForm}
use Rattle.desk_designs.specs.Synthesis.{IsThirdFormPlan}
use Rattle.desk_designs.specs.SplitReasons.{AreReasonsInForm, AreSplitReasons, ExplainsCuts, ExplainsSplit}
use Rattle.desk_designs.specs.SynthesisReasons.{AreSynthesisReasons, ExplainsSynthesis}

-- the text of a plan
abbrev pub plain_text : Schema → List AttrSet → List ℕ
plain_text s plan = plan_text (printed_names_of s) (schemes_of plan)

pub explains_synthesis : (s : Schema) (plan : List AttrSet) (reasons : List ℕ) → IsThirdFormPlan s plan → AreSynthesisReasons s reasons
    → ExplainsSynthesis s (text_only Yes (reasons ++ plain_text s plan))
explains_synthesis s plan reasons is are = (text_only Yes (plain_text s plan), (plan, is, refl), inl (refl, (reasons, are, refl)))

pub explains_cuts : (s : Schema) (form : Form) (plan : List AttrSet) (reasons : List ℕ) → IsSplitInForm s form plan
    → AreSplitReasons s form reasons → ExplainsCuts s form (text_only Yes (reasons ++ plain_text s plan))
explains_cuts s form plan reasons is are =
    (text_only Yes (plain_text s plan), inr (plan, is, refl), inl (refl, (reasons, are, refl)))

pub explains_plan : (s : Schema) (form : Form) (plan : List AttrSet) (reasons : List ℕ) → IsPlanInForm s form plan
    → AreReasonsInForm s form reasons → ExplainsSplit s form (text_only Yes (reasons ++ plain_text s plan))
explains_plan s Third plan reasons is are = explains_synthesis s plan reasons is are
explains_plan s Bcnf plan reasons is are = explains_cuts s Bcnf plan reasons is are
explains_plan s Fourth plan reasons is are = explains_cuts s Fourth plan reasons is are
