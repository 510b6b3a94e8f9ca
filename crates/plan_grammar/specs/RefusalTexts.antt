-- The words of the refusals of a plan text, over the names of the attributes: for the line that refuses
-- a plan.
use Rattle.std.specs.Prelude.{ℕ, List, [], ◌++◌, codes, slice_index_or}
use Rattle.std.specs.Fmt.{decimal}
use Rattle.schema_grammar.specs.RefusalTexts.{place_and_reason}
use Rattle.plan_grammar.specs.declared.refusal.PlanRefusal.{PlanRefusal}
use Rattle.plan_grammar.specs.declared.refusal.PlanRefusal.TheVariants as plan

-- the place of a refusal, where it has one, and its reason in words
abbrev pub plan_reason_text : List (List ℕ) → PlanRefusal → List ℕ
plan_reason_text names (plan.Text refusal) = place_and_reason refusal
plan_reason_text names (plan.EmptyScheme at) = decimal at ++ codes " empty scheme"
plan_reason_text names (plan.NotCovered attribute) =
    codes " " ++ slice_index_or names attribute [] ++ codes " is in no scheme"
plan_reason_text names (plan.TooManySchemes at) = decimal at ++ codes " too many schemes"
