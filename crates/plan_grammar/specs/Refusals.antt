-- The kind of diagnostic that a refusal of a plan text is: for which refusal is the first, and for
-- what is printed of it (`desk_inputs/Plans`).
use Rattle.schema_grammar.specs.DiagnosticKinds.{DiagnosticKind, empty_scheme, not_covered, too_many_schemes, diagnostic_kind}
use Rattle.plan_grammar.specs.declared.refusal.PlanRefusal.{PlanRefusal}
use Rattle.plan_grammar.specs.declared.refusal.PlanRefusal.TheVariants as plan

-- the kind of diagnostic that a refusal is
abbrev pub plan_diagnostic_kind : PlanRefusal → DiagnosticKind
plan_diagnostic_kind (plan.Text e) = diagnostic_kind e.kind
plan_diagnostic_kind (plan.EmptyScheme line) = empty_scheme
plan_diagnostic_kind (plan.NotCovered attribute) = not_covered
plan_diagnostic_kind (plan.TooManySchemes line) = too_many_schemes
