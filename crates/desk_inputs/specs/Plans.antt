-- Files of plans.
use Rattle.std.specs.Prelude.{◌≡◌, ℕ, List, ◌++◌, codes}
use Rattle.std.specs.Fmt.{decimal}
use Rattle.schema_model.specs.Schemas.{naming_of, names_of, theory_of, width_of}
use Rattle.schema_model.specs.Schemas.{Schema}
use Rattle.schema_printer.specs.Spelling.{printed_names_of}
use Rattle.plan_reader.specs.declared.reading.TheConstants.{MOST_PLAN_BYTES}
use Rattle.plan_grammar.specs.Diagnostics.{RefusesPlan}
use Rattle.plan_printer.specs.NamedPlans.{NamedSchemes}
use Rattle.design_order.specs.Order.{AreNamesInOrder}
use Rattle.plan_grammar.specs.Meanings.{MeansPlan}
use Rattle.plan_grammar.specs.Refusals.{plan_diagnostic_kind}
use Rattle.plan_grammar.specs.RefusalTexts.{plan_reason_text}
use Rattle.schema_grammar.specs.DiagnosticKinds.{number_of}
use Rattle.plan_grammar.specs.declared.refusal.PlanRefusal.{PlanRefusal}
use Rattle.desk_inputs.specs.FileKinds.{FileKind}
use Rattle.desk_texts.specs.Texts.{line}

-- a refusal of a plan
abbrev pub plan_refusal_text : List (List ℕ) → List ℕ → PlanRefusal → List ℕ
plan_refusal_text names file refusal =
    line (codes "refused: plan " ++ decimal (number_of (plan_diagnostic_kind refusal)) ++ codes " at " ++ file
    ++ codes ":" ++ plan_reason_text names refusal)

-- a text means the schemes of a plan, and the names of its tables, in the order in which a design has these
pub record MeansTables (schema : Schema) (text : List ℕ) (plan : NamedSchemes) : Type 0 where
  pub read : NamedSchemes
  pub means : MeansPlan (naming_of schema) (names_of schema) text read
  pub schemes : plan.schemes ≡ read.schemes
  pub order : AreNamesInOrder (width_of schema) (theory_of schema) read.schemes read.names plan.names

-- plans over a schema
abbrev pub plan_file : Schema → FileKind NamedSchemes PlanRefusal
plan_file schema = record {
  limit = MOST_PLAN_BYTES;
  means = MeansTables schema;
  refuses = RefusesPlan (naming_of schema) (names_of schema);
  refusal_text = plan_refusal_text (printed_names_of schema);
}
