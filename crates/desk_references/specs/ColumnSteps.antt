-- A list of columns, token by token: for `column_of`. `Desk` does not cite it.
use Rattle.std.specs.Prelude.{◌<◌, ◌≤◌, ℕ, List, length, Contains}
use Rattle.desk_references.specs.ColumnLists.{ColumnDiagnostic, NamesColumnAt}
use Rattle.desk_references.specs.declared.columns.TheConstants.{MOST_LISTED_COLUMNS}
use Rattle.lexer.specs.Tokens.{Mark}
use Rattle.schema_grammar.specs.DiagnosticKinds.{DiagnosticKind, diagnostic_kind, number_of}
use Rattle.schema_grammar.specs.Diagnostics.{Carries, NamesWant, TokenDiagnostic}
use Rattle.schema_grammar.specs.declared.refusal.SchemaRefusalKind.{SchemaRefusalKind}

-- a token after others, which name these columns, names one more, and nothing is wrong with it
pub record NamesNext (names : List (List ℕ)) (before : List Mark) (columns : List ℕ) (m : Mark) (column : ℕ)
    : Type 0 where
  pub named : NamesColumnAt names m column
  pub new : Contains columns column → ⊥
  pub room : length columns < MOST_LISTED_COLUMNS
  pub nothing_wrong : (why : DiagnosticKind) → TokenDiagnostic (ColumnDiagnostic names) before m why → ⊥

-- a token after others is refused for the reason of the least number
pub record IsRefusedNext (names : List (List ℕ)) (before : List Mark) (m : Mark) (kind : SchemaRefusalKind)
    : Type 0 where
  pub stands : TokenDiagnostic (ColumnDiagnostic names) before m (diagnostic_kind kind)
  pub carries : Carries (NamesWant (length before)) kind
  pub least : (why : DiagnosticKind) → TokenDiagnostic (ColumnDiagnostic names) before m why
      → number_of (diagnostic_kind kind) ≤ number_of why
