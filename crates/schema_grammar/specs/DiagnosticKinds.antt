-- The kinds of diagnostics of schema texts, goals, sets, plans and lines of certificates, and the number
-- of each: for the definitions of what is wrong with a text, and for what is printed of a refusal.
use Rattle.std.specs.Prelude.{◌≡◌, ◌<◌, ◌≤◌, ◌⊎◌, ℕ}
use Rattle.lexer.specs.declared.token.Flaw.{Flaw}
use Rattle.lexer.specs.declared.token.Flaw.TheVariants as flaw
use Rattle.schema_grammar.specs.declared.refusal.SchemaRefusalKind.{SchemaRefusalKind}
use Rattle.schema_grammar.specs.declared.refusal.SchemaRefusalKind.TheVariants as kind

-- the kinds of diagnostics; whatever the grammar expects is of one kind, and so is a scale
-- or a type that is none
pub data DiagnosticKind : Type 0 where
  strange_byte : DiagnosticKind
  bad_name : DiagnosticKind
  reserved_name : DiagnosticKind
  double_name : DiagnosticKind
  unknown_name : DiagnosticKind
  expected : DiagnosticKind
  too_many_attributes : DiagnosticKind
  too_many_dependencies : DiagnosticKind
  no_attributes : DiagnosticKind
  empty_scheme : DiagnosticKind
  not_covered : DiagnosticKind
  too_many_schemes : DiagnosticKind
  unknown_version : DiagnosticKind
  no_column_type : DiagnosticKind

-- the number by which a kind is printed
abbrev pub number_of : DiagnosticKind → ℕ
number_of strange_byte = 1
number_of bad_name = 2
number_of reserved_name = 3
number_of double_name = 4
number_of unknown_name = 5
number_of expected = 6
number_of too_many_attributes = 7
number_of too_many_dependencies = 8
number_of no_attributes = 9
number_of empty_scheme = 10
number_of not_covered = 11
number_of too_many_schemes = 12
number_of unknown_version = 13
number_of no_column_type = 14

-- a diagnostic comes no later than another: it stands at an earlier position, or at the same one and
-- has no greater number
abbrev pub IsNoLater : ℕ → DiagnosticKind → ℕ → DiagnosticKind → Type 0
IsNoLater p why q other = (p < q) ⊎ ((p ≡ q) × (number_of why ≤ number_of other))

-- the kind of diagnostic that a refusal is
abbrev pub diagnostic_kind : SchemaRefusalKind → DiagnosticKind
diagnostic_kind kind.StrangeByte = strange_byte
diagnostic_kind kind.BadName = bad_name
diagnostic_kind kind.ReservedName = reserved_name
diagnostic_kind kind.DoubleName = double_name
diagnostic_kind kind.UnknownName = unknown_name
diagnostic_kind (kind.Expected what) = expected
diagnostic_kind kind.TooManyAttributes = too_many_attributes
diagnostic_kind kind.TooManyDependencies = too_many_dependencies
diagnostic_kind kind.NoAttributes = no_attributes
diagnostic_kind kind.UnknownVersion = unknown_version
diagnostic_kind kind.NoScale = no_column_type
diagnostic_kind kind.NoType = no_column_type

-- and that of bytes that are no token
abbrev pub diagnostic_of_flaw : Flaw → DiagnosticKind
diagnostic_of_flaw flaw.StrangeByte = strange_byte
diagnostic_of_flaw flaw.BadName = bad_name
