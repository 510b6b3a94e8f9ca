-- The words of the refusals of texts: for the `Display` of their types, and so for every line that
-- refuses a schema, a goal, a set, a plan or a certificate.
use Rattle.std.specs.Prelude.{ℕ, List, ◌++◌, codes}
use Rattle.std.specs.Fmt.{decimal}
use Rattle.schema_grammar.specs.declared.refusal.SchemaRefusal.{SchemaRefusal}
use Rattle.schema_grammar.specs.declared.refusal.SchemaRefusalKind.{SchemaRefusalKind}
use Rattle.schema_grammar.specs.declared.refusal.SchemaRefusalKind.TheVariants as kind
use Rattle.schema_grammar.specs.declared.refusal.Span.{Span}
use Rattle.schema_grammar.specs.declared.refusal.What.{What}
use Rattle.schema_grammar.specs.declared.refusal.What.TheVariants as what

-- what the grammar wants
abbrev pub what_text : What → List ℕ
what_text what.Name = codes "a name"
what_text what.Side = codes "names or ()"
what_text what.Arrow = codes "-> or ->>"
what_text what.LineEnd = codes "the line's end"
what_text what.Number = codes "a number"
what_text what.Colon = codes ":"
what_text what.Rule = codes "a rule"
what_text what.With = codes "with"
what_text what.Scheme = codes "scheme"
what_text what.Type = codes "a type"

-- the reason of a refusal
abbrev pub kind_text : SchemaRefusalKind → List ℕ
kind_text kind.StrangeByte = codes "strange byte"
kind_text kind.BadName = codes "bad name"
kind_text kind.ReservedName = codes "reserved name"
kind_text kind.DoubleName = codes "name declared twice"
kind_text kind.UnknownName = codes "unknown name"
kind_text (kind.Expected w) = codes "expected " ++ what_text w
kind_text kind.TooManyAttributes = codes "too many attributes"
kind_text kind.TooManyDependencies = codes "too many dependencies"
kind_text kind.NoAttributes = codes "no attributes"
kind_text kind.UnknownVersion = codes "unknown version"
kind_text kind.NoScale = codes "no scale from 0 to 9"
kind_text kind.NoType = codes "no type"

-- a place: its line and its column
abbrev pub span_text : Span → List ℕ
span_text span = decimal span.line ++ codes ":" ++ decimal span.column

-- a refusal: its place and its reason
abbrev pub place_and_reason : SchemaRefusal → List ℕ
place_and_reason refusal = span_text refusal.span ++ codes " " ++ kind_text refusal.kind
