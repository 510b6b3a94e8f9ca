-- Refusals at a place of a text: for the meaning and the reading of schema texts, goals, sets,
-- plans and certificates.
use Rattle.std.specs.Prelude.{◌≡◌, ℕ, Result, Ok, Err}
use Rattle.dep_model.specs.Failures.{RefusesAs}
use Rattle.dep_model.specs.declared.failure.Failure.{Failure}
use Rattle.lexer.specs.declared.token.Flaw.{Flaw}
use Rattle.lexer.specs.declared.token.Flaw.TheVariants as flaw
use Rattle.lexer.specs.declared.token.LexError.{LexError}
use Rattle.schema_grammar.specs.declared.refusal.SchemaRefusal.{SchemaRefusal}
use Rattle.schema_grammar.specs.declared.refusal.SchemaRefusalKind.{SchemaRefusalKind}
use Rattle.schema_grammar.specs.declared.refusal.SchemaRefusalKind.TheVariants as kind
use Rattle.schema_grammar.specs.declared.refusal.What.{What}

-- a refusal at a place
abbrev pub refusal : ℕ → ℕ → ℕ → SchemaRefusalKind → SchemaRefusal
refusal line column length why =
    record { span = record { line = line; column = column; length = length }; kind = why }

abbrev pub kind_of_flaw : Flaw → SchemaRefusalKind
kind_of_flaw flaw.StrangeByte = kind.StrangeByte
kind_of_flaw flaw.BadName = kind.BadName

-- the refusal of bytes that are no token
abbrev pub refused_by : ℕ → LexError → SchemaRefusal
refused_by line stop = refusal line stop.column stop.length (kind_of_flaw stop.flaw)

-- an error gets its place
abbrev pub at : {X : Type 0} → ℕ → ℕ → ℕ → Result X SchemaRefusalKind → Result X SchemaRefusal
at line column length (Ok x) = Ok x
at line column length (Err why) = Err (refusal line column length why)

-- an error of the grammar
abbrev pub expect : {X : Type 0} → Result X What → Result X SchemaRefusalKind
expect (Ok x) = Ok x
expect (Err what) = Err (kind.Expected what)

-- a refusal is that of the reading
abbrev pub Refuses : {X R : Type 0} → Failure R → Result X R → Type 0
Refuses failure reading = RefusesAs (λ refusal. reading ≡ Err refusal) failure
