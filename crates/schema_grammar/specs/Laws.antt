-- The laws that tie the reading of a text to what it means, and what printed schemas mean: for the
-- functions of `laws.rt`. `Desk` does not cite it.
use Rattle.std.specs.Prelude.{◌≡◌, ◌<◌, ◌≤◌, ◌↔◌, ℕ, List, length, Ok, Err, All}
use Rattle.attr_sets.specs.Attributes.{Attributes}
use Rattle.schema_model.specs.declared.naming.Naming.{Naming}
use Rattle.schema_model.specs.Schemas.{Schema}
use Rattle.schema_grammar.specs.declared.format.TheConstants.{MOST_DEPENDENCY_LINES}
use Rattle.dep_model.specs.Dependencies.{Dependency}
use Rattle.schema_model.specs.Schemas.{names_of, types_of, theory_of, naming_of, nullable_of, deps_of}
use Rattle.lexer.specs.declared.mode.Mode.{Mode}
use Rattle.lexer.specs.Tokens.{lex}
use Rattle.schema_grammar.specs.declared.format.Format.{Format}
use Rattle.schema_grammar.specs.declared.format.Format.TheVariants as format
use Rattle.schema_grammar.specs.declared.refusal.SchemaRefusal.{SchemaRefusal}
use Rattle.schema_grammar.specs.Diagnostics.{FitsGoal, FitsTextLine, RefusesGoal, span_at}
use Rattle.schema_grammar.specs.Declarations.{Declarations, read_line}
use Rattle.schema_grammar.specs.LineTokens.{lex_line}
use Rattle.schema_grammar.specs.Meanings.{MeansGoal}
use Rattle.schema_grammar.specs.Printed.{IsReadBack, AreDeclaredNames}
use Rattle.schema_printer.specs.Printing.{schema_text}
use Rattle.schema_grammar.specs.Reading.{read_goal}
use Rattle.schema_grammar.specs.Schemas.{FitsLines, FitsSchema, MeansSchema, RefusesSchema}
use Rattle.schema_grammar.specs.Sets.{FitsSet, MeansSet, RefusesSet, read_set}
use Rattle.schema_grammar.specs.Texts.{read_lines, read_text}

-- ---- goals
-- a goal is read exactly as what it means
abbrev pub GoalMeaning : Type 0
GoalMeaning = (naming : Naming) (declared : List (List ℕ)) (text : List ℕ) (d : Dependency)
    → (read_goal naming declared text ≡ Ok d) ↔ MeansGoal naming declared text d

-- it is refused by its first diagnostic, or has none and is read
abbrev pub GoalDiagnostics : Type 0
GoalDiagnostics =
    (naming : Naming) (declared : List (List ℕ)) (text : List ℕ)
    → FitsGoal naming declared text (read_goal naming declared text)

-- the reading refuses it exactly as the definition does
abbrev pub GoalRefusal : Type 0
GoalRefusal =
    (naming : Naming) (declared : List (List ℕ)) (text : List ℕ) (e : SchemaRefusal)
    → (read_goal naming declared text ≡ Err e) ↔ RefusesGoal naming declared text e

-- ---- sets: the same three
abbrev pub SetMeaning : Type 0
SetMeaning =
    (naming : Naming) (declared : List (List ℕ)) (text : List ℕ) (x : Attributes)
    → (read_set naming declared text ≡ Ok x) ↔ MeansSet naming declared text x

abbrev pub SetDiagnostics : Type 0
SetDiagnostics =
    (naming : Naming) (declared : List (List ℕ)) (text : List ℕ)
    → FitsSet naming declared text (read_set naming declared text)

abbrev pub SetRefusal : Type 0
SetRefusal =
    (naming : Naming) (declared : List (List ℕ)) (text : List ℕ) (e : SchemaRefusal)
    → (read_set naming declared text ≡ Err e) ↔ RefusesSet naming declared text e

-- ---- schema texts: the same three of a text, and the diagnostics of a line and of lines
abbrev pub SchemaMeaning : Type 0
SchemaMeaning = (text : List ℕ) (whole : Declarations) → (read_text text ≡ Ok whole) ↔ MeansSchema text whole

abbrev pub TextLineDiagnostics : Type 0
TextLineDiagnostics =
    (f : Format) (number : ℕ) (d : Declarations) (line : List ℕ)
    → FitsTextLine f d number (lex_line f line).marks (lex_line f line).stop (read_line f number d line)

abbrev pub LinesDiagnostics : Type 0
LinesDiagnostics =
    (f : Format) (first : ℕ) (d : Declarations) (lines : List (List ℕ))
    → FitsLines f first d lines (read_lines f first d lines)

abbrev pub SchemaDiagnostics : Type 0
SchemaDiagnostics = (text : List ℕ) → FitsSchema text (read_text text)

abbrev pub SchemaRefused : Type 0
SchemaRefused = (text : List ℕ) (e : SchemaRefusal) → (read_text text ≡ Err e) ↔ RefusesSchema text e

-- a later position of a line stands in a greater column
abbrev pub PositionsRise : Type 0
PositionsRise =
    (m : Mode) (line : ℕ) (text : List ℕ) (p q : ℕ) → p < q → q ≤ length (lex m text).marks
    → (span_at line 1 (lex m text).marks (lex m text).stop p).column <
    (span_at line 1 (lex m text).marks (lex m text).stop q).column

-- ---- printed schemas
-- the printed text of a schema declares what the schema has, where its names are read again
abbrev pub PrintedSchemaMeans : Type 0
PrintedSchemaMeans =
    (s : Schema) → length (deps_of s) ≤ MOST_DEPENDENCY_LINES
    → All (IsReadBack format.Plain (naming_of s)) (names_of s)
    → (lines : List ℕ) × MeansSchema (schema_text s (theory_of s))
    (record {
      names = names_of s;
      columns = types_of s;
      deps = theory_of s;
      lines = lines;
      naming = naming_of s;
      nullable = nullable_of s;
    })

-- what a schema text declares are names, which differ; where only bare names are declared, each is a bare one,
-- and none is reserved
abbrev pub DeclaredNames : Type 0
DeclaredNames = (text : List ℕ) (d : Declarations) → MeansSchema text d → AreDeclaredNames d.naming d.names
