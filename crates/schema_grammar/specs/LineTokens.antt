-- The tokens of a line of a schema text: for the meaning of schema texts (`Schemas`) and their reading.
use Rattle.std.specs.Prelude.{ℕ, List, [], ◌∷◌}
use Rattle.schema_model.specs.declared.naming.Naming.{Naming}
use Rattle.schema_model.specs.declared.naming.Naming.TheVariants.{Bare, Any}
use Rattle.lexer.specs.Modes as mode
use Rattle.lexer.specs.declared.mode.Mode.{Mode}
use Rattle.lexer.specs.Tokens.{Mark, Lexed, lex}
use Rattle.schema_grammar.specs.declared.format.Format.{Format}
use Rattle.schema_grammar.specs.declared.format.Format.TheVariants as format
use Rattle.schema_grammar.specs.declared.line_kind.LineKind.{LineKind}
use Rattle.schema_grammar.specs.declared.line_kind.LineKind.TheVariants as begins
use Rattle.schema_grammar.specs.Words.{line_kind}

-- which names the texts of a format declare
abbrev pub naming_in : Format → Naming
naming_in format.Plain = Bare
naming_in format.Typed = Bare
naming_in format.Full = Any

-- numbers are tokens where decimal columns are declared
abbrev pub mode_of_kind : Format → LineKind → Mode
mode_of_kind f begins.Decimal = mode.scaled (naming_in f)
mode_of_kind f _ = mode.plain (naming_in f)

-- by the first token
abbrev pub mode_by_head : Format → List Mark → Mode
mode_by_head f [] = mode.plain (naming_in f)
mode_by_head f (m ∷ ms) = mode_of_kind f (line_kind f m.kind m.word)

-- which tokens a line may have
unfoldable pub line_mode : Format → List ℕ → Mode
line_mode f text = mode_by_head f (lex (mode.plain (naming_in f)) text).marks

-- the tokens of a line
abbrev pub lex_line : Format → List ℕ → Lexed
lex_line f text = lex (line_mode f text) text
