-- A dependency read from left to right: for `read_goal` and the laws of schema_grammar, which tie
-- it to the meaning. `Desk` does not cite it.
use Rattle.std.specs.Prelude.{ℕ, ◌+◌, List, [], ◌∷◌, Option, Some, None, Result, Ok, Err}
use Rattle.schema_model.specs.declared.naming.Naming.{Naming}
use Rattle.dep_model.specs.Dependencies.{Dependency}
use Rattle.lexer.specs.Modes as mode
use Rattle.lexer.specs.declared.token.LexError.{LexError}
use Rattle.lexer.specs.declared.token.TokenKind.{TokenKind}
use Rattle.lexer.specs.declared.token.TokenKind.TheVariants as token
use Rattle.lexer.specs.Tokens.{Mark, lex}
use Rattle.schema_grammar.specs.declared.refusal.SchemaRefusal.{SchemaRefusal}
use Rattle.schema_grammar.specs.declared.refusal.SchemaRefusalKind.{SchemaRefusalKind}
use Rattle.schema_grammar.specs.declared.symbol.Sign.TheVariants as sign
use Rattle.schema_grammar.specs.declared.symbol.Symbol.{Symbol}
use Rattle.schema_grammar.specs.declared.symbol.Symbol.TheVariants as symbol
use Rattle.schema_grammar.specs.declared.format.Format.{Format}
use Rattle.schema_grammar.specs.declared.format.Format.TheVariants as format
use Rattle.schema_grammar.specs.Grammar.{Reached, start, advance, finish_dependency}
use Rattle.schema_grammar.specs.Refusals.{refused_by, at, expect}
use Rattle.schema_grammar.specs.Rests.{Rest, ◌>>=◌, rest_from}
use Rattle.schema_grammar.specs.Words.{look_up}

-- what a token stands for: a word or a quoted name is looked up among the declared names
abbrev pub symbol_of : Format → List (List ℕ) → TokenKind → List ℕ → Result Symbol SchemaRefusalKind
symbol_of f declared token.Identifier word =
    look_up f declared token.Identifier word >>= (λ a. Ok (symbol.Attribute a))
symbol_of f declared token.Quoted word =
    look_up f declared token.Quoted word >>= (λ a. Ok (symbol.Attribute a))
symbol_of f declared token.Arrow word = Ok (symbol.Arrow sign.Functional)
symbol_of f declared token.DoubleArrow word = Ok (symbol.Arrow sign.Multivalued)
symbol_of f declared token.Empty word = Ok symbol.Empty
symbol_of f declared (token.Number n) word = Ok symbol.Other
symbol_of f declared token.Colon word = Ok symbol.Other

-- one token more: its word is looked up first, then the grammar decides
unfoldable pub step : Format → List (List ℕ) → Reached → TokenKind → List ℕ → Result Reached SchemaRefusalKind
step f declared reading kind word =
    symbol_of f declared kind word >>= (λ s. expect (advance reading s))

-- the dependency that the tokens from here on state; `column` is the place of the line's end where
-- no token is left
unfoldable pub follow : Format → List (List ℕ) → ℕ → Reached → ℕ → List Mark → Option LexError
    → Result Dependency SchemaRefusal
follow f declared line reading column [] None = at line column 0 (expect (finish_dependency reading))
follow f declared line reading column [] (Some stop) = Err (refused_by line stop)
follow f declared line reading column (m ∷ ms) stop =
    at line m.column m.length (step f declared reading m.kind m.word)
    >>= (λ next. follow f declared line next (m.column + m.length) ms stop)

-- the same of what is left of a line
abbrev pub follow_rest : Format → List (List ℕ) → Reached → Rest → Result Dependency SchemaRefusal
follow_rest f declared reading r = follow f declared r.line reading r.next_column r.marks r.stop

-- the dependency that a goal states over declared names, or its refusal
abbrev pub read_goal : Naming → List (List ℕ) → List ℕ → Result Dependency SchemaRefusal
read_goal naming declared text = follow_rest format.Plain declared start (rest_from 1 1 (lex (mode.goal naming) text))
