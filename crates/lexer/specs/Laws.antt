-- The laws that the test of names takes exactly names, and that a quoted name is one token: for the
-- functions of `laws.rt`. `Desk` does not cite it.
use Rattle.std.specs.Prelude.{◌≡◌, ◌↔◌, ℕ, ◌+◌, true, false, List, [], ◌∷◌, ◌++◌, length, nat_eq}
use Rattle.std.specs.List.{starts_with}
use Rattle.schema_model.specs.Names.{IsName}
use Rattle.lexer.specs.declared.mode.Mode.{Mode}
use Rattle.lexer.specs.declared.token.TokenKind.TheVariants as token
use Rattle.lexer.specs.Quotes.{is_name}
use Rattle.schema_model.specs.Names.{quoted}
use Rattle.lexer.specs.Tokens.{tokens_after, led_by_mark}

-- the test of a name
abbrev pub NamesAreTested : Type 0
NamesAreTested = (bytes : List ℕ) → (is_name bytes ≡ true) ↔ IsName bytes

-- where quotes are taken, the quoted text of a name is one token for that name, whatever follows but a
-- quote
abbrev pub QuotedNames : Type 0
QuotedNames =
    (m : Mode) (column : ℕ) (name rest : List ℕ)
    → m.quotes ≡ true → is_name name ≡ true → starts_with nat_eq rest (34 ∷ []) ≡ false
    → tokens_after m 0 column (quoted name ++ rest)
    ≡ led_by_mark (record { kind = token.Quoted; column = column; length = length (quoted name); word = name })
    (tokens_after m 0 (column + length (quoted name)) rest)
