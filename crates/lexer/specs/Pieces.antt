-- The longest piece at the front of a text: for `next_token`, by `Tokens`.
use Rattle.std.specs.Prelude.{ℕ, ◌+◌, ◌==◌, ◌&&◌, Option, Some, None, List, [], ◌∷◌, length, take, drop, nat_eq, if◌then◌else◌}
use Rattle.std.specs.List.{starts_with}
use Rattle.lexer.specs.declared.piece.Piece.{Piece}
use Rattle.lexer.specs.declared.piece.Piece.TheVariants as piece
use Rattle.lexer.specs.declared.token.Flaw.TheVariants as flaw
use Rattle.lexer.specs.declared.mode.Mode.{Mode}
use Rattle.lexer.specs.declared.token.TokenKind.TheVariants as token
use Rattle.schema_model.specs.Names.{is_bare_name, is_name_byte}
use Rattle.lexer.specs.Bytes.{is_gap, run_length, is_number, number_of}
use Rattle.lexer.specs.Quotes.{is_name, closing_quote, undoubled}

-- what a run of letters, digits and `_` is
unfoldable pub run_piece : Mode → List ℕ → Piece
run_piece m run =
    if is_bare_name run then piece.Token token.Identifier (length run)
    else if m.numbers && is_number run then piece.Token (token.Number (number_of run)) (length run)
    else piece.Flaw flaw.BadName (length run)

-- a quoted text of this length, with the bytes that stand between its quotes: a token, where they
-- spell a name, or a flaw
abbrev pub quoted_text : List ℕ → ℕ → Piece
quoted_text inner n =
    if is_name (undoubled inner) then piece.Token token.Quoted n else piece.Flaw flaw.BadName n

-- what begins with a quote, by how many bytes stand between it and the quote that closes
abbrev pub closed_piece : List ℕ → Option ℕ → Piece
closed_piece text None = piece.Flaw flaw.BadName (length text)
closed_piece text (Some n) = quoted_text (take n (drop 1 text)) (n + 2)

-- what begins with a quote
unfoldable pub quoted_piece : List ℕ → Piece
quoted_piece text = closed_piece text (closing_quote (drop 1 text))

-- the longest piece at the front of a text: a blank, a tab or a comma; a comment; a token; or
-- bytes that are none
unfoldable pub front_piece : Mode → List ℕ → Piece
front_piece m [] = piece.Comment
front_piece m (b ∷ bs) =
    if is_gap b then piece.Gap
    else if (b == 35) && m.comments then piece.Comment
    else if is_name_byte b then run_piece m (take (run_length (b ∷ bs)) (b ∷ bs))
    else if starts_with nat_eq (b ∷ bs) (45 ∷ 62 ∷ 62 ∷ []) then piece.Token token.DoubleArrow 3
    else if starts_with nat_eq (b ∷ bs) (45 ∷ 62 ∷ []) then piece.Token token.Arrow 2
    else if starts_with nat_eq (b ∷ bs) (40 ∷ 41 ∷ []) then piece.Token token.Empty 2
    else if (b == 34) && m.quotes then quoted_piece (b ∷ bs)
    else if (b == 58) && m.colon then piece.Token token.Colon 1
    else piece.Flaw flaw.StrangeByte 1
