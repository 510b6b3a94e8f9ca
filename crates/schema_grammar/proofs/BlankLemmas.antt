-- Which lines have no token.
use Rattle.std.proofs.Common.{◌≡◌, ℕ, ◌+◌, zero, suc, Bool, true, false, cond, ◌==◌, ◌&&◌, List, [], ◌∷◌, take, drop, Option, Some, None, nat_eq, refl, sym, ◌∙◌, ap, arith}
use Rattle.std.specs.List.{starts_with}
use Rattle.schema_model.specs.declared.naming.Naming.TheVariants.{Bare}
use Rattle.schema_model.specs.Names.{is_bare_name, is_name_byte}
use Rattle.lexer.specs.declared.piece.Piece.{Piece}
use Rattle.lexer.specs.declared.piece.Piece.TheVariants as piece
use Rattle.lexer.specs.declared.mode.Mode.{Mode}
use Rattle.lexer.specs.Modes as mode
use Rattle.lexer.specs.Bytes.{is_gap, is_number, run_length}
use Rattle.lexer.specs.Pieces.{front_piece, run_piece, closed_piece, quoted_piece}
use Rattle.lexer.specs.Quotes.{is_name, closing_quote, undoubled}
use Rattle.lexer.specs.Tokens.{Lexed, tokens_after, led_by, lex}
use Rattle.schema_grammar.specs.declared.format.Format.{Format}
use Rattle.schema_grammar.specs.LineTokens.{naming_in, mode_by_head, line_mode, lex_line}
use Rattle.schema_grammar.specs.Meanings.{HasTokens}

-- what a piece is to a line without tokens: a gap, a comment, or more than these
abbrev piece_class : Piece → ℕ
piece_class piece.Gap = 0
piece_class piece.Comment = 1
piece_class (piece.Token k n) = 2
piece_class (piece.Flaw why n) = 2

piece_class-cond_two : (b : Bool) (x y : Piece) → piece_class x ≡ 2 → piece_class y ≡ 2 → piece_class (cond b x y) ≡ 2
piece_class-cond_two true x y h g = h
piece_class-cond_two false x y h g = g

piece_class-cond : (b : Bool) (x y : Piece) → piece_class (cond b x y) ≡ cond b (piece_class x) (piece_class y)
piece_class-cond true x y = refl
piece_class-cond false x y = refl

closed_class : (text : List ℕ) (o : Option ℕ) → piece_class (closed_piece text o) ≡ 2
closed_class text None = refl
closed_class text (Some n) = piece_class-cond_two (is_name (undoubled (take n (drop 1 text)))) _ _ refl refl

quoted_class : (text : List ℕ) → piece_class (quoted_piece text) ≡ 2
unfolding quoted_piece
quoted_class text = closed_class text (closing_quote (drop 1 text))

-- whether a line has a token does not depend on numbers
front_class : (m : Mode) (b : ℕ) (bs : List ℕ) → piece_class (front_piece m (b ∷ bs)) ≡ cond (is_gap b) 0 (cond (b == 35 && m.comments) 1 2)
unfolding front_piece run_piece
front_class m b bs =
    let run = take (run_length (b ∷ bs)) (b ∷ bs) in
    piece_class-cond (is_gap b) _ _ ∙ ap (cond (is_gap b) 0)
    (piece_class-cond (b == 35 && m.comments) _ _ ∙ ap (cond (b == 35 && m.comments) 1)
    (piece_class-cond_two (is_name_byte b) _ _
    (piece_class-cond_two (is_bare_name run) _ _ refl (piece_class-cond_two (m.numbers && is_number run) _ _ refl refl))
    (piece_class-cond_two (starts_with nat_eq (b ∷ bs) (45 ∷ 62 ∷ 62 ∷ [])) _ _ refl
    (piece_class-cond_two (starts_with nat_eq (b ∷ bs) (45 ∷ 62 ∷ [])) _ _ refl
    (piece_class-cond_two (starts_with nat_eq (b ∷ bs) (40 ∷ 41 ∷ [])) _ _ refl
    (piece_class-cond_two (b == 34 && m.quotes) _ _ (quoted_class (b ∷ bs))
    (piece_class-cond_two (b == 58 && m.colon) _ _ refl refl)))))))

piece_plain : (p q : Piece) (column : ℕ) (text : List ℕ) (numbered plain : ℕ → Lexed) → piece_class p ≡ piece_class q
    → (HasTokens (numbered 0) [] → HasTokens (plain 0) []) → HasTokens (led_by p column text numbered) [] → HasTokens (led_by q column text plain) []
piece_plain piece.Gap piece.Gap column text numbered plain same rest h = rest h
piece_plain piece.Comment piece.Comment column text numbered plain same rest h = refl
piece_plain (piece.Token k n) q column text numbered plain same rest h = let wrong = ap (λ l. l.marks) h in cc
piece_plain (piece.Flaw why n) q column text numbered plain same rest h = let wrong = ap (λ l. l.stop) h in cc
piece_plain p q column text numbered plain same rest h = absurd (omega arith)

-- a line without tokens, numbers counted, has none
pub lexed_plain : (skip column : ℕ) (text : List ℕ) → HasTokens (tokens_after (mode.numbered Bare) skip column text) []
    → HasTokens (tokens_after (mode.plain Bare) skip column text) []
unfolding tokens_after
lexed_plain skip column [] h = refl
lexed_plain zero column (b ∷ bs) h =
    piece_plain (front_piece (mode.numbered Bare) (b ∷ bs)) (front_piece (mode.plain Bare) (b ∷ bs)) column (b ∷ bs) (λ skip. tokens_after (mode.numbered Bare) skip (column + 1) bs) (λ skip. tokens_after (mode.plain Bare) skip (column + 1) bs)
    (front_class (mode.numbered Bare) b bs ∙ sym (front_class (mode.plain Bare) b bs)) (lexed_plain zero (column + 1) bs) h
lexed_plain (suc n) column (b ∷ bs) h = lexed_plain n (column + 1) bs h

-- and so no token where a line of a schema text is read
pub blank_line : (f : Format) (text : List ℕ) → HasTokens (lex (mode.plain (naming_in f)) text) []
    → HasTokens (lex_line f text) []
unfolding line_mode
blank_line f text none =
    let same : line_mode f text ≡ mode.plain (naming_in f) = ap (λ l. mode_by_head f l.marks) none in
    ap (λ m. lex m text) same ∙ none
