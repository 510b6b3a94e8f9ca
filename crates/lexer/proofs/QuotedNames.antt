-- The quoted text of a name is one token for that name.
use Rattle.std.proofs.Common.{◌≡◌, ◌+◌, ◌==◌, ℕ, Bool, true, false, cond, Some, List, [], ◌∷◌, ◌++◌, length, take, drop, nat_eq, arith, sym, ◌∙◌, ap, refl, append_assoc, length-append}
use Rattle.std.proofs.lemmas.Bool.{eqb-true}
use Rattle.std.proofs.lemmas.Bool.Decides.{nat_tests}
use Rattle.std.proofs.Math.Seq.{take-append_seam, drop-append_seam}
use Rattle.std.specs.List.{starts_with}
use Rattle.lexer.specs.declared.mode.Mode.{Mode}
use Rattle.lexer.specs.declared.piece.Piece.TheVariants as piece
use Rattle.lexer.specs.declared.token.TokenKind.TheVariants as token
use Rattle.lexer.specs.Pieces.{front_piece, closed_piece, quoted_piece}
use Rattle.lexer.specs.Quotes.{is_name, further, closing_quote, undoubled, between}
use Rattle.schema_model.specs.Names.{quotes_doubled, quoted}
use Rattle.lexer.specs.Tokens.{tokens_after, led_by_mark}
use Rattle.lexer.proofs.Quoting.{is_quote, closing_at_quote, closing_other, undoubled_one}
use Rattle.lexer.proofs.Steps.{at_token, between_taken}

-- the quote that closes is the one after the name
pub closing_doubled : (name rest : List ℕ) → is_quote rest ≡ false
    → closing_quote (quotes_doubled name ++ 34 ∷ rest) ≡ Some (length (quotes_doubled name))
unfolding closing_quote quotes_doubled
closing_doubled [] rest apart = closing_at_quote rest apart
closing_doubled (b ∷ name) rest apart = at (b == 34) refl (closing_doubled name rest apart)
  where
    at : (q : Bool) → (b == 34) ≡ q
        → closing_quote (quotes_doubled name ++ 34 ∷ rest) ≡ Some (length (quotes_doubled name))
        → closing_quote ((cond q (34 ∷ 34 ∷ []) (b ∷ []) ++ quotes_doubled name) ++ 34 ∷ rest)
        ≡ Some (length (cond q (34 ∷ 34 ∷ []) (b ∷ []) ++ quotes_doubled name))
    at true e later = ap (further 2) later ∙ ap (λ (n : ℕ). Some n) (omega arith)
    at false e later =
        closing_other (b ∷ (quotes_doubled name ++ 34 ∷ rest)) (omega arith) (grind (arith, nat_tests))
        ∙ ap (further 1) later ∙ ap (λ (n : ℕ). Some n) (omega arith)

pub undoubled_doubled : (name : List ℕ) → undoubled (quotes_doubled name) ≡ name
unfolding undoubled quotes_doubled
undoubled_doubled [] = refl
undoubled_doubled (b ∷ name) = at (b == 34) refl (undoubled_doubled name)
  where
    at : (q : Bool) → (b == 34) ≡ q → undoubled (quotes_doubled name) ≡ name
        → undoubled (cond q (34 ∷ 34 ∷ []) (b ∷ []) ++ quotes_doubled name) ≡ b ∷ name
    at true e later = ap (λ t. 34 ∷ t) later ∙ ap (λ (x : ℕ). x ∷ name) (sym (eqb-true b 34 e))
    at false e later =
        undoubled_one (b ∷ quotes_doubled name) (omega arith) (grind (arith, nat_tests)) ∙ ap (λ t. b ∷ t) later

front_quote : (m : Mode) (rest : List ℕ) → m.quotes ≡ true → front_piece m (34 ∷ rest) ≡ quoted_piece (34 ∷ rest)
unfolding front_piece
front_quote m rest taken = rw taken refl

quoted_front : (m : Mode) (name rest : List ℕ) → m.quotes ≡ true → is_name name ≡ true → is_quote rest ≡ false
    → front_piece m (34 ∷ (quotes_doubled name ++ 34 ∷ rest)) ≡ piece.Token token.Quoted (length (quotes_doubled name) + 2)
unfolding quoted_piece
quoted_front m name rest taken is apart =
    front_quote m (quotes_doubled name ++ 34 ∷ rest) taken
    ∙ ap (closed_piece (34 ∷ (quotes_doubled name ++ 34 ∷ rest))) (closing_doubled name rest apart)
    ∙ rw (take-append_seam (quotes_doubled name) (34 ∷ rest)) (rw (undoubled_doubled name) (rw is refl))

-- where quotes are taken, the quoted text of a name is one token for that name
pub quoted_lexed : (m : Mode) (column : ℕ) (name rest : List ℕ) → m.quotes ≡ true → is_name name ≡ true
    → starts_with nat_eq rest (34 ∷ []) ≡ false
    → tokens_after m 0 column (quoted name ++ rest)
    ≡ led_by_mark (record { kind = token.Quoted; column = column; length = length (quoted name); word = name })
    (tokens_after m 0 (column + length (quoted name)) rest)
quoted_lexed m column name rest taken is apart =
    let doubled = quotes_doubled name in
    let text : List ℕ = 34 ∷ (doubled ++ 34 ∷ rest) in
    let whole : quoted name ++ rest ≡ text = ap (λ t. 34 ∷ t) (append_assoc doubled (34 ∷ []) rest) in
    let size : length (quoted name) ≡ length doubled + 2 =
    let parts = length-append doubled (34 ∷ []) in omega (arith, parts) in
    let left : drop (length doubled + 2) text ≡ rest =
    ap (λ (n : ℕ). drop n text) (sym size) ∙ ap (drop (length (quoted name))) (sym whole)
    ∙ drop-append_seam (quoted name) rest in
    let word : undoubled (between (take (length doubled + 2) text)) ≡ name =
    ap undoubled (between_taken text (length doubled) (omega (arith, length-append doubled (34 ∷ rest)))
    ∙ take-append_seam doubled (34 ∷ rest)) ∙ undoubled_doubled name in
    ap (tokens_after m 0 column) whole
    ∙ at_token m column text token.Quoted (length doubled + 2) (omega arith) (sym (quoted_front m name rest taken is apart))
    ∙ rw (size, left, word) refl
