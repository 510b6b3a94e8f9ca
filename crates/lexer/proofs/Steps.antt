-- One token at a time leads through the tokens of a line.
use Rattle.std.proofs.Common.{◌≡◌, ◌<◌, ◌≤◌, ◌+◌, ◌-◌, ℕ, zero, suc, Bool, true, false, cond, Option, None, Some, List, [], ◌∷◌, length, take, drop, nat_eq, arith, add-zero, sym, ◌∙◌, ap, subst, refl, length-append, length-drop, lit<, ◌==◌, ◌&&◌}
use Rattle.std.proofs.lemmas.Bool.{and_parts}
use Rattle.std.proofs.lemmas.Bool.Decides.{Decides-eqb, nat_tests}
use Rattle.std.proofs.lemmas.List.{length-take-le, drop-take}
use Rattle.std.proofs.lemmas.List.Folds.{length-prefix_len}
use Rattle.std.proofs.lemmas.List.Sums.{prefix_len-le-length}
use Rattle.std.proofs.lemmas.Slice.Eq.{starts_is}
use Rattle.std.specs.List.{starts_with}
use Rattle.lexer.specs.declared.piece.Piece.{Piece}
use Rattle.lexer.specs.declared.piece.Piece.TheVariants as piece
use Rattle.lexer.specs.declared.token.Flaw.{Flaw}
use Rattle.lexer.specs.declared.mode.Mode.{Mode}
use Rattle.lexer.specs.declared.token.TokenKind.{TokenKind}
use Rattle.lexer.specs.declared.token.TokenKind.TheVariants as token
use Rattle.schema_model.specs.Names.{IsName, is_bare_name, is_name_byte}
use Rattle.lexer.specs.Bytes.{is_gap, is_number, number_of, run_length}
use Rattle.lexer.specs.Pieces.{front_piece, run_piece, closed_piece, quoted_piece}
use Rattle.lexer.specs.Quotes.{is_name, closing_quote, undoubled, between, IsQuoted}
use Rattle.lexer.proofs.Quoting.{closing_below, name_test}
use Rattle.lexer.specs.Tokens.{tokens_after, led_by_mark, word_of, Leads, StandsAfter}

-- only gaps stand before what is left of the text
pub record IsReached (m : Mode) (start : ℕ) (text : List ℕ) (column : ℕ) (rest : List ℕ) : Type 0 where
  pub same : tokens_after m 0 start text ≡ tokens_after m 0 column rest
  pub from_on : start ≤ column
  pub fits : column + length rest ≡ start + length text

-- so many bytes lie at the front of the text
pub record LiesIn (text : List ℕ) (n : ℕ) : Type 0 where
  pub not_empty : 0 < n
  pub within : n ≤ length text

-- a quoted name lies at the front of the text, where such are taken
pub record FitsQuoted (m : Mode) (text : List ℕ) (n : ℕ) : Type 0 where
  pub quoted : IsQuoted (take n text)
  pub taken : m.quotes ≡ true

-- a token lies at the front of the text; the bytes of a word form one
pub record FitsToken (m : Mode) (text : List ℕ) (k : TokenKind) (n : ℕ) : Type 0 where
  pub lies : LiesIn text n
  pub a_word : k ≡ token.Identifier → is_bare_name (take n text) ≡ true
  pub a_name : k ≡ token.Quoted → FitsQuoted m text n

abbrev pub FitsPiece : Mode → List ℕ → Piece → Type 0
FitsPiece m text piece.Gap = Unit {0}
FitsPiece m text piece.Comment = Unit {0}
FitsPiece m text (piece.Token k n) = FitsToken m text k n
FitsPiece m text (piece.Flaw why n) = LiesIn text n

FitsPiece-cond : (m : Mode) (text : List ℕ) (b : Bool) (x y : Piece) → (b ≡ true → FitsPiece m text x) → (b ≡ false → FitsPiece m text y) → FitsPiece m text (cond b x y)
FitsPiece-cond m text true x y here there = here refl
FitsPiece-cond m text false x y here there = there refl

run_lies : (text : List ℕ) → 0 < run_length text → LiesIn text (length (take (run_length text) text))
run_lies text h =
    let same : length (take (run_length text) text) ≡ run_length text = length-prefix_len is_name_byte text in
    let within = prefix_len-le-length is_name_byte text in record { not_empty = omega arith; within = omega arith }

abbrev number_piece : List ℕ → Piece
number_piece text = piece.Token (token.Number (number_of (take (run_length text) text))) (length (take (run_length text) text))

number_fits : (m : Mode) (text : List ℕ) → LiesIn text (length (take (run_length text) text)) → FitsToken m text (token.Number (number_of (take (run_length text) text))) (length (take (run_length text) text))
number_fits m text lies = record { lies = lies; a_word = λ wrong. cc; a_name = λ wrong. cc }

run_fits : (m : Mode) (text : List ℕ) → 0 < run_length text → FitsPiece m text (run_piece m (take (run_length text) text))
unfolding run_piece
run_fits m text h =
    let lies = run_lies text h in
    let same : length (take (run_length text) text) ≡ run_length text = length-prefix_len is_name_byte text in
    FitsPiece-cond m text (is_bare_name (take (run_length text) text)) _ _
    (λ word. record { lies = lies; a_word = λ _. rw same word; a_name = λ wrong. cc })
    (λ _. FitsPiece-cond m text (m.numbers && is_number (take (run_length text) text)) (number_piece text) _ (λ _. number_fits m text lies) (λ _. lies))

starts_lies : (text needle : List ℕ) → starts_with nat_eq text needle ≡ true → 0 < length needle → LiesIn text (length needle)
starts_lies text needle e not_empty =
    let whole : text ≡ _ = (starts_is Decides-eqb text needle _ refl).0 e in record { not_empty = not_empty; within = omega (arith, simp length-append at (ap length whole)) }

mark_fits : (m : Mode) (text : List ℕ) (k : TokenKind) (n : ℕ) → LiesIn text n → (k ≡ token.Identifier → ⊥) → (k ≡ token.Quoted → ⊥) → FitsToken m text k n
mark_fits m text k n lies other unquoted =
    record { lies = lies; a_word = λ word. absurd (other word); a_name = λ quoted. absurd (unquoted quoted) }

arrow_fits : (m : Mode) (text needle : List ℕ) (k : TokenKind) → starts_with nat_eq text needle ≡ true → 0 < length needle → (k ≡ token.Identifier → ⊥) → (k ≡ token.Quoted → ⊥)
    → FitsToken m text k (length needle)
arrow_fits m text needle k starts not_empty other unquoted = mark_fits m text k (length needle) (starts_lies text needle starts not_empty) other unquoted

byte_lies : (b : ℕ) (bs : List ℕ) → LiesIn (b ∷ bs) 1
byte_lies b bs = record { not_empty = lit< tt; within = omega arith }

-- what stands between the quotes of a text at the front
pub between_taken : (text : List ℕ) (n : ℕ) → n + 2 ≤ length text → between (take (n + 2) text) ≡ take n (drop 1 text)
between_taken text n fits =
    let size : length (take (n + 2) text) ≡ n + 2 = length-take-le (n + 2) text fits in
    let inner : drop 1 (take (n + 2) text) ≡ take (suc n) (drop 1 text) =
    ap (λ (k : ℕ). drop 1 (take k text)) (omega arith) ∙ drop-take 1 (suc n) text in
    let less : length (take (n + 2) text) - 2 ≡ n = omega arith in
    rw (less, inner) (take_less n (drop 1 text))
  where
    take_less : (k : ℕ) (bytes : List ℕ) → take k (take (suc k) bytes) ≡ take k bytes
    take_less zero bytes = refl
    take_less (suc k) [] = refl
    take_less (suc k) (b ∷ bs) = ap (λ t. b ∷ t) (take_less k bs)

-- what begins with a quote
closed_fits : (m : Mode) → m.quotes ≡ true → (text : List ℕ) (o : Option ℕ) → 0 < length text → closing_quote (drop 1 text) ≡ o → FitsPiece m text (closed_piece text o)
closed_fits m taken text None h e = record { not_empty = h; within = omega arith }
closed_fits m taken text (Some n) h e =
    let below = closing_below (drop 1 text) n e in
    let lies : LiesIn text (n + 2) = record { not_empty = omega arith; within = omega (arith, below, length-drop 1 text) } in
    FitsPiece-cond m text (is_name (undoubled (take n (drop 1 text)))) _ _
    (λ name. record {
      lies = lies;
      a_word = λ wrong. cc;
      a_name = λ _. record {
        quoted = record {
          two_quotes = omega (arith, length-take-le (n + 2) text lies.within);
          a_name = rw (between_taken text n lies.within) name;
        };
        taken = taken;
      };
    })
    (λ _. lies)

quoted_fits : (m : Mode) → m.quotes ≡ true → (text : List ℕ) → 0 < length text → FitsPiece m text (quoted_piece text)
unfolding quoted_piece
quoted_fits m taken text h = closed_fits m taken text (closing_quote (drop 1 text)) h refl

pub front_fits : (m : Mode) (text : List ℕ) → 0 < length text → FitsPiece m text (front_piece m text)
unfolding front_piece
front_fits m [] h = absurd (omega arith)
front_fits m (b ∷ bs) h =
    FitsPiece-cond m (b ∷ bs) (is_gap b) _ _ (λ _. tt)
    (λ _. FitsPiece-cond m (b ∷ bs) (b == 35 && m.comments) _ _ (λ _. tt)
    (λ _. FitsPiece-cond m (b ∷ bs) (is_name_byte b) _ _ (λ run. run_fits m (b ∷ bs) (rw run (omega arith)))
    (λ _. FitsPiece-cond m (b ∷ bs) (starts_with nat_eq (b ∷ bs) (45 ∷ 62 ∷ 62 ∷ [])) _ _ (λ starts. arrow_fits m (b ∷ bs) (45 ∷ 62 ∷ 62 ∷ []) token.DoubleArrow starts (lit< tt) (λ word. cc) (λ quoted. cc))
    (λ _. FitsPiece-cond m (b ∷ bs) (starts_with nat_eq (b ∷ bs) (45 ∷ 62 ∷ [])) _ _ (λ starts. arrow_fits m (b ∷ bs) (45 ∷ 62 ∷ []) token.Arrow starts (lit< tt) (λ word. cc) (λ quoted. cc))
    (λ _. FitsPiece-cond m (b ∷ bs) (starts_with nat_eq (b ∷ bs) (40 ∷ 41 ∷ [])) _ _ (λ starts. arrow_fits m (b ∷ bs) (40 ∷ 41 ∷ []) token.Empty starts (lit< tt) (λ word. cc) (λ quoted. cc))
    (λ _. FitsPiece-cond m (b ∷ bs) (b == 34 && m.quotes) _ _ (λ both. quoted_fits m (and_parts (b == 34) m.quotes both).1 (b ∷ bs) (byte_lies b bs).within)
    (λ _. FitsPiece-cond m (b ∷ bs) (b == 58 && m.colon) _ _ (λ _. mark_fits m (b ∷ bs) token.Colon 1 (byte_lies b bs) (λ word. cc) (λ quoted. cc))
    (λ _. byte_lies b bs))))))))

-- after so many bytes of a piece, the tokens are those of what is left
pub lexed_after : (m : Mode) (skip column : ℕ) (text : List ℕ) → tokens_after m skip column text ≡ tokens_after m 0 (column + skip) (drop skip text)
unfolding tokens_after
lexed_after m zero column [] = refl
lexed_after m (suc n) column [] = refl
lexed_after m zero column (b ∷ bs) = rw add-zero refl
lexed_after m (suc n) column (b ∷ bs) =
    let same : (column + 1) + n ≡ column + suc n = omega arith in
    lexed_after m n (column + 1) bs ∙ ap (λ k. tokens_after m 0 k (drop n bs)) same

pub after_gap : (m : Mode) (column : ℕ) (text : List ℕ) → 0 < length text → piece.Gap ≡ front_piece m text → tokens_after m 0 column text ≡ tokens_after m 0 (column + 1) (drop 1 text)
unfolding tokens_after
after_gap m column [] h e = absurd (omega arith)
after_gap m column (b ∷ bs) h e = rw (← e) refl

pub at_comment : (m : Mode) (column : ℕ) (text : List ℕ) → 0 < length text → piece.Comment ≡ front_piece m text → tokens_after m 0 column text ≡ record { marks = []; stop = None }
unfolding tokens_after
at_comment m column [] h e = refl
at_comment m column (b ∷ bs) h e = rw (← e) refl

pub at_flaw : (m : Mode) (column : ℕ) (text : List ℕ) (why : Flaw) (n : ℕ) → 0 < length text → piece.Flaw why n ≡ front_piece m text
    → tokens_after m 0 column text ≡ record { marks = []; stop = Some (record { flaw = why; column = column; length = n }) }
unfolding tokens_after
at_flaw m column [] why n h e = absurd (omega arith)
at_flaw m column (b ∷ bs) why n h e = rw (← e) refl

pub at_token : (m : Mode) (column : ℕ) (text : List ℕ) (k : TokenKind) (n : ℕ) → 0 < length text → piece.Token k n ≡ front_piece m text
    → tokens_after m 0 column text ≡ led_by_mark (record { kind = k; column = column; length = n; word = word_of k (take n text) }) (tokens_after m 0 (column + n) (drop n text))
unfolding tokens_after
at_token m column [] k n h e = absurd (omega arith)
at_token m column (b ∷ bs) k zero h e =
    let lies : FitsPiece m (b ∷ bs) (piece.Token k zero) = subst (FitsPiece m (b ∷ bs)) (sym e) (front_fits m (b ∷ bs) h) in
    let not_empty : 0 < 0 = lies.lies.not_empty in absurd (omega arith)
at_token m column (b ∷ bs) k (suc n) h e =
    let one : suc n - 1 ≡ n = omega arith in
    let after : tokens_after m n (column + 1) bs ≡ tokens_after m 0 (column + suc n) (drop n bs) = lexed_after m (suc n) column (b ∷ bs) in
    rw (← e) (rw one (ap (led_by_mark _) after))

pub is_some : (text : List ℕ) → false ≡ (length text == 0) → 0 < length text
is_some text e = grind (arith, nat_tests)

pub is_none : (text : List ℕ) → true ≡ (length text == 0) → length text ≡ 0
is_none text e = grind (arith, nat_tests)

pub at_end : (m : Mode) (column : ℕ) (text : List ℕ) → length text ≡ 0 → tokens_after m 0 column text ≡ record { marks = []; stop = None }
unfolding tokens_after
at_end m column [] e = refl
at_end m column (b ∷ bs) e = absurd (omega arith)

pub lies_in : (m : Mode) (text : List ℕ) (k : TokenKind) (n : ℕ) → 0 < length text → piece.Token k n ≡ front_piece m text → LiesIn text n
lies_in m text k n h e =
    let fits : FitsPiece m text (piece.Token k n) = subst (FitsPiece m text) (sym e) (front_fits m text h) in fits.lies

pub is_a_word : (m : Mode) (text : List ℕ) (k : TokenKind) (n : ℕ) → 0 < length text → piece.Token k n ≡ front_piece m text → k ≡ token.Identifier → is_bare_name (take n text) ≡ true
is_a_word m text k n h e =
    let fits : FitsPiece m text (piece.Token k n) = subst (FitsPiece m text) (sym e) (front_fits m text h) in fits.a_word

pub FitsQuoted-from : (m : Mode) (text : List ℕ) (k : TokenKind) (n : ℕ) → 0 < length text → piece.Token k n ≡ front_piece m text → k ≡ token.Quoted → FitsQuoted m text n
FitsQuoted-from m text k n h e =
    let fits : FitsPiece m text (piece.Token k n) = subst (FitsPiece m text) (sym e) (front_fits m text h) in fits.a_name

pub flaw_lies_in : (m : Mode) (text : List ℕ) (why : Flaw) (n : ℕ) → 0 < length text → piece.Flaw why n ≡ front_piece m text → LiesIn text n
flaw_lies_in m text why n h e = subst (FitsPiece m text) (sym e) (front_fits m text h)

pub token_leads : (m : Mode) (start : ℕ) (text : List ℕ) (column : ℕ) (rest : List ℕ) (k : TokenKind) (n : ℕ) (own word after : List ℕ)
    → IsReached m start text column rest → 0 < length rest → piece.Token k n ≡ front_piece m rest
    → own ≡ take n rest → word ≡ word_of k own → after ≡ drop n rest
    → Leads m (record { kind = k; column = column; length = n }) word after (tokens_after m 0 start text)
token_leads m start text column rest k n own word after reached not_empty e is_own is_word_here is_after_it =
    let is_word : word ≡ word_of k (take n rest) = is_word_here ∙ ap (word_of k) is_own in
    record {
      all_tokens = rw (is_word, is_after_it) (reached.same ∙ at_token m column rest k n not_empty e);
      is_a_word = λ identifier. is_word_of-identifier k (take n rest) word identifier is_word (is_a_word m rest k n not_empty e identifier);
      is_a_name = λ quoted. is_word_of-quoted k (take n rest) word quoted is_word (FitsQuoted-from m rest k n not_empty e quoted).quoted;
    }
  where
    is_word_of-identifier : (k : TokenKind) (own word : List ℕ) → k ≡ token.Identifier → word ≡ word_of k own
        → is_bare_name own ≡ true → is_bare_name word ≡ true
    is_word_of-identifier token.Identifier own word identifier is bare = rw is bare
    is_word_of-identifier k own word identifier is bare = cc

    is_word_of-quoted : (k : TokenKind) (own word : List ℕ) → k ≡ token.Quoted → word ≡ word_of k own → IsQuoted own → IsName word
    is_word_of-quoted token.Quoted own word kind is quoted = rw is ((name_test _).0 quoted.a_name)
    is_word_of-quoted k own word kind is quoted = cc

pub token_after : (m : Mode) (start : ℕ) (text : List ℕ) (column : ℕ) (rest : List ℕ) (k : TokenKind) (n : ℕ) (after : List ℕ)
    → IsReached m start text column rest → LiesIn rest n → length after + n ≡ length rest
    → StandsAfter start text (record { kind = k; column = column; length = n }) after
token_after m start text column rest k n after reached lies size = record {
  from_on = reached.from_on;
  fits = omega (arith, reached.fits);
  shorter = omega (arith, reached.fits, reached.from_on, lies.not_empty);
}
