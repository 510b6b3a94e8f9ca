-- One piece at a time leads through the statements of a text.
use Rattle.std.proofs.Common.{◌≡◌, ◌≤◌, ◌+◌, ℕ, zero, suc, Bool, true, false, List, [], ◌∷◌, length, take, drop, slice_index_or, cond, ◌&&◌, bytes_eq, arith, ap, sym, ◌∙◌, refl}
use Rattle.std.proofs.lemmas.List.{drop-drop}
use Rattle.sql_lexemes.specs.declared.dialect.Dialect.{Dialect}
use Rattle.sql_lexemes.specs.declared.lexeme.LexemeKind.{LexemeKind}
use Rattle.sql_lexemes.specs.declared.piece.Flaw.{Flaw}
use Rattle.sql_lexemes.specs.declared.piece.Piece.TheVariants as piece
use Rattle.sql_lexemes.specs.Pieces.{front_piece}
use Rattle.sql_lexemes.specs.Statements.{Scan, statements_after, after_gap, after_lexeme, lexeme_in, ends_statement, stated, stated_until, scan_from, before_statement, data_after, depth_after, depth_around, is_mark, is_a_mark}

-- what is left of a text after some pieces, in this scan
pub record IsScanned (d : Dialect) (first : Scan) (text : List ℕ) (s : Scan) (rest : List ℕ) : Type 0 where
  pub same : statements_after d 0 first text ≡ statements_after d 0 s rest
  pub fits : s.place + length rest ≡ first.place + length text
  pub from_on : first.place ≤ s.place
  pub depth : s.depth ≤ s.place

cond_within : (b : Bool) (x y most : ℕ) → x ≤ most → y ≤ most → cond b x y ≤ most
cond_within true x y most h k = h
cond_within false x y most h k = k

-- no more brackets are open after a lexeme than bytes are passed
pub depth_within : (s : Scan) (kind : LexemeKind) (text : List ℕ) (more : ℕ) → s.depth ≤ s.place → depth_after (lexeme_in s kind text) ≤ s.place + (more + 1)
depth_within s kind text more h =
    let around : depth_around s.depth kind text ≤ s.place = cond_within (is_a_mark kind && bytes_eq text (41 ∷ [])) _ _ _ (omega (arith, h)) h in
    cond_within (is_mark 40 (lexeme_in s kind text)) _ _ _ (omega (arith, around)) (omega (arith, around))

-- after some bytes of a piece the statements are those of what is left
pub skipped : (d : Dialect) (n : ℕ) (s : Scan) (text : List ℕ) → statements_after d n s text ≡ statements_after d 0 s (drop n text)
unfolding statements_after
skipped d zero s text = refl
skipped d (suc n) s [] = refl
skipped d (suc n) s (b ∷ bs) = skipped d n s bs

pub past_gap : (d : Dialect) (s : Scan) (text : List ℕ) (more : ℕ) → 1 ≤ length text → piece.Gap more ≡ front_piece d s.before text
    → statements_after d 0 s text ≡ statements_after d 0 (after_gap s (slice_index_or text 0 0) more) (drop (more + 1) text)
unfolding statements_after
past_gap d s [] more h e = absurd (omega arith)
past_gap d s (b ∷ bs) more h e =
    rw (← e) (skipped d more (after_gap s b more) bs ∙ ap (λ t. statements_after d 0 (after_gap s b more) t) (drop-drop more 1 (b ∷ bs) ∙ ap (λ n. drop n (b ∷ bs)) (omega arith)))

pub at_flaw : (d : Dialect) (s : Scan) (text : List ℕ) (why : Flaw) → 1 ≤ length text → piece.Flaw why ≡ front_piece d s.before text
    → statements_after d 0 s text ≡ stated_until s why ∷ []
unfolding statements_after
at_flaw d s [] why h e = absurd (omega arith)
at_flaw d s (b ∷ bs) why h e = rw (← e) refl

pub past_lexeme : (d : Dialect) (s : Scan) (text : List ℕ) (kind : LexemeKind) (more : ℕ) → 1 ≤ length text → piece.Lexeme kind more ≡ front_piece d s.before text
    → ends_statement (lexeme_in s kind (take (more + 1) text)) ≡ false
    → statements_after d 0 s text ≡ statements_after d 0 (after_lexeme s (lexeme_in s kind (take (more + 1) text)) more) (drop (more + 1) text)
unfolding statements_after
past_lexeme d s [] kind more h e other = absurd (omega arith)
past_lexeme d s (b ∷ bs) kind more h e other =
    let l = lexeme_in s kind (take (more + 1) (b ∷ bs)) in
    rw (← e) (rw other (skipped d more (after_lexeme s l more) bs ∙ ap (λ t. statements_after d 0 (after_lexeme s l more) t) (drop-drop more 1 (b ∷ bs) ∙ ap (λ n. drop n (b ∷ bs)) (omega arith))))

pub at_end_of_statement : (d : Dialect) (s : Scan) (text : List ℕ) (kind : LexemeKind) (more : ℕ) → 1 ≤ length text → piece.Lexeme kind more ≡ front_piece d s.before text
    → ends_statement (lexeme_in s kind (take (more + 1) text)) ≡ true
    → statements_after d 0 s text
    ≡ stated s ∷ statements_after d 0 (scan_from (before_statement (data_after d s.lexemes (drop (more + 1) text))) ((s.place + (more + 1)) + data_after d s.lexemes (drop (more + 1) text)))
    (drop (data_after d s.lexemes (drop (more + 1) text)) (drop (more + 1) text))
unfolding statements_after
at_end_of_statement d s [] kind more h e ends = absurd (omega arith)
at_end_of_statement d s (b ∷ bs) kind more h e ends =
    let same : drop more bs ≡ drop (more + 1) (b ∷ bs) = drop-drop more 1 (b ∷ bs) ∙ ap (λ n. drop n (b ∷ bs)) (omega arith) in
    let next = λ (rest : List ℕ). scan_from (before_statement (data_after d s.lexemes rest)) ((s.place + (more + 1)) + data_after d s.lexemes rest) in
    rw (← e) (rw ends
    (ap (λ t. stated s ∷ t)
    (skipped d (more + data_after d s.lexemes (drop more bs)) (next (drop more bs)) bs
    ∙ (ap (λ t. statements_after d 0 (next (drop more bs)) t) (sym (drop-drop (data_after d s.lexemes (drop more bs)) more bs))
    ∙ ap (λ (rest : List ℕ). statements_after d 0 (next rest) (drop (data_after d s.lexemes rest) rest)) same))))

pub at_end : (d : Dialect) (s : Scan) (text : List ℕ) → length text ≡ 0 → statements_after d 0 s text ≡ stated s ∷ []
unfolding statements_after
at_end d s [] e = refl
at_end d s (b ∷ bs) e = absurd (omega arith)
