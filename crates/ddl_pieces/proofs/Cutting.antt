-- A text of pieces is cut into just these, where each of them stands right before what follows it.
use Rattle.std.proofs.Common.{◌≡◌, ◌+◌, ℕ, zero, suc, true, false, ◌&&◌, Some, None, Option, List, [], ◌∷◌, ◌++◌, length, take, bytes_eq, refl, sym, ap, subst, ◌∙◌, arith, append_assoc, append-nil}
use Rattle.std.specs.List.{list_all}
use Rattle.std.proofs.lemmas.Bool.{and_parts}
use Rattle.std.proofs.Math.Seq.{take-append_seam}
use Rattle.sql_lexemes.specs.Bytes.{is_blank}
use Rattle.sql_lexemes.specs.declared.dialect.Dialect.{Dialect}
use Rattle.sql_lexemes.specs.declared.lexeme.LexemeKind.{LexemeKind}
use Rattle.sql_lexemes.specs.declared.piece.Before.{Before}
use Rattle.sql_lexemes.specs.declared.piece.Piece.TheVariants as piece
use Rattle.sql_lexemes.specs.Lexemes.{Lexed}
use Rattle.sql_lexemes.specs.Pieces.{front_piece}
use Rattle.sql_lexemes.specs.Statements.{Scan, after_gap, after_lexeme, depth_after, is_a_mark, lexeme_in, led_by, statements_after}
use Rattle.ddl_pieces.specs.Pieces.{TextPiece, lexeme_at, lexemes_from, text_of}

-- ---- where pieces stand right
-- a lexeme of a kind has these bytes, whatever stands before it, before this rest, and is no `;`
pub record IsLexemeBefore (d : Dialect) (kind : LexemeKind) (bytes rest : List ℕ) : Type 0 where
  pub more : ℕ
  pub long : length bytes ≡ more + 1
  pub front : (before : Before) → front_piece d before (bytes ++ rest) ≡ piece.Lexeme kind more
  pub goes_on : (is_a_mark kind && bytes_eq bytes (59 ∷ [])) ≡ false

abbrev pub IsRight : Dialect → Option LexemeKind → List ℕ → List ℕ → Type 0
IsRight d None bytes rest = list_all is_blank bytes ≡ true
IsRight d (Some kind) bytes rest = IsLexemeBefore d kind bytes rest

-- each piece stands right before those after it and the rest
abbrev pub AreRight : Dialect → List TextPiece → List ℕ → Type 0
AreRight d [] rest = Unit {0}
AreRight d (p ∷ ps) rest = IsRight d p.kind p.bytes (text_of ps ++ rest) × AreRight d ps rest

pub text_append : (ps qs : List TextPiece) → text_of (ps ++ qs) ≡ text_of ps ++ text_of qs
text_append [] qs = refl
text_append (p ∷ ps) qs =
    ap (λ (t : List ℕ). p.bytes ++ t) (text_append ps qs)
    ∙ sym (append_assoc p.bytes (text_of ps) (text_of qs))

pub right_append : (d : Dialect) (ps qs : List TextPiece) (rest : List ℕ)
    → AreRight d ps (text_of qs ++ rest)
    → AreRight d qs rest → AreRight d (ps ++ qs) rest
right_append d [] qs rest first second = second
right_append d (p ∷ ps) qs rest first second =
    let same : text_of (ps ++ qs) ++ rest ≡ text_of ps ++ (text_of qs ++ rest) =
    ap (λ (t : List ℕ). t ++ rest) (text_append ps qs) ∙ append_assoc (text_of ps) (text_of qs) rest in (
      subst (IsRight d p.kind p.bytes) (sym same) first.0,
      right_append d ps qs rest first.1 second,
    )

-- ---- brackets
abbrev pub depth_of : ℕ → Option LexemeKind → List ℕ → ℕ
depth_of depth None bytes = depth
depth_of depth (Some kind) bytes = depth_after (lexeme_at 0 depth kind bytes)

-- how many brackets are open after pieces
abbrev pub depth_past : ℕ → List TextPiece → ℕ
depth_past depth [] = depth
depth_past depth (p ∷ ps) = depth_past (depth_of depth p.kind p.bytes) ps

pub depth_append : (depth : ℕ) (ps qs : List TextPiece)
    → depth_past depth (ps ++ qs) ≡ depth_past (depth_past depth ps) qs
depth_append depth [] qs = refl
depth_append depth (p ∷ ps) qs = depth_append (depth_of depth p.kind p.bytes) ps qs

-- ---- past what stands between lexemes
-- a scan has passed these bytes, which stand between lexemes
pub record IsPassed (d : Dialect) (s : Scan) (bytes rest : List ℕ) : Type 0 where
  pub after : Scan
  pub same : statements_after d 0 s (bytes ++ rest) ≡ statements_after d 0 after rest
  pub place : after.place ≡ s.place + length bytes
  pub depth : after.depth ≡ s.depth
  pub lexemes : after.lexemes ≡ s.lexemes

blank_passed : (d : Dialect) (s : Scan) (b : ℕ) (text : List ℕ) → is_blank b ≡ true
    → statements_after d 0 s (b ∷ text) ≡ statements_after d 0 (after_gap s b 0) text
unfolding statements_after front_piece
blank_passed d s b text blank = rw blank refl

pub blanks_passed : (d : Dialect) (s : Scan) (bytes rest : List ℕ) → list_all is_blank bytes ≡ true
    → IsPassed d s bytes rest
blanks_passed d s [] rest all =
    record { after = s; same = refl; place = omega arith; depth = refl; lexemes = refl }
blanks_passed d s (b ∷ bytes) rest all =
    let parts = and_parts (is_blank b) (list_all is_blank bytes) all in
    let later = blanks_passed d (after_gap s b 0) bytes rest parts.1 in
    let here = later.place in
    record {
      after = later.after;
      same = blank_passed d s b (bytes ++ rest) parts.0 ∙ later.same;
      place = omega (arith, here);
      depth = later.depth;
      lexemes = later.lexemes;
    }

-- ---- past lexemes
pub skipped : (d : Dialect) (s : Scan) (bytes rest : List ℕ) (n : ℕ) → length bytes ≡ n
    → statements_after d n s (bytes ++ rest) ≡ statements_after d 0 s rest
unfolding statements_after
skipped d s [] rest zero long = refl
skipped d s [] rest (suc n) long = absurd (omega (arith, long))
skipped d s (b ∷ bytes) rest zero long = absurd (omega (arith, long))
skipped d s (b ∷ bytes) rest (suc n) long = skipped d s bytes rest n (omega (arith, long))

lexeme_passed : (d : Dialect) (s : Scan) (kind : LexemeKind) (bytes rest : List ℕ)
    (is : IsLexemeBefore d kind bytes rest)
    → statements_after d 0 s (bytes ++ rest)
    ≡ statements_after d 0 (after_lexeme s (lexeme_in s kind bytes) is.more) rest
unfolding statements_after
lexeme_passed d s kind [] rest is = let long = is.long in absurd (omega (arith, long))
lexeme_passed d s kind (b ∷ bytes) rest is =
    let long = is.long in
    let short : length bytes ≡ is.more = omega (arith, long) in
    let whole : take (is.more + 1) ((b ∷ bytes) ++ rest) ≡ b ∷ bytes =
    ap (λ n. take n ((b ∷ bytes) ++ rest)) (sym long) ∙ take-append_seam (b ∷ bytes) rest in
    let text = bytes ++ rest in
    ap (λ front. led_by d s b text front (λ skip next. statements_after d skip next text)) (is.front s.before)
    ∙ rw whole (rw is.goes_on
    (skipped d (after_lexeme s (lexeme_in s kind (b ∷ bytes)) is.more) bytes rest is.more short))

-- ---- past pieces
-- a scan has passed these pieces
pub record ArePast (d : Dialect) (s : Scan) (ps : List TextPiece) (rest : List ℕ) : Type 0 where
  pub after : Scan
  pub same : statements_after d 0 s (text_of ps ++ rest) ≡ statements_after d 0 after rest
  pub depth : after.depth ≡ depth_past s.depth ps
  pub lexemes : after.lexemes ≡ s.lexemes ++ lexemes_from s.place s.depth ps

past_one : (d : Dialect) (s : Scan) (kind : Option LexemeKind) (bytes : List ℕ) (ps : List TextPiece)
    (rest : List ℕ)
    → IsRight d kind bytes (text_of ps ++ rest) → ((next : Scan) → ArePast d next ps rest)
    → ArePast d s (record { kind = kind; bytes = bytes } ∷ ps) rest
unfolding lexemes_from
past_one d s None bytes ps rest right later =
    let gap = blanks_passed d s bytes (text_of ps ++ rest) right in
    let past = later gap.after in
    record {
      after = past.after;
      same = ap (statements_after d 0 s) (append_assoc bytes (text_of ps) rest) ∙ (gap.same ∙ past.same);
      depth = past.depth ∙ ap (λ (n : ℕ). depth_past n ps) gap.depth;
      lexemes = past.lexemes
          ∙ ap (λ (ls : List Lexed). ls ++ lexemes_from gap.after.place gap.after.depth ps) gap.lexemes
          ∙ ap (λ (n : ℕ). s.lexemes ++ lexemes_from n gap.after.depth ps) gap.place
          ∙ ap (λ (n : ℕ). s.lexemes ++ lexemes_from (s.place + length bytes) n ps) gap.depth;
    }
past_one d s (Some kind) bytes ps rest right later =
    let l = lexeme_in s kind bytes in
    let past = later (after_lexeme s l right.more) in
    record {
      after = past.after;
      same = ap (statements_after d 0 s) (append_assoc bytes (text_of ps) rest)
          ∙ (lexeme_passed d s kind bytes (text_of ps ++ rest) right ∙ past.same);
      depth = past.depth;
      lexemes = past.lexemes
          ∙ append_assoc s.lexemes (l ∷ []) (lexemes_from (s.place + (right.more + 1)) (depth_after l) ps)
          ∙ ap (λ (n : ℕ). s.lexemes ++ l ∷ lexemes_from (s.place + n) (depth_after l) ps) (sym right.long);
    }

pub past : (d : Dialect) (s : Scan) (ps : List TextPiece) (rest : List ℕ) → AreRight d ps rest
    → ArePast d s ps rest
unfolding lexemes_from
past d s [] rest right =
    record { after = s; same = refl; depth = refl; lexemes = sym (append-nil s.lexemes) }
past d s (p ∷ ps) rest right =
    past_one d s p.kind p.bytes ps rest right.0 (λ next. past d next ps rest right.1)
