-- The type that lexemes state is the same wherever they stand in a text.
use Rattle.std.proofs.Common.{◌≡◌, ◌+◌, ◌==◌, ℕ, Bool, true, false, not, ◌&&◌, ◌||◌, cond, List, [], ◌∷◌, ◌++◌, map, length, refl, sym, ap, ◌∙◌, Option, Some, None}
use Rattle.std.specs.Prelude.{codes, bytes_eq, unwrap_or, if◌then◌else◌}
use Rattle.std.specs.List.{list_all, list_any}
use Rattle.std.proofs.lemmas.List.{length-map}
use Rattle.std.proofs.lemmas.List.Folds.{list_all-map}
use Rattle.schema_model.specs.Names.{is_type_text}
use Rattle.schema_model.specs.declared.column_type.ColumnType.{ColumnType}
use Rattle.schema_model.specs.declared.column_type.ColumnType.TheVariants as type
use Rattle.sql_lexemes.specs.declared.dialect.Dialect.{Dialect}
use Rattle.sql_lexemes.specs.declared.lexeme.LexemeKind.{LexemeKind}
use Rattle.sql_lexemes.specs.Lexemes.{Lexed}
use Rattle.sql_lexemes.specs.Pieces.{is_postgres}
use Rattle.sql_lexemes.specs.Statements.{depth_after, is_a_word}
use Rattle.sql_definitions.specs.Types.{column_type, decimal_type, has_quotes, integer_words, is_outside, is_word_or_within, joins, no_type, other_type, serial_words, stated_type, type_text, type_word, written, written_lexeme}
use Rattle.ddl_pieces.specs.Pieces.{TextPiece, led_by_kind, lexeme_at, lexemes_from}

-- a lexeme at the start of a text
abbrev pub unplaced : Lexed → Lexed
unplaced l = record { kind = l.kind; place = 0; depth = l.depth; text = l.text }

led_same : (p q depth : ℕ) (kind : Option LexemeKind) (bytes : List ℕ) (ls ms : ℕ → List Lexed)
    → ((n : ℕ) → map unplaced (ls n) ≡ map unplaced (ms n))
    → map unplaced (led_by_kind p depth kind bytes ls) ≡ map unplaced (led_by_kind q depth kind bytes ms)
led_same p q depth None bytes ls ms each = each depth
led_same p q depth (Some kind) bytes ls ms each =
    ap (λ (rest : List Lexed). unplaced (lexeme_at 0 depth kind bytes) ∷ rest)
    (each (depth_after (lexeme_at 0 depth kind bytes)))

-- the lexemes of pieces that begin at two places differ in nothing else
pub lexemes_same : (p q depth : ℕ) (ps : List TextPiece)
    → map unplaced (lexemes_from p depth ps) ≡ map unplaced (lexemes_from q depth ps)
unfolding lexemes_from
lexemes_same p q depth [] = refl
lexemes_same p q depth (piece ∷ ps) =
    led_same p q depth piece.kind piece.bytes (λ n. lexemes_from (p + length piece.bytes) n ps)
    (λ n. lexemes_from (q + length piece.bytes) n ps)
    (λ n. lexemes_same (p + length piece.bytes) (q + length piece.bytes) n ps)

-- ---- what is read of lexemes
text_same : (first : Bool) (ls : List Lexed) → type_text first (map unplaced ls) ≡ type_text first ls
unfolding type_text
text_same first [] = refl
text_same first (l ∷ ls) =
    ap (λ (t : List ℕ). cond (is_outside l && is_a_word l.kind) (type_word first l.text ++ t)
    (type_text first (map unplaced ls))) (text_same false ls)
    ∙ ap (λ (t : List ℕ). cond (is_outside l && is_a_word l.kind) (type_word first l.text ++ type_text false ls) t)
    (text_same first ls)

written_same : (joined : Bool) (ls : List Lexed) → written joined (map unplaced ls) ≡ written joined ls
unfolding written
written_same joined [] = refl
written_same joined (l ∷ ls) =
    ap (λ (t : List ℕ). written_lexeme joined l.kind l.text ++ t) (written_same (joins l) ls)

pub any_same : (test : Lexed → Bool) → ((l : Lexed) → test (unplaced l) ≡ test l) → (ls : List Lexed)
    → list_any test (map unplaced ls) ≡ list_any test ls
any_same test same [] = refl
any_same test same (l ∷ ls) =
    ap (λ (b : Bool). b || list_any test (map unplaced ls)) (same l)
    ∙ ap (λ (b : Bool). test l || b) (any_same test same ls)

decimal_same : (ls : List Lexed) → decimal_type (map unplaced ls) ≡ decimal_type ls
decimal_same [] = refl
decimal_same (a ∷ []) = refl
decimal_same (a ∷ b ∷ []) = refl
decimal_same (a ∷ b ∷ c ∷ []) = refl
decimal_same (a ∷ b ∷ c ∷ e ∷ []) = refl
decimal_same (a ∷ b ∷ c ∷ e ∷ f ∷ []) = refl
decimal_same (a ∷ b ∷ c ∷ e ∷ f ∷ g ∷ []) = refl
decimal_same (a ∷ b ∷ c ∷ e ∷ f ∷ g ∷ h ∷ ls) = refl

other_same : (ls : List Lexed) → other_type (map unplaced ls) ≡ other_type ls
other_same ls =
    ap (λ (b : Bool). cond (not b && is_type_text (written true (map unplaced ls)))
    (type.Other (written true (map unplaced ls))) type.Text) (any_same has_quotes (λ l. refl) ls)
    ∙ ap (λ (t : List ℕ). cond (not (list_any has_quotes ls) && is_type_text t) (type.Other t) type.Text)
    (written_same true ls)

-- a type by its text, by its decimal reading, and by what else it is
abbrev postgres_by : List ℕ → Option ColumnType → ColumnType → ColumnType
postgres_by text exact other =
    if list_any (bytes_eq text) serial_words then type.Integer
    else if bytes_eq text (codes "date") then type.Date
    else if bytes_eq text (codes "uuid") then type.Uuid
    else if bytes_eq text (codes "timestamp") || bytes_eq text (codes "timestamp without time zone") then type.Timestamp
    else if bytes_eq text (codes "numeric") || bytes_eq text (codes "decimal") then unwrap_or exact other
    else other

abbrev type_by : Dialect → Bool → List ℕ → Option ColumnType → ColumnType → ColumnType
type_by d plain text exact other =
    if plain then (
    if bytes_eq text [] || bytes_eq text (codes "text") then type.Text
    else if list_any (bytes_eq text) integer_words then type.Integer
    else if is_postgres d then postgres_by text exact other
    else other)
    else other

stated_same : (d : Dialect) (ls : List Lexed) → stated_type d (map unplaced ls) ≡ stated_type d ls
stated_same d ls =
    ap (λ (b : Bool). type_by d b (type_text true (map unplaced ls)) (decimal_type (map unplaced ls))
    (other_type (map unplaced ls))) (list_all-map is_word_or_within unplaced ls)
    ∙ ap (λ (t : List ℕ). type_by d (list_all is_word_or_within ls) t (decimal_type (map unplaced ls))
    (other_type (map unplaced ls))) (text_same true ls)
    ∙ ap (λ (o : Option ColumnType). type_by d (list_all is_word_or_within ls) (type_text true ls) o
    (other_type (map unplaced ls))) (decimal_same ls)
    ∙ ap (λ (c : ColumnType). type_by d (list_all is_word_or_within ls) (type_text true ls) (decimal_type ls) c)
    (other_same ls)

type_same : (d : Dialect) (ls : List Lexed) → column_type d (map unplaced ls) ≡ column_type d ls
type_same d ls =
    ap (λ (n : ℕ). cond (n == 0) (no_type d) (stated_type d (map unplaced ls))) (length-map ls unplaced)
    ∙ ap (λ (c : ColumnType). cond (length ls == 0) (no_type d) c) (stated_same d ls)

-- ---- lexemes that differ in their places alone
module _ (ls ms : List Lexed) (same : map unplaced ls ≡ map unplaced ms) where
  pub text_moved : (first : Bool) → type_text first ls ≡ type_text first ms
  text_moved first = sym (text_same first ls) ∙ ap (type_text first) same ∙ text_same first ms

  pub type_moved : (d : Dialect) → column_type d ls ≡ column_type d ms
  type_moved d = sym (type_same d ls) ∙ ap (column_type d) same ∙ type_same d ms

  pub any_moved : (test : Lexed → Bool) → ((l : Lexed) → test (unplaced l) ≡ test l)
      → list_any test ls ≡ list_any test ms
  any_moved test each = sym (any_same test each ls) ∙ ap (list_any test) same ∙ any_same test each ms
