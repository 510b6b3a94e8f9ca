-- What is printed of columns of a file is a text that names them.
use Rattle.std.specs.List.{AllZip, list_all}
use Rattle.std.specs.Prelude.{All, AllPairs}
use Rattle.std.proofs.Common.{inl, inr, ◌≡◌, ◌<◌, ◌≤◌, ◌+◌, ◌&&◌, ℕ, Bool, true, false, true≢false, not, if◌then◌else◌, List, [], ◌∷◌, ◌++◌, length, map, get_or, position, Option, Some, None, refl, sym, ap, subst, ◌∙◌, arith, append-nil, append_assoc}
use Rattle.std.proofs.lemmas.Bool.{and_parts, cases_Bool, cases_order}
use Rattle.std.proofs.lemmas.List.{get_or_default}
use Rattle.std.proofs.lemmas.List.Elements.{All-head, All-tail}
use Rattle.std.proofs.lemmas.List.Quantifiers.{position-Some}
use Rattle.std.proofs.lemmas.List.Sums.{AllPass-from_list_all}
use Rattle.desk_discovery.specs.Discoveries.{column_text}
use Rattle.desk_references.specs.ColumnLists.{MeansColumns, NamesColumnAt}
use Rattle.desk_references.specs.declared.columns.TheConstants.{MOST_LISTED_COLUMNS}
use Rattle.desk_references.proofs.ColumnLemmas.{known_name, self}
use Rattle.file_references.specs.Columns.{name_at}
use Rattle.headed_rows.specs.Headers.{IsColumnHeader, is_plain_name, naming_under}
use Rattle.headed_rows.proofs.HeaderLemmas.{names_apart}
use Rattle.lexer.specs.Modes as mode
use Rattle.lexer.specs.declared.mode.Mode.{Mode}
use Rattle.lexer.specs.declared.token.TokenKind.TheVariants as token
use Rattle.lexer.specs.Tokens.{Lexed, Mark, led_by_mark, lex, tokens_after}
use Rattle.row_store.specs.declared.limits.TheConstants.{WIDEST_HEADED}
use Rattle.schema_grammar.specs.Printed.{IsReadBack}
use Rattle.schema_grammar.specs.Words.{is_reserved, is_reserved_token, is_word_token}
use Rattle.schema_grammar.specs.declared.format.Format.TheVariants as format
use Rattle.schema_grammar.proofs.PrintedLexing.{blank_lexed, name_lexed}
use Rattle.schema_grammar.proofs.SpelledSides.{kind_is_word, kind_not_reserved}
use Rattle.schema_grammar.proofs.SpelledWords.{Parted, name_mark, nothing_left, spelled_lexed}
use Rattle.schema_model.specs.Names.{IsName, is_bare_name, same_name}
use Rattle.schema_model.specs.Schemas.{attribute_named}
use Rattle.schema_model.specs.declared.naming.Naming.{Naming}
use Rattle.schema_model.specs.declared.naming.Naming.TheVariants.{Any, Bare}
use Rattle.schema_printer.specs.Printing.{side_text, words_text}
use Rattle.schema_printer.specs.Spelling.{spelling}

abbrev read_mode : Mode
read_mode = mode.goal Any

-- ---- the names of a header
not_true : (b : Bool) → not b ≡ true → b ≡ false
not_true true h = cc
not_true false h = refl

-- they are read again
name_back : (header : List (List ℕ)) → IsColumnHeader header → (k : ℕ) → k < length header
    → IsReadBack format.Plain (naming_under header) (name_at header k)
name_back header is k low = by (list_all is_plain_name header) refl
  where
    by : (plain : Bool) → list_all is_plain_name header ≡ plain → IsReadBack format.Plain (if plain then Bare else Any) (name_at header k)
    by true all =
        let parts = and_parts (is_bare_name (name_at header k)) (not (is_reserved format.Plain (name_at header k)))
        (AllPass-from_list_all is_plain_name header all k [] low) in
        (parts.0, not_true (is_reserved format.Plain (name_at header k)) parts.1)
    by false some = (is.named k low).0

-- each names its column
name_found : (header : List (List ℕ)) → IsColumnHeader header → (k : ℕ) → k < length header
    → attribute_named header (name_at header k) ≡ Some k
name_found header is k low =
    let (p, at) = known_name header (name_at header k) k low refl in
    let first = position-Some (λ (name : List ℕ). same_name name (name_at header k)) header p [] at in
    elim (cases_order p k) [
      | inl same ↦ at ∙ ap Some same
      | inr (inl before) ↦ absurd (true≢false (sym first.1 ∙ names_apart WIDEST_HEADED header is p k [] before low))
      | inr (inr after) ↦ absurd (true≢false (sym (self (name_at header k)) ∙ first.2 k after))
    ]

-- ---- its token
-- a token that stands for a name
record StandsFor (name : List ℕ) (m : Mark) : Type 0 where
  word : is_word_token m.kind ≡ true
  not_reserved : is_reserved_token format.Plain m.kind m.word ≡ false
  same : m.word ≡ name

-- the first token of a text, and what is left of it
record IsFirstMark (name : List ℕ) (column : ℕ) (text rest : List ℕ) : Type 0 where
  mark : Mark
  next : ℕ
  stands : StandsFor name mark
  lexed : tokens_after read_mode 0 column text ≡ led_by_mark mark (tokens_after read_mode 0 next rest)

name_token : (naming : Naming) (name : List ℕ) (column : ℕ) (rest : List ℕ) → IsReadBack format.Plain naming name → Parted rest
    → IsFirstMark name column (spelling naming name ++ rest) rest
unfolding spelling
name_token Bare name column rest back parted = record {
  mark = record { kind = token.Identifier; column = column; length = length name; word = name };
  next = column + length name;
  stands = record { word = refl; not_reserved = back.1; same = refl };
  lexed = name_lexed read_mode column name rest back.0 parted.0;
}
name_token Any name column rest back parted = record {
  mark = name_mark Any column name;
  next = column + length (spelling Any name);
  stands = record {
    word = kind_is_word Any name;
    not_reserved = kind_not_reserved format.Plain Any name back;
    same = refl;
  };
  lexed = spelled_lexed format.Plain Any read_mode column name rest refl back parted;
}

-- ---- columns
record AreMarks (header : List (List ℕ)) (columns : List ℕ) (column : ℕ) (text : List ℕ) : Type 0 where
  marks : List Mark
  each : AllZip (NamesColumnAt header) marks columns
  lexed : tokens_after read_mode 0 column text ≡ record { marks = marks; stop = None }

names_at : (header : List (List ℕ)) → IsColumnHeader header → (k : ℕ) → k < length header → (m : Mark) → StandsFor (name_at header k) m
    → NamesColumnAt header m k
names_at header is k low m stands = record {
  word = stands.word;
  not_reserved = stands.not_reserved;
  known = ap (attribute_named header) stands.same ∙ name_found header is k low;
}

parted_columns : (header : List (List ℕ)) (columns : List ℕ) → Parted (words_text (map (column_text header) columns))
parted_columns header [] = (tt, refl)
parted_columns header (k ∷ columns) = (refl, refl)

later_marks : (header : List (List ℕ)) → IsColumnHeader header → (columns : List ℕ) → All (λ (k : ℕ). k < length header) columns → (column : ℕ)
    → AreMarks header columns column (words_text (map (column_text header) columns))
unfolding column_text
later_marks header is [] low column = record { marks = []; each = tt; lexed = nothing_left read_mode column }
later_marks header is (k ∷ columns) low column =
    let k_low = All-head (λ (c : ℕ). c < length header) k columns low in
    let rest = words_text (map (column_text header) columns) in
    let first = name_token (naming_under header) (name_at header k) (column + 1) rest (name_back header is k k_low) (parted_columns header columns) in
    let later = later_marks header is columns (All-tail (λ (c : ℕ). c < length header) k columns low) first.next in
    record {
      marks = first.mark ∷ later.marks;
      each = (names_at header is k k_low first.mark first.stands, later.each);
      lexed = blank_lexed read_mode column (column_text header k ++ rest) ∙ first.lexed ∙ ap (led_by_mark first.mark) later.lexed;
    }

all_marks : (header : List (List ℕ)) → IsColumnHeader header → (columns : List ℕ) → All (λ (k : ℕ). k < length header) columns → 0 < length columns
    → AreMarks header columns 1 (side_text (map (column_text header) columns))
unfolding column_text
all_marks header is [] low some = absurd (omega (arith, some))
all_marks header is (k ∷ columns) low some =
    let k_low = All-head (λ (c : ℕ). c < length header) k columns low in
    let rest = words_text (map (column_text header) columns) in
    let first = name_token (naming_under header) (name_at header k) 1 rest (name_back header is k k_low) (parted_columns header columns) in
    let later = later_marks header is columns (All-tail (λ (c : ℕ). c < length header) k columns low) first.next in
    record {
      marks = first.mark ∷ later.marks;
      each = (names_at header is k k_low first.mark first.stands, later.each);
      lexed = first.lexed ∙ ap (led_by_mark first.mark) later.lexed;
    }

pub printed_means : (header : List (List ℕ)) (columns : List ℕ) → IsColumnHeader header → All (λ (k : ℕ). k < length header) columns
    → 0 < length columns → length columns ≤ MOST_LISTED_COLUMNS → AllPairs (λ (one other : ℕ). one ≡ other → ⊥) columns
    → MeansColumns header (side_text (map (column_text header) columns)) columns
printed_means header columns is low some few apart =
    let are = all_marks header is columns low some in
    record { marks = are.marks; tokens = are.lexed; each = are.each; some = some; within_limit = few; apart = apart }
