-- How names are read where they are printed: the tokens of words and sides, of which no byte ends a line.
use Rattle.std.proofs.Common.{◌≡◌, ◌+◌, ◌==◌, ◌&&◌, not, if◌then◌else◌, inl, inr, ℕ, Bool, true, false, List, [], ◌∷◌, ◌++◌, length, None, refl, sym, ◌∙◌, ap, arith, append_assoc, nat_eq}
use Rattle.std.specs.Prelude.{All, map}
use Rattle.std.specs.List.{starts_with, list_any, list_all}
use Rattle.std.proofs.lemmas.Bool.{cases_Bool, and_parts, or_parts}
use Rattle.std.proofs.lemmas.Bool.Decides.{nat_tests}
use Rattle.std.proofs.lemmas.List.{append-nil}
use Rattle.std.proofs.lemmas.List.Elements.{All-head, All-tail}
use Rattle.attr_sets.specs.Attributes.{Attributes}
use Rattle.schema_model.specs.declared.naming.Naming.{Naming}
use Rattle.schema_model.specs.declared.naming.Naming.TheVariants.{Bare, Any}
use Rattle.schema_model.specs.Names.{IsName, is_bare_name, is_control, quotes_doubled, quoted}
use Rattle.lexer.specs.declared.mode.Mode.{Mode}
use Rattle.lexer.specs.declared.token.TokenKind.{TokenKind}
use Rattle.lexer.specs.declared.token.TokenKind.TheVariants as token
use Rattle.lexer.specs.Modes.{has_quotes}
use Rattle.lexer.specs.Tokens.{Mark, Lexed, tokens_after, led_by_mark}
use Rattle.lexer.proofs.QuotedNames.{quoted_lexed}
use Rattle.lexer.proofs.Quoting.{name_test}
use Rattle.lexer.proofs.Steps.{at_token, at_comment, at_end}
use Rattle.lexer.specs.declared.piece.Piece.TheVariants as piece
use Rattle.lexer.specs.Pieces.{front_piece}
use Rattle.schema_printer.specs.Printing.{words_text, side_text, members_from}
use Rattle.schema_printer.specs.Spelling.{is_schema_word, spelling}
use Rattle.schema_grammar.specs.declared.format.Format.{Format}
use Rattle.schema_grammar.proofs.PrintedLexing.{Apart, name_lexed, blank_lexed}
use Rattle.schema_grammar.proofs.PrintedTexts.{Bytes, bytes_both, proper_bytes, is_line_byte}
use Rattle.schema_grammar.specs.Printed.{IsReadBack}

-- ---- a name
-- what is left of a line goes on neither with a word nor with a quoted name
abbrev pub Parted : List ℕ → Type 0
Parted rest = Apart rest × (starts_with nat_eq rest (34 ∷ []) ≡ false)

-- whether a name is printed without quotes, where names may be quoted
abbrev pub is_plain_word : List ℕ → Bool
is_plain_word name = is_bare_name name && not (is_schema_word name)

abbrev pub kind_of : Naming → List ℕ → TokenKind
kind_of Bare name = token.Identifier
kind_of Any name = if is_plain_word name then token.Identifier else token.Quoted

-- the token of a printed name
abbrev pub name_mark : Naming → ℕ → List ℕ → Mark
name_mark naming column name =
    record { kind = kind_of naming name; column = column; length = length (spelling naming name); word = name }

pub spelled_lexed : (f : Format) (naming : Naming) (m : Mode) (column : ℕ) (name rest : List ℕ)
    → m.quotes ≡ has_quotes naming → IsReadBack f naming name → Parted rest
    → tokens_after m 0 column (spelling naming name ++ rest)
    ≡ led_by_mark (name_mark naming column name)
    (tokens_after m 0 (column + length (spelling naming name)) rest)
unfolding spelling
spelled_lexed f Bare m column name rest taken is parted = name_lexed m column name rest is.0 parted.0
spelled_lexed f Any m column name rest taken is parted = elim (cases_Bool (is_plain_word name)) [
  | inl own ↦
      let bare = (and_parts (is_bare_name name) (not (is_schema_word name)) own).0 in
      rw own (name_lexed m column name rest bare parted.0)
  | inr other ↦ rw other (quoted_lexed m column name rest taken ((name_test name).1 is) parted.1)
]

-- ---- words and sides
abbrev pub led_by_all : List Mark → Lexed → Lexed
led_by_all ms l = record { marks = ms ++ l.marks; stop = l.stop }

-- the tokens of names that are printed each after a blank, and where they end
abbrev pub name_marks : Naming → ℕ → List (List ℕ) → List Mark
name_marks naming column [] = []
name_marks naming column (name ∷ names) =
    name_mark naming (column + 1) name
    ∷ name_marks naming (column + 1 + length (spelling naming name)) names

abbrev pub names_end : Naming → ℕ → List (List ℕ) → ℕ
names_end naming column [] = column
names_end naming column (name ∷ names) =
    names_end naming (column + 1 + length (spelling naming name)) names

parted_words : (naming : Naming) (names : List (List ℕ)) (rest : List ℕ) → Parted rest
    → Parted (words_text (map (spelling naming) names) ++ rest)
parted_words naming [] rest parted = parted
parted_words naming (name ∷ names) rest parted = (refl, refl)

pub names_lexed : (f : Format) (naming : Naming) (m : Mode) (column : ℕ) (names : List (List ℕ)) (rest : List ℕ)
    → m.quotes ≡ has_quotes naming → All (IsReadBack f naming) names → Parted rest
    → tokens_after m 0 column (words_text (map (spelling naming) names) ++ rest)
    ≡ led_by_all (name_marks naming column names) (tokens_after m 0 (names_end naming column names) rest)
names_lexed f naming m column [] rest taken all parted = refl
names_lexed f naming m column (name ∷ names) rest taken all parted =
    let word = spelling naming name in
    let more = words_text (map (spelling naming) names) in
    let here = All-head (IsReadBack f naming) name names all in
    let others = All-tail (IsReadBack f naming) name names all in
    ap (λ t. tokens_after m 0 column (32 ∷ t)) (append_assoc word more rest)
    ∙ blank_lexed m column (word ++ (more ++ rest))
    ∙ spelled_lexed f naming m (column + 1) name (more ++ rest) taken here (parted_words naming names rest parted)
    ∙ ap (led_by_mark (name_mark naming (column + 1) name))
    (names_lexed f naming m (column + 1 + length word) names rest taken others parted)

-- the tokens of names that are printed as a side, and where it ends
abbrev pub side_marks : Naming → ℕ → List (List ℕ) → List Mark
side_marks naming column [] =
    record { kind = token.Empty; column = column; length = 2; word = 40 ∷ 41 ∷ [] } ∷ []
side_marks naming column (name ∷ names) =
    name_mark naming column name ∷ name_marks naming (column + length (spelling naming name)) names

abbrev pub side_end : Naming → ℕ → List (List ℕ) → ℕ
side_end naming column [] = column + 2
side_end naming column (name ∷ names) = names_end naming (column + length (spelling naming name)) names

pub side_lexed : (f : Format) (naming : Naming) (m : Mode) (column : ℕ) (names : List (List ℕ)) (rest : List ℕ)
    → m.quotes ≡ has_quotes naming → All (IsReadBack f naming) names → Parted rest
    → tokens_after m 0 column (side_text (map (spelling naming) names) ++ rest)
    ≡ led_by_all (side_marks naming column names) (tokens_after m 0 (side_end naming column names) rest)
unfolding front_piece
side_lexed f naming m column [] rest taken all parted =
    at_token m column (40 ∷ 41 ∷ rest) token.Empty 2 (omega arith) refl
side_lexed f naming m column (name ∷ names) rest taken all parted =
    let word = spelling naming name in
    let more = words_text (map (spelling naming) names) in
    let here = All-head (IsReadBack f naming) name names all in
    let others = All-tail (IsReadBack f naming) name names all in
    ap (tokens_after m 0 column) (append_assoc word more rest)
    ∙ spelled_lexed f naming m column name (more ++ rest) taken here (parted_words naming names rest parted)
    ∙ ap (led_by_mark (name_mark naming column name))
    (names_lexed f naming m (column + length word) names rest taken others parted)

-- ---- the names of a set
pub members_spelled : (naming : Naming) (x : Attributes) (k : ℕ) (names : List (List ℕ))
    → members_from x k (map (spelling naming) names) ≡ map (spelling naming) (members_from x k names)
members_spelled naming x k [] = refl
members_spelled naming x k (name ∷ names) = elim (cases_Bool (x k)) [
  | inl member ↦ rw member (ap (λ ns. spelling naming name ∷ ns) (members_spelled naming x (k + 1) names))
  | inr outside ↦ rw outside (members_spelled naming x (k + 1) names)
]

-- ---- no line feed and no carriage return stands in them
uncontrolled : (name : List ℕ) → list_any is_control name ≡ false → Bytes name
uncontrolled [] none = refl
uncontrolled (b ∷ bytes) none =
    let parts = or_parts (is_control b) (list_any is_control bytes) none in
    let control = parts.0 in
    let byte : is_line_byte b ≡ true = grind (arith, nat_tests, control) in
    rw byte (uncontrolled bytes parts.1)

doubled_bytes : (name : List ℕ) → Bytes name → Bytes (quotes_doubled name)
unfolding quotes_doubled
doubled_bytes [] bytes = refl
doubled_bytes (b ∷ name) bytes =
    let parts = and_parts (is_line_byte b) (list_all is_line_byte name) bytes in
    let this : Bytes (if b == 34 then 34 ∷ 34 ∷ [] else b ∷ []) = elim (cases_Bool (b == 34)) [
      | inl quote ↦ rw quote refl
      | inr other ↦ rw (other, parts.0) refl
    ] in
    bytes_both (if b == 34 then 34 ∷ 34 ∷ [] else b ∷ []) (quotes_doubled name) this
    (doubled_bytes name parts.1)

pub quoted_bytes : (name : List ℕ) → IsName name → Bytes (quoted name)
quoted_bytes name is =
    bytes_both (34 ∷ []) (quotes_doubled name ++ 34 ∷ []) refl
    (bytes_both (quotes_doubled name) (34 ∷ []) (doubled_bytes name (uncontrolled name is.no_control)) refl)

pub spelled_bytes : (f : Format) (naming : Naming) (name : List ℕ) → IsReadBack f naming name
    → Bytes (spelling naming name)
unfolding spelling
spelled_bytes f Bare name is = proper_bytes name is.0
spelled_bytes f Any name is = elim (cases_Bool (is_plain_word name)) [
  | inl own ↦ rw own (proper_bytes name (and_parts (is_bare_name name) (not (is_schema_word name)) own).0)
  | inr other ↦ rw other (quoted_bytes name is)
]

pub names_bytes : (f : Format) (naming : Naming) (names : List (List ℕ)) → All (IsReadBack f naming) names
    → Bytes (words_text (map (spelling naming) names))
names_bytes f naming [] all = refl
names_bytes f naming (name ∷ names) all =
    bytes_both (32 ∷ spelling naming name) (words_text (map (spelling naming) names))
    (spelled_bytes f naming name (All-head (IsReadBack f naming) name names all))
    (names_bytes f naming names (All-tail (IsReadBack f naming) name names all))

pub side_bytes : (f : Format) (naming : Naming) (names : List (List ℕ)) → All (IsReadBack f naming) names
    → Bytes (side_text (map (spelling naming) names))
side_bytes f naming [] all = refl
side_bytes f naming (name ∷ names) all =
    bytes_both (spelling naming name) (words_text (map (spelling naming) names))
    (spelled_bytes f naming name (All-head (IsReadBack f naming) name names all))
    (names_bytes f naming names (All-tail (IsReadBack f naming) name names all))

-- ---- what ends a line
pub nothing_left : (m : Mode) (column : ℕ) → tokens_after m 0 column [] ≡ record { marks = []; stop = None }
nothing_left m column = at_end m column [] refl

pub last_names : (f : Format) (naming : Naming) (m : Mode) (column : ℕ) (names : List (List ℕ))
    → m.quotes ≡ has_quotes naming → All (IsReadBack f naming) names
    → tokens_after m 0 column (words_text (map (spelling naming) names))
    ≡ record { marks = name_marks naming column names; stop = None }
last_names f naming m column names taken all =
    ap (tokens_after m 0 column) (sym (append-nil (words_text (map (spelling naming) names))))
    ∙ names_lexed f naming m column names [] taken all (tt, refl)
    ∙ ap (led_by_all (name_marks naming column names)) (nothing_left m (names_end naming column names))
    ∙ ap (λ ms. record { marks = ms; stop = None }) (append-nil (name_marks naming column names))

pub last_side : (f : Format) (naming : Naming) (m : Mode) (column : ℕ) (names : List (List ℕ))
    → m.quotes ≡ has_quotes naming → All (IsReadBack f naming) names
    → tokens_after m 0 column (side_text (map (spelling naming) names))
    ≡ record { marks = side_marks naming column names; stop = None }
last_side f naming m column names taken all =
    ap (tokens_after m 0 column) (sym (append-nil (side_text (map (spelling naming) names))))
    ∙ side_lexed f naming m column names [] taken all (tt, refl)
    ∙ ap (led_by_all (side_marks naming column names)) (nothing_left m (side_end naming column names))
    ∙ ap (λ ms. record { marks = ms; stop = None }) (append-nil (side_marks naming column names))

-- what ends a line without a token: nothing, or a comment after a blank
pub record EndsLine (tail : List ℕ) : Type 0 where
  pub parted : Parted tail
  pub bytes : Bytes tail
  pub none : (m : Mode) (column : ℕ) → m.comments ≡ true
      → tokens_after m 0 column tail ≡ record { marks = []; stop = None }

pub nothing_ends : EndsLine []
nothing_ends = record { parted = (tt, refl); bytes = refl; none = λ m column taken. nothing_left m column }

front_comment : (m : Mode) (text : List ℕ) → m.comments ≡ true → front_piece m (35 ∷ text) ≡ piece.Comment
unfolding front_piece
front_comment m text taken = rw taken refl

pub comment_ends : (text : List ℕ) → Bytes text → EndsLine (32 ∷ 35 ∷ text)
comment_ends text bytes = record {
  parted = (refl, refl);
  bytes = bytes_both (32 ∷ 35 ∷ []) text refl bytes;
  none = λ m column taken.
      blank_lexed m column (35 ∷ text)
      ∙ at_comment m (column + 1) (35 ∷ text) (omega arith) (sym (front_comment m text taken));
}

pub ended_side : (f : Format) (naming : Naming) (m : Mode) (column : ℕ) (names : List (List ℕ)) (tail : List ℕ)
    → m.quotes ≡ has_quotes naming → m.comments ≡ true → All (IsReadBack f naming) names → EndsLine tail
    → tokens_after m 0 column (side_text (map (spelling naming) names) ++ tail)
    ≡ record { marks = side_marks naming column names; stop = None }
ended_side f naming m column names tail taken comments all ends =
    side_lexed f naming m column names tail taken all ends.parted
    ∙ ap (led_by_all (side_marks naming column names)) (ends.none m (side_end naming column names) comments)
    ∙ ap (λ ms. record { marks = ms; stop = None }) (append-nil (side_marks naming column names))

-- a word, and names each after a blank
pub named_line : (f : Format) (naming : Naming) (m : Mode) (word : List ℕ) (names : List (List ℕ))
    → is_bare_name word ≡ true → m.quotes ≡ has_quotes naming → All (IsReadBack f naming) names
    → tokens_after m 0 1 (word ++ words_text (map (spelling naming) names))
    ≡ record {
      marks = record { kind = token.Identifier; column = 1; length = length word; word = word }
          ∷ name_marks naming (1 + length word) names;
      stop = None;
    }
named_line f naming m word names bare taken all =
    name_lexed m 1 word (words_text (map (spelling naming) names)) bare
    (elim names as (λ ns. Apart (words_text (map (spelling naming) ns))) [ [] ↦ tt | n ∷ ns ↦ refl ])
    ∙ ap (led_by_mark (record { kind = token.Identifier; column = 1; length = length word; word = word }))
    (last_names f naming m (1 + length word) names taken all)
