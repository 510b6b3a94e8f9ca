-- Reserved words, declaring words and the attributes that words name: for the grammars of schemas,
-- plans and certificates.
use Rattle.std.specs.Prelude.{ℕ, Bool, true, false, ◌||◌, List, [], ◌∷◌, Option, Some, None, Result, Ok, Err, codes, if◌then◌else◌}
use Rattle.std.specs.Str.{bytes_eq}
use Rattle.schema_model.specs.declared.column_type.ColumnType.{ColumnType}
use Rattle.schema_model.specs.declared.column_type.ColumnType.TheVariants.{Text, Integer, Date, Timestamp, Uuid}
use Rattle.lexer.specs.declared.token.TokenKind.{TokenKind}
use Rattle.lexer.specs.declared.token.TokenKind.TheVariants as token
use Rattle.schema_model.specs.Names.{same_name, is_type_name}
use Rattle.schema_model.specs.Schemas.{attribute_named}
use Rattle.schema_printer.specs.Spelling.{is_schema_word}
use Rattle.schema_grammar.specs.declared.line_kind.LineKind.{LineKind}
use Rattle.schema_grammar.specs.declared.line_kind.LineKind.TheVariants as begins
use Rattle.schema_grammar.specs.declared.line_kind.Purpose.TheVariants as purpose
use Rattle.schema_grammar.specs.declared.refusal.SchemaRefusalKind.{SchemaRefusalKind}
use Rattle.schema_grammar.specs.declared.refusal.SchemaRefusalKind.TheVariants as kind
use Rattle.schema_grammar.specs.declared.format.Format.{Format}
use Rattle.schema_grammar.specs.declared.format.Format.TheVariants as format

-- reserved in every text: `attributes`, `scheme` and `version`, in any case
abbrev pub is_common_word : List ℕ → Bool
is_common_word word =
    (same_name word (codes "attributes") || same_name word (codes "scheme"))
    || same_name word (codes "version")

-- a typed text reserves `integer` and `text` too, and a full one all that its lines may begin with
unfoldable pub is_reserved : Format → List ℕ → Bool
is_reserved format.Plain word = is_common_word word
is_reserved format.Typed word = is_common_word word || is_type_name word
is_reserved format.Full word = is_schema_word word

-- a token that may stand for a name: a word, or a name between quotes
abbrev pub is_word_token : TokenKind → Bool
is_word_token token.Identifier = true
is_word_token token.Quoted = true
is_word_token _ = false

-- a token is a reserved word, which no quoted name is
abbrev pub is_reserved_token : Format → TokenKind → List ℕ → Bool
is_reserved_token f token.Identifier word = is_reserved f word
is_reserved_token f _ word = false

abbrev pub known_attribute : Option ℕ → Result ℕ SchemaRefusalKind
known_attribute (Some attribute) = Ok attribute
known_attribute None = Err kind.UnknownName

-- the attribute that a word of a side, or a quoted name, stands for
unfoldable pub look_up : Format → List (List ℕ) → TokenKind → List ℕ → Result ℕ SchemaRefusalKind
look_up f declared k word =
    if is_reserved_token f k word then Err kind.ReservedName else known_attribute (attribute_named declared word)

-- a line that declares columns of a type
abbrev pub columns_of : ColumnType → LineKind
columns_of column = begins.Names (purpose.Columns column)

-- the words, in lower case, that begin a line which states no dependency
abbrev pub opening_words : Format → List (List ℕ × LineKind)
opening_words format.Plain = (codes "attributes", columns_of Text) ∷ []
opening_words format.Typed =
    (codes "attributes", columns_of Text) ∷ (codes "text", columns_of Text)
    ∷ (codes "integer", columns_of Integer) ∷ []
opening_words format.Full =
    (codes "attributes", columns_of Text) ∷ (codes "text", columns_of Text)
    ∷ (codes "integer", columns_of Integer) ∷ (codes "date", columns_of Date)
    ∷ (codes "timestamp", columns_of Timestamp) ∷ (codes "uuid", columns_of Uuid)
    ∷ (codes "decimal", begins.Decimal) ∷ (codes "other", begins.Other)
    ∷ (codes "nullable", begins.Names purpose.Nullable) ∷ []

-- what a word begins, by such words
abbrev pub begun_by : List (List ℕ × LineKind) → List ℕ → LineKind
begun_by [] word = begins.Dependency
begun_by ((key, k) ∷ words) word = if bytes_eq word key then k else begun_by words word

-- what a line is, by its first token
unfoldable pub line_kind : Format → TokenKind → List ℕ → LineKind
line_kind f token.Identifier word = begun_by (opening_words f) word
line_kind f token.Quoted word = begins.Dependency
line_kind f (token.Number n) word = begins.Dependency
line_kind f token.Arrow word = begins.Dependency
line_kind f token.DoubleArrow word = begins.Dependency
line_kind f token.Empty word = begins.Dependency
line_kind f token.Colon word = begins.Dependency
