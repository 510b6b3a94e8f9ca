-- What a schema text declares, line by line: for the meaning of schema texts (`Schemas`) and their
-- reading (`Texts`).
use Rattle.std.specs.Prelude.{ℕ, ◌+◌, ◌==◌, Bool, true, false, ◌&&◌, if◌then◌else◌, List, [], ◌∷◌, ◌++◌, length, nat_le, Option, Some, None, is_some, Result, Ok, Err}
use Rattle.attr_sets.specs.declared.set.TheConstants.{MOST_ATTRIBUTES}
use Rattle.attr_sets.specs.Attributes.{Attributes, only, none, union}
use Rattle.schema_model.specs.declared.column_type.ColumnType.{ColumnType}
use Rattle.schema_model.specs.declared.column_type.ColumnType.TheVariants as types
use Rattle.schema_model.specs.declared.column_type.TheConstants.{MOST_SCALE}
use Rattle.schema_model.specs.declared.naming.Naming.{Naming}
use Rattle.schema_grammar.specs.declared.format.TheConstants.{MOST_DEPENDENCY_LINES}
use Rattle.dep_model.specs.Dependencies.{Dependency}
use Rattle.schema_model.specs.Names.{is_type_text}
use Rattle.schema_model.specs.Schemas.{attribute_named}
use Rattle.lexer.specs.declared.token.LexError.{LexError}
use Rattle.lexer.specs.declared.token.Token.{Token}
use Rattle.lexer.specs.declared.token.TokenKind.{TokenKind}
use Rattle.lexer.specs.declared.token.TokenKind.TheVariants as token
use Rattle.lexer.specs.Tokens.{Mark}
use Rattle.schema_grammar.specs.declared.line_kind.LineKind.{LineKind}
use Rattle.schema_grammar.specs.declared.line_kind.LineKind.TheVariants as begins
use Rattle.schema_grammar.specs.declared.line_kind.Purpose.{Purpose}
use Rattle.schema_grammar.specs.declared.line_kind.Purpose.TheVariants as purpose
use Rattle.schema_grammar.specs.declared.refusal.SchemaRefusal.{SchemaRefusal}
use Rattle.schema_grammar.specs.declared.refusal.SchemaRefusalKind.{SchemaRefusalKind}
use Rattle.schema_grammar.specs.declared.refusal.SchemaRefusalKind.TheVariants as kind
use Rattle.schema_grammar.specs.declared.refusal.What.{What}
use Rattle.schema_grammar.specs.declared.refusal.What.TheVariants as what
use Rattle.schema_grammar.specs.declared.format.Format.{Format}
use Rattle.schema_grammar.specs.Grammar.{Reached, start}
use Rattle.schema_grammar.specs.Reading.{step, follow}
use Rattle.schema_grammar.specs.Refusals.{refusal, refused_by, at}
use Rattle.schema_grammar.specs.LineTokens.{lex_line}
use Rattle.schema_grammar.specs.Words.{is_reserved_token, line_kind, look_up}
use Rattle.schema_grammar.specs.Rests.{Rest, ◌>>=◌, number_in}

-- what a schema text declares: names and the types of their columns, dependencies and their lines, which
-- names they are, and the attributes of which a value may be missing
pub record Declarations : Type 0 where
  pub names : List (List ℕ)
  pub columns : List ColumnType
  pub deps : List Dependency
  pub lines : List ℕ
  pub naming : Naming
  pub nullable : Attributes

-- nothing declared; one name more; one dependency more; one more attribute of which a value may be missing
abbrev pub no_declaration : Naming → Declarations
no_declaration naming =
    record { names = []; columns = []; deps = []; lines = []; naming = naming; nullable = none }

abbrev pub add_name : Declarations → List ℕ → ColumnType → Declarations
add_name d name column = record d { names = d.names ++ name ∷ []; columns = d.columns ++ column ∷ [] }

abbrev pub add_dependency : Declarations → Dependency → ℕ → Declarations
add_dependency d dep line = record d { deps = d.deps ++ dep ∷ []; lines = d.lines ++ line ∷ [] }

abbrev pub add_nullable : Declarations → Attributes → Declarations
add_nullable d x = record d { nullable = union d.nullable x }

-- a word, or a quoted name, declares a name
unfoldable pub declare : Format → ColumnType → Declarations → TokenKind → List ℕ
    → Result Declarations SchemaRefusalKind
declare f column d k word =
    if is_reserved_token f k word then Err kind.ReservedName
    else if is_some (attribute_named d.names word) then Err kind.DoubleName
    else if nat_le MOST_ATTRIBUTES (length d.names) then Err kind.TooManyAttributes
    else Ok (add_name d word column)

-- or it names an attribute of which a value may be missing
unfoldable pub allow : Format → Declarations → TokenKind → List ℕ → Result Declarations SchemaRefusalKind
allow f d k word = look_up f d.names k word >>= (λ a. Ok (add_nullable d (only a)))

-- by what the names of the line are for
abbrev pub take_name : Format → Purpose → Declarations → TokenKind → List ℕ
    → Result Declarations SchemaRefusalKind
take_name f (purpose.Columns column) d k word = declare f column d k word
take_name f purpose.Nullable d k word = allow f d k word

-- what is wanted in a line of names where no name stands
abbrev pub what_after_names : Bool → What
what_after_names any_name = if any_name then what.LineEnd else what.Name

-- a token in a line of names; `any_name` is whether a name stood before
abbrev pub name_step : Format → Purpose → Declarations → Bool → TokenKind → List ℕ
    → Result Declarations SchemaRefusalKind
name_step f p d any_name token.Identifier word = take_name f p d token.Identifier word
name_step f p d any_name token.Quoted word = take_name f p d token.Quoted word
name_step f p d any_name _ word = Err (kind.Expected (what_after_names any_name))

-- the names of a line
unfoldable pub list_names : Format → Purpose → ℕ → Declarations → Bool → ℕ → List Mark → Option LexError
    → Result Declarations SchemaRefusal
list_names f p line d true next_column [] None = Ok d
list_names f p line d false next_column [] None = at line next_column 0 (Err (kind.Expected what.Name))
list_names f p line d any_name next_column [] (Some stop) = Err (refused_by line stop)
list_names f p line d any_name next_column (m ∷ ms) stop =
    at line m.column m.length (name_step f p d any_name m.kind m.word)
    >>= (λ next. list_names f p line next true (m.column + m.length) ms stop)

-- the same of what is left of a line
abbrev pub list_names_rest : Format → Purpose → Declarations → Bool → Rest → Result Declarations SchemaRefusal
list_names_rest f p d any_name r = list_names f p r.line d any_name r.next_column r.marks r.stop

-- what is wanted after the word that begins a line of this kind
abbrev pub wanted_after : LineKind → What
wanted_after begins.Decimal = what.Number
wanted_after begins.Other = what.Type
wanted_after _ = what.Name

-- a number is a scale: from 0 to 9, in one digit
abbrev pub is_scale : Mark → ℕ → Bool
is_scale m n = nat_le n MOST_SCALE && (m.length == 1)

-- a type of decimal columns, by the number that is to be its scale
abbrev pub decimal_type : Mark → Option ℕ → Result ColumnType SchemaRefusalKind
decimal_type m None = Err (kind.Expected what.Number)
decimal_type m (Some n) = if is_scale m n then Ok (types.Decimal n) else Err kind.NoScale

-- a type of SQL, by the quoted text that is to be its text
abbrev pub other_type : List ℕ → TokenKind → Result ColumnType SchemaRefusalKind
other_type word token.Quoted = if is_type_text word then Ok (types.Other word) else Err kind.NoType
other_type word _ = Err (kind.Expected what.Type)

-- the type of the columns that a line declares, by the token after its first one
unfoldable pub type_after : LineKind → Mark → Result ColumnType SchemaRefusalKind
type_after begins.Decimal m = decimal_type m (number_in m.kind)
type_after begins.Other m = other_type m.word m.kind
type_after k m = Err (kind.Expected (wanted_after k))

-- the tokens of a line after its first one: a scale or a type, and names
unfoldable pub list_columns : Format → LineKind → ℕ → Declarations → ℕ → List Mark → Option LexError
    → Result Declarations SchemaRefusal
list_columns f k line d next_column [] None = Err (refusal line next_column 0 (kind.Expected (wanted_after k)))
list_columns f k line d next_column [] (Some stop) = Err (refused_by line stop)
list_columns f k line d next_column (m ∷ ms) stop =
    at line m.column m.length (type_after k m)
    >>= (λ c. list_names f (purpose.Columns c) line d false (m.column + m.length) ms stop)

-- the same of what is left of a line
abbrev pub list_columns_rest : Format → LineKind → Declarations → Rest → Result Declarations SchemaRefusal
list_columns_rest f k d r = list_columns f k r.line d r.next_column r.marks r.stop

-- the first token of a dependency line: what the line can't begin with comes before one dependency
-- too many
unfoldable pub begin : Format → Declarations → TokenKind → List ℕ → Result Reached SchemaRefusalKind
begin f d k word =
    step f d.names start k word
    >>= (λ next. if nat_le MOST_DEPENDENCY_LINES (length d.deps) then Err kind.TooManyDependencies else Ok next)

-- a dependency line with this first token
unfoldable pub dependency_line : Format → ℕ → Declarations → Mark → List Mark → Option LexError
    → Result Declarations SchemaRefusal
dependency_line f line d m ms stop =
    at line m.column m.length (begin f d m.kind m.word)
    >>= (λ next. follow f d.names line next (m.column + m.length) ms stop
    >>= (λ dep. Ok (add_dependency d dep line)))

-- the same of what is left of a line
abbrev pub dependency_rest : Format → Declarations → Mark → Rest → Result Declarations SchemaRefusal
dependency_rest f d m r = dependency_line f r.line d m r.marks r.stop

-- a token with its bytes
abbrev pub mark_of : Token → List ℕ → Mark
mark_of t word = record { kind = t.kind; column = t.column; length = t.length; word = word }

-- a line whose first token is this, by what the line is
abbrev pub line_from : Format → ℕ → Declarations → Mark → List Mark → Option LexError → LineKind
    → Result Declarations SchemaRefusal
line_from f line d m ms stop (begins.Names p) = list_names f p line d false (m.column + m.length) ms stop
line_from f line d m ms stop begins.Dependency = dependency_line f line d m ms stop
line_from f line d m ms stop k = list_columns f k line d (m.column + m.length) ms stop

-- a line of these tokens, which may be none
abbrev pub line_of_marks : Format → ℕ → Declarations → List Mark → Option LexError
    → Result Declarations SchemaRefusal
line_of_marks f line d [] None = Ok d
line_of_marks f line d [] (Some stop) = Err (refused_by line stop)
line_of_marks f line d (m ∷ ms) stop = line_from f line d m ms stop (line_kind f m.kind m.word)

-- what is declared after one line more
unfoldable pub read_line : Format → ℕ → Declarations → List ℕ → Result Declarations SchemaRefusal
read_line f line d text = line_of_marks f line d (lex_line f text).marks (lex_line f text).stop
