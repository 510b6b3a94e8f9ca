-- A plan text read from left to right: for `read_plan`. The laws of plan_grammar tie it to the
-- meaning, and `Desk` does not cite it.
use Rattle.std.specs.Prelude.{ℕ, ◌+◌, Bool, true, false, nat_le, if◌then◌else◌, List, [], ◌∷◌, length, Option, Some, None, Result, Ok, Err}
use Rattle.std.specs.List.{list_any}
use Rattle.attr_sets.specs.Attributes.{Attributes, none, only, union}
use Rattle.schema_model.specs.declared.naming.Naming.{Naming}
use Rattle.lexer.specs.declared.token.LexError.{LexError}
use Rattle.lexer.specs.declared.token.TokenKind.{TokenKind}
use Rattle.lexer.specs.declared.token.TokenKind.TheVariants as token
use Rattle.lexer.specs.Tokens.{Mark, is_colon}
use Rattle.schema_grammar.specs.declared.format.Format.TheVariants as format
use Rattle.schema_grammar.specs.declared.refusal.SchemaRefusal.{SchemaRefusal}
use Rattle.schema_grammar.specs.declared.refusal.SchemaRefusalKind.{SchemaRefusalKind}
use Rattle.schema_grammar.specs.declared.refusal.SchemaRefusalKind.TheVariants as kind
use Rattle.schema_grammar.specs.declared.refusal.What.TheVariants as what
use Rattle.schema_grammar.specs.Refusals.{refusal, refused_by, at}
use Rattle.schema_grammar.specs.Rests.{attribute_of_word, Rest, ◌>>=◌}
use Rattle.schema_grammar.specs.Words.{is_reserved_token}
use Rattle.plan_grammar.specs.declared.refusal.PlanRefusal.{PlanRefusal}
use Rattle.plan_grammar.specs.declared.refusal.PlanRefusal.TheVariants as plan
use Rattle.plans.specs.declared.bounds.TheConstants.{MOST_SCHEMES}
use Rattle.table_names.specs.TableNames.{is_given}
use Rattle.plan_printer.specs.NamedPlans.{NamedSchemes, PlannedTable, with_table}
use Rattle.plan_grammar.specs.LineTokens.{is_table, lex_line}
use Rattle.plan_grammar.specs.Meanings.{is_kept_word}
use Rattle.plan_grammar.specs.Diagnostics.{wanted_after, opens_line}

-- an error of the text
abbrev pub of_text : {X : Type 0} → Result X SchemaRefusal → Result X PlanRefusal
of_text (Ok x) = Ok x
of_text (Err e) = Err (plan.Text e)

-- the refusal of a token that is no attribute
abbrev pub other_token : ℕ → Bool → Mark → PlanRefusal
other_token line first m =
    plan.Text (refusal line m.column m.length (kind.Expected (wanted_after first 0)))

-- what a token of the attributes stands for
abbrev pub attribute_of_token : List (List ℕ) → ℕ → Bool → Mark → TokenKind → Result ℕ PlanRefusal
attribute_of_token names line first m token.Identifier = of_text (attribute_of_word names line m)
attribute_of_token names line first m token.Quoted = of_text (attribute_of_word names line m)
attribute_of_token names line first m token.Empty = if first then Err (plan.EmptyScheme line)
    else Err (other_token line first m)
attribute_of_token names line first m token.Arrow = Err (other_token line first m)
attribute_of_token names line first m token.DoubleArrow = Err (other_token line first m)
attribute_of_token names line first m token.Colon = Err (other_token line first m)
attribute_of_token names line first m (token.Number n) = Err (other_token line first m)

-- attributes, added to a set
unfoldable pub read_words : List (List ℕ) → ℕ → Bool → Attributes → List Mark → Option LexError
    → Result Attributes PlanRefusal
read_words names line true x [] None = Err (plan.EmptyScheme line)
read_words names line false x [] None = Ok x
read_words names line first x [] (Some stop) = Err (plan.Text (refused_by line stop))
read_words names line first x (m ∷ ms) stop =
    attribute_of_token names line first m m.kind
    >>= (λ a. read_words names line false (union x (only a)) ms stop)

abbrev pub read_words_rest : List (List ℕ) → Bool → Attributes → Rest → Result Attributes PlanRefusal
read_words_rest names first x r = read_words names r.line first x r.marks r.stop

-- a table with these attributes, where they are read
abbrev pub table_of : Option (List ℕ) → Result Attributes PlanRefusal → Result PlannedTable PlanRefusal
table_of name (Ok x) = Ok (record { name = name; scheme = x })
table_of name (Err e) = Err e

-- `:`, and the attributes of a table of this name
unfoldable pub read_colon : List (List ℕ) → ℕ → List ℕ → ℕ → List Mark → Option LexError
    → Result PlannedTable PlanRefusal
read_colon names line name next_column [] None =
    Err (plan.Text (refusal line next_column 0 (kind.Expected what.Colon)))
read_colon names line name next_column [] (Some stop) = Err (plan.Text (refused_by line stop))
read_colon names line name next_column (m ∷ ms) stop =
    if is_colon m.kind then table_of (Some name) (read_words names line true none ms stop)
    else Err (plan.Text (refusal line m.column m.length (kind.Expected what.Colon)))

abbrev pub read_colon_rest : List (List ℕ) → List ℕ → Rest → Result PlannedTable PlanRefusal
read_colon_rest names name r = read_colon names r.line name r.next_column r.marks r.stop

-- the name that a word gives to a table, where earlier lines give these names
abbrev pub name_of_word : List (Option (List ℕ)) → List ℕ → Result (List ℕ) SchemaRefusalKind
name_of_word earlier word =
    if is_kept_word word then Err kind.ReservedName
    else if list_any (is_given word) earlier then Err kind.DoubleName else Ok word

-- and that a token gives
abbrev pub name_of_token : List (Option (List ℕ)) → Mark → TokenKind → Result (List ℕ) SchemaRefusalKind
name_of_token earlier m token.Identifier = name_of_word earlier m.word
name_of_token earlier m token.Quoted = Err (kind.Expected what.Name)
name_of_token earlier m (token.Number n) = Err (kind.Expected what.Name)
name_of_token earlier m token.Arrow = Err (kind.Expected what.Name)
name_of_token earlier m token.DoubleArrow = Err (kind.Expected what.Name)
name_of_token earlier m token.Empty = Err (kind.Expected what.Name)
name_of_token earlier m token.Colon = Err (kind.Expected what.Name)

-- what stands after the word `table`
unfoldable pub read_named : List (List ℕ) → List (Option (List ℕ)) → ℕ → ℕ → List Mark → Option LexError
    → Result PlannedTable PlanRefusal
read_named names earlier line next_column [] None =
    Err (plan.Text (refusal line next_column 0 (kind.Expected what.Name)))
read_named names earlier line next_column [] (Some stop) = Err (plan.Text (refused_by line stop))
read_named names earlier line next_column (m ∷ ms) stop =
    of_text (at line m.column m.length (name_of_token earlier m m.kind))
    >>= (λ name. read_colon names line name (m.column + m.length) ms stop)

abbrev pub read_named_rest : List (List ℕ) → List (Option (List ℕ)) → Rest → Result PlannedTable PlanRefusal
read_named_rest names earlier r = read_named names earlier r.line r.next_column r.marks r.stop

-- what stands after the first token, by whether it is the word `table`
abbrev pub read_opened : Bool → List (List ℕ) → List (Option (List ℕ)) → Rest → Result PlannedTable PlanRefusal
read_opened true names earlier r = read_named_rest names earlier r
read_opened false names earlier r = table_of None (read_words_rest names true none r)

-- why a line can't begin with a token
abbrev pub no_scheme : TokenKind → List ℕ → SchemaRefusalKind
no_scheme k word = if is_reserved_token format.Plain k word then kind.ReservedName
    else kind.Expected what.Scheme

-- the table of a line that this token begins, where earlier lines give these names
abbrev pub read_table : List (List ℕ) → List (Option (List ℕ)) → Mark → Rest → Result PlannedTable PlanRefusal
read_table names earlier m r =
    if opens_line m.kind m.word
    then (if nat_le MOST_SCHEMES (length earlier) then Err (plan.TooManySchemes r.line)
    else read_opened (is_table m.kind m.word) names earlier r)
    else Err (plan.Text (refusal r.line m.column m.length (no_scheme m.kind m.word)))

-- the tables with that of one line more
unfoldable pub read_table_line : List (List ℕ) → ℕ → NamedSchemes → List Mark → Option LexError
    → Result NamedSchemes PlanRefusal
read_table_line names line tables [] None = Ok tables
read_table_line names line tables [] (Some stop) = Err (plan.Text (refused_by line stop))
read_table_line names line tables (m ∷ ms) stop =
    read_table names tables.names m
    (record { line = line; next_column = m.column + m.length; marks = ms; stop = stop })
    >>= (λ table. Ok (with_table tables table))

-- the tables of lines, of which the first has this number, after other tables
unfoldable pub read_table_lines : Naming → List (List ℕ) → ℕ → NamedSchemes → List (List ℕ)
    → Result NamedSchemes PlanRefusal
read_table_lines naming names number tables [] = Ok tables
read_table_lines naming names number tables (line ∷ lines) =
    read_table_line names number tables (lex_line naming line).marks (lex_line naming line).stop
    >>= (λ more. read_table_lines naming names (number + 1) more lines)
