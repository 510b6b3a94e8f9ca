-- What tables a plan text means: for `read_plan` and the commands that read plans (`desk_inputs/Plans`).
use Rattle.std.specs.Prelude.{◌≡◌, ◌<◌, ◌≤◌, ◌⊎◌, ℕ, Bool, ◌||◌, true, false, List, [], ◌∷◌, ◌++◌, length, Option, Some, None, All}
use Rattle.std.specs.List.{list_any}
use Rattle.dep_model.specs.Projections.{Covers}
use Rattle.schema_model.specs.declared.naming.Naming.{Naming}
use Rattle.lexer.specs.declared.token.TokenKind.TheVariants as token
use Rattle.lexer.specs.Lines.{line_texts, without_mark}
use Rattle.lexer.specs.Tokens.{Mark}
use Rattle.schema_grammar.specs.declared.format.Format.TheVariants as format
use Rattle.schema_grammar.specs.Meanings.{HasTokens, IsAttribute, attributes_of_words}
use Rattle.schema_grammar.specs.Words.{is_reserved}
use Rattle.table_names.specs.TableNames.{is_given, is_taken}
use Rattle.plan_printer.specs.NamedPlans.{NamedSchemes, PlannedTable, led_by_table, no_tables}
use Rattle.plan_grammar.specs.LineTokens.{is_scheme, is_table, lex_line}
use Rattle.plans.specs.declared.bounds.TheConstants.{MOST_SCHEMES}

-- a word that names no table: a reserved one, or one by which a script names a table or a view itself
abbrev pub is_kept_word : List ℕ → Bool
is_kept_word word = is_reserved format.Plain word || is_taken word

-- the word `scheme` stands before the attributes, and the table has no name
pub record OpensScheme (ms words : List Mark) (name : Option (List ℕ)) : Type 0 where
  pub head : Mark
  pub whole : ms ≡ head ∷ words
  pub scheme : is_scheme head.kind head.word ≡ true
  pub unnamed : name ≡ None

-- the word `table`, the name of the table and `:` stand before the attributes; the name is a word of its own,
-- which no earlier line gives, the case of letters aside
pub record OpensTable (earlier : List (Option (List ℕ))) (ms words : List Mark) (name : Option (List ℕ)) : Type 0 where
  pub head : Mark
  pub label : Mark
  pub colon : Mark
  pub whole : ms ≡ head ∷ label ∷ colon ∷ words
  pub table : is_table head.kind head.word ≡ true
  pub is_word : label.kind ≡ token.Identifier
  pub not_kept : is_kept_word label.word ≡ false
  pub new : list_any (is_given label.word) earlier ≡ false
  pub is_colon : colon.kind ≡ token.Colon
  pub named : name ≡ Some label.word

-- a line over declared names, after lines that give these names: its beginning, and one or more words or quoted
-- names, for the attributes that they name
pub record IsTableLine (names : List (List ℕ)) (earlier : List (Option (List ℕ))) (ms : List Mark)
    (table : PlannedTable) : Type 0 where
  pub words : List Mark
  pub opens : OpensScheme ms words table.name ⊎ OpensTable earlier ms words table.name
  pub not_empty : 0 < length words
  pub each : All (IsAttribute format.Plain names) words
  pub members : table.scheme ≡ attributes_of_words names words

-- a line has the tokens of a table
pub record MeansTable (naming : Naming) (names : List (List ℕ)) (earlier : List (Option (List ℕ))) (line : List ℕ)
    (table : PlannedTable) : Type 0 where
  pub marks : List Mark
  pub tokens : HasTokens (lex_line naming line) marks
  pub is_line : IsTableLine names earlier marks table

-- lines mean the tables of those with tokens, in order; the others have none
abbrev pub MeansTableLines : Naming → List (List ℕ) → List (Option (List ℕ)) → List (List ℕ) → NamedSchemes → Type 0
MeansTableLines naming names earlier [] plan = plan ≡ no_tables
MeansTableLines naming names earlier (line ∷ lines) plan =
    (HasTokens (lex_line naming line) [] × MeansTableLines naming names earlier lines plan)
    ⊎ ((table : PlannedTable) × (others : NamedSchemes) × MeansTable naming names earlier line table
    × MeansTableLines naming names (earlier ++ table.name ∷ []) lines others × (plan ≡ led_by_table table others))

-- a plan text over declared names means schemes, and names of their tables
pub record MeansPlan (naming : Naming) (names : List (List ℕ)) (text : List ℕ) (plan : NamedSchemes) : Type 0 where
  pub lines : MeansTableLines naming names [] (line_texts (without_mark text)) plan
  pub schemes_fit : length plan.schemes ≤ MOST_SCHEMES
  pub covers : Covers (length names) plan.schemes
