-- Columns of a file as a word of a command states them, and how such a word is refused: for `check
-- references`.
use Rattle.std.specs.Prelude.{◌≡◌, ◌<◌, ◌≤◌, ◌⊎◌, ℕ, true, false, List, codes, length, map, is_some, Some, AllPairs}
use Rattle.std.specs.List.{AllZip}
use Rattle.desk_refusals.specs.Refusals.{refusal_text}
use Rattle.desk_references.specs.declared.columns.TheConstants.{MOST_LISTED_COLUMNS, MOST_LIST_BYTES}
use Rattle.desk_responses.specs.ResponseValues.{Allowed, Says, With}
use Rattle.desk_responses.specs.declared.status.Status.TheVariants.{Refused}
use Rattle.desk_texts.specs.Texts.{too_long_text}
use Rattle.lexer.specs.Modes as mode
use Rattle.lexer.specs.Tokens.{Mark, lex}
use Rattle.schema_grammar.specs.DiagnosticKinds.{DiagnosticKind, double_name, expected}
use Rattle.schema_grammar.specs.Diagnostics.{DiagnosesOfWord, IsFirst, NamesDiagnostic, NamesWant, span_at}
use Rattle.schema_grammar.specs.Meanings.{HasTokens}
use Rattle.schema_grammar.specs.Words.{is_reserved_token, is_word_token}
use Rattle.schema_grammar.specs.declared.format.Format.TheVariants as format
use Rattle.schema_grammar.specs.declared.refusal.SchemaRefusal.{SchemaRefusal}
use Rattle.schema_model.specs.Schemas.{attribute_named}
use Rattle.schema_model.specs.declared.naming.Naming.TheVariants.{Any}

-- ---- the grammar
-- a word or a quoted name names the column at a position
pub record NamesColumnAt (names : List (List ℕ)) (m : Mark) (column : ℕ) : Type 0 where
  pub word : is_word_token m.kind ≡ true
  pub not_reserved : is_reserved_token format.Plain m.kind m.word ≡ false
  pub known : attribute_named names m.word ≡ Some column

-- a text names these columns of a file, one to so many, none twice, in this order
pub record MeansColumns (names : List (List ℕ)) (text : List ℕ) (columns : List ℕ) : Type 0 where
  pub marks : List Mark
  pub tokens : HasTokens (lex (mode.goal Any) text) marks
  pub each : AllZip (NamesColumnAt names) marks columns
  pub some : 0 < length columns
  pub within_limit : length columns ≤ MOST_LISTED_COLUMNS
  pub apart : AllPairs (λ (one other : ℕ). one ≡ other → ⊥) columns

-- what is wrong with a word of such a text after others: as in a set, or one before it is the same name,
-- ASCII case aside, or there are enough before it
abbrev pub ColumnDiagnostic : List (List ℕ) → List Mark → Mark → DiagnosticKind → Type 0
ColumnDiagnostic names before m why =
    (DiagnosesOfWord format.Plain names m why
    ⊎ ((why ≡ double_name) × (is_some (attribute_named (map (λ w. w.word) before) m.word) ≡ true)))
    ⊎ ((why ≡ expected) × (MOST_LISTED_COLUMNS ≤ length before))

-- a text is refused by its first diagnostic
abbrev pub RefusesColumns : List (List ℕ) → List ℕ → SchemaRefusal → Type 0
RefusesColumns names text e =
    IsFirst (NamesDiagnostic (ColumnDiagnostic names) (lex (mode.goal Any) text).marks (lex (mode.goal Any) text).stop)
    NamesWant (span_at 1 1 (lex (mode.goal Any) text).marks (lex (mode.goal Any) text).stop) e

-- ---- words of a command
-- such a text of at most so many bytes
pub record AreColumns (names : List (List ℕ)) (text : List ℕ) (columns : List ℕ) : Type 0 where
  pub within_limit : length text ≤ MOST_LIST_BYTES
  pub means : MeansColumns names text columns

-- one of as many is refused so
pub record AreRefusedColumns (names : List (List ℕ)) (text : List ℕ) (refusal : SchemaRefusal) : Type 0 where
  pub within_limit : length text ≤ MOST_LIST_BYTES
  pub refused : RefusesColumns names text refusal

-- the refusal of one of the two texts, by what it is called
abbrev pub columns_refusal_text : List ℕ → SchemaRefusal → List ℕ
columns_refusal_text called refusal = refusal_text (codes "references") called refusal

-- how the reading of one ends a command
abbrev pub ColumnsStop : List ℕ → List (List ℕ) → List ℕ → Allowed
ColumnsStop called names text response =
    ((MOST_LIST_BYTES < length text) × Says Refused (too_long_text called) response)
    ⊎ ((refusal : SchemaRefusal) × AreRefusedColumns names text refusal
    × Says Refused (columns_refusal_text called refusal) response)

-- columns are read, and then the rest follows
abbrev pub WithColumns : List ℕ → List (List ℕ) → List ℕ → (List ℕ → Allowed) → Allowed
WithColumns called names text = With (ColumnsStop called names text) (AreColumns names text)
