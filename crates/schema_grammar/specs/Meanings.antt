-- What dependency a goal or a dependency line means: for `read_goal`, schema texts (`Schemas`) and
-- the lines of certificates.
use Rattle.std.specs.Prelude.{◌≡◌, ◌<◌, ◌⊎◌, ℕ, ◌==◌, true, false, List, [], ◌∷◌, ◌++◌, length, Option, Some, None, All}
use Rattle.std.specs.List.{list_any}
use Rattle.attr_sets.specs.Attributes.{Attributes, none}
use Rattle.schema_model.specs.declared.naming.Naming.{Naming}
use Rattle.dep_model.specs.Dependencies.{Dependency}
use Rattle.schema_model.specs.Schemas.{attribute_named}
use Rattle.lexer.specs.Modes as mode
use Rattle.lexer.specs.declared.token.TokenKind.{TokenKind}
use Rattle.lexer.specs.declared.token.TokenKind.TheVariants as token
use Rattle.lexer.specs.Tokens.{Mark, Lexed, lex}
use Rattle.schema_grammar.specs.declared.symbol.Sign.{Sign}
use Rattle.schema_grammar.specs.declared.symbol.Sign.TheVariants as sign
use Rattle.schema_grammar.specs.declared.format.Format.{Format}
use Rattle.schema_grammar.specs.declared.format.Format.TheVariants as format
use Rattle.schema_grammar.specs.Grammar.{dependency_of_sign}
use Rattle.schema_grammar.specs.Words.{is_word_token, is_reserved_token}

-- a line has exactly these tokens
abbrev pub HasTokens : Lexed → List Mark → Type 0
HasTokens l ms = l ≡ record { marks = ms; stop = None }

abbrev pub is_at : Option ℕ → Attributes
is_at None k = false
is_at (Some a) k = k == a

-- the attributes that words name
abbrev pub attributes_of_words : List (List ℕ) → List Mark → Attributes
attributes_of_words declared words k = list_any (λ m. is_at (attribute_named declared m.word) k) words

-- a word or a quoted name that names a declared attribute
pub record IsAttribute (f : Format) (declared : List (List ℕ)) (m : Mark) : Type 0 where
  pub word : is_word_token m.kind ≡ true
  pub not_reserved : is_reserved_token f m.kind m.word ≡ false
  pub index : ℕ
  pub known : attribute_named declared m.word ≡ Some index

-- a side is `()`, for no attribute
pub record IsEmptySide (ms : List Mark) (x : Attributes) : Type 0 where
  pub mark : Mark
  pub alone : ms ≡ mark ∷ []
  pub is_empty : mark.kind ≡ token.Empty
  pub nothing : x ≡ none

-- or it is one or more words, for the attributes that they name
pub record IsNamedSide (f : Format) (declared : List (List ℕ)) (ms : List Mark) (x : Attributes) : Type 0 where
  pub not_empty : 0 < length ms
  pub each : All (IsAttribute f declared) ms
  pub members : x ≡ attributes_of_words declared ms

abbrev pub IsSide : Format → List (List ℕ) → List Mark → Attributes → Type 0
IsSide f declared ms x = IsEmptySide ms x ⊎ IsNamedSide f declared ms x

-- `->` or `->>`
abbrev pub IsArrow : Sign → TokenKind → Type 0
IsArrow sign.Functional k = k ≡ token.Arrow
IsArrow sign.Multivalued k = k ≡ token.DoubleArrow

-- a side, an arrow, a side
pub record IsDependency (f : Format) (declared : List (List ℕ)) (ms : List Mark) (d : Dependency)
    : Type 0 where
  pub lhs : List Mark
  pub arrow : Mark
  pub rhs : List Mark
  pub x : Attributes
  pub y : Attributes
  pub sign : Sign
  pub whole : ms ≡ lhs ++ arrow ∷ rhs
  pub left_side : IsSide f declared lhs x
  pub is_arrow : IsArrow sign arrow.kind
  pub right_side : IsSide f declared rhs y
  pub states : d ≡ dependency_of_sign sign x y

-- a goal over declared names means a dependency
pub record MeansGoal (naming : Naming) (declared : List (List ℕ)) (text : List ℕ) (d : Dependency) : Type 0 where
  pub marks : List Mark
  pub tokens : HasTokens (lex (mode.goal naming) text) marks
  pub dependency : IsDependency format.Plain declared marks d
