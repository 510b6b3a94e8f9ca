-- What the lines of certificates mean, by their grammar, which is that of derivations too: for what a
-- certificate spells (`Spelling`).
use Rattle.std.specs.Prelude.{◌≡◌, ℕ, Bool, false, ◌&&◌, not, if◌then◌else◌, List, [], ◌∷◌, ◌++◌, filter, Option, codes}
use Rattle.std.specs.List.{AllZip}
use Rattle.attr_sets.specs.Attributes.{Attributes}
use Rattle.derivation.specs.Trees.{Step, augmentation, complementation, maugmentation, replication, Pair}
use Rattle.derivation.specs.Trees.{transitivity, mtransitivity, coalescence}
use Rattle.schema_model.specs.declared.naming.Naming.{Naming}
use Rattle.lexer.specs.Modes as mode
use Rattle.lexer.specs.declared.token.LexError.{LexError}
use Rattle.lexer.specs.declared.token.TokenKind.TheVariants as token
use Rattle.lexer.specs.Lines.{line_texts, without_mark}
use Rattle.lexer.specs.Tokens.{Mark, Lexed, lex}
use Rattle.schema_grammar.specs.declared.format.Format.TheVariants as format
use Rattle.schema_grammar.specs.Meanings.{HasTokens, IsSide, IsDependency}
use Rattle.proof_grammar.specs.Lines.{NumberedLine, Body, by_given, by_reflexivity, by_mreflexivity, by_step, by_pair}
use Rattle.proof_grammar.specs.Lines.{Line}
use Rattle.proof_grammar.specs.Texts.{is_yes, is_blank, is_blank_from}

-- ---- the lines that count
-- the one word `yes`
abbrev pub is_yes_from : List Mark → Option LexError → Bool
is_yes_from [] stop = false
is_yes_from (m ∷ ms) stop = is_yes m.kind m.word && is_blank_from ms stop

-- the same of a whole line
abbrev pub is_yes_alone : Lexed → Bool
is_yes_alone l = is_yes_from l.marks l.stop

-- the lines without the first, where that is `yes`
abbrev pub without_yes : Naming → List (List ℕ) → List (List ℕ)
without_yes naming [] = []
without_yes naming (line ∷ lines) =
    if is_yes_alone (lex (mode.numbered naming) line) then lines else line ∷ lines

-- the lines that are not blank, but for a first `yes`
abbrev pub certificate_lines_of : Naming → List (List ℕ) → List (List ℕ)
certificate_lines_of naming lines =
    without_yes naming (filter (λ line. not (is_blank (lex (mode.numbered naming) line))) lines)

-- those of a text
abbrev pub certificate_lines : Naming → List ℕ → List (List ℕ)
certificate_lines naming text = certificate_lines_of naming (line_texts (without_mark text))

-- ---- the grammar of a line
-- `:`
abbrev pub IsColon : Mark → Type 0
IsColon m = m.kind ≡ token.Colon

-- a token is this number
abbrev pub IsNumber : ℕ → Mark → Type 0
IsNumber n m = m.kind ≡ token.Number n

-- a word of the grammar, in lower case
abbrev pub IsKeyword : List ℕ → Mark → Type 0
IsKeyword word m = (m.kind ≡ token.Identifier) × (m.word ≡ word)

-- number, `:`, a dependency, `:`, the rule, whose tokens are a body as `IsBody` says
pub record IsLineBy (B : Type 0) (IsBody : List (List ℕ) → List Mark → B → Type 0) (names : List (List ℕ))
    (ms : List Mark) (l : NumberedLine B) : Type 0 where
  pub number : Mark
  pub first : Mark
  pub stated : List Mark
  pub second : Mark
  pub rule : List Mark
  pub whole : ms ≡ number ∷ first ∷ stated ++ second ∷ rule
  pub is_number : IsNumber l.number number
  pub first_colon : IsColon first
  pub dependency : IsDependency format.Plain names stated l.stated
  pub second_colon : IsColon second
  pub is_rule : IsBody names rule l.body

-- a text has the tokens of a line
pub record MeansLineBy (B : Type 0) (IsBody : List (List ℕ) → List Mark → B → Type 0) (naming : Naming)
    (names : List (List ℕ)) (text : List ℕ) (l : NumberedLine B) : Type 0 where
  pub marks : List Mark
  pub tokens : HasTokens (lex (mode.numbered naming) text) marks
  pub is_line : IsLineBy B IsBody names marks l

-- ---- the rules of certificates
-- the names of the rules over one premise
abbrev pub step_name : Step → List ℕ
step_name (augmentation z) = codes "augmentation"
step_name complementation = codes "complementation"
step_name (maugmentation w z) = codes "maugmentation"
step_name replication = codes "replication"

-- and of those over two
abbrev pub pair_name : Pair → List ℕ
pair_name transitivity = codes "transitivity"
pair_name mtransitivity = codes "mtransitivity"
pair_name coalescence = codes "coalescence"

-- `with` and a side
pub record IsAugmented (names : List (List ℕ)) (ms : List Mark) (z : Attributes) : Type 0 where
  pub keyword : Mark
  pub sides : List Mark
  pub whole : ms ≡ keyword ∷ sides
  pub says : IsKeyword (codes "with") keyword
  pub side : IsSide format.Plain names sides z

-- `with`, a wide side, `:` and a narrow one
pub record IsWidened (names : List (List ℕ)) (ms : List Mark) (w z : Attributes) : Type 0 where
  pub keyword : Mark
  pub wide : List Mark
  pub colon : Mark
  pub narrow : List Mark
  pub whole : ms ≡ keyword ∷ wide ++ colon ∷ narrow
  pub says : IsKeyword (codes "with") keyword
  pub wide_side : IsSide format.Plain names wide w
  pub is_colon : IsColon colon
  pub narrow_side : IsSide format.Plain names narrow z

-- the sets of a rule with one premise
abbrev pub HasSets : List (List ℕ) → List Mark → Step → Type 0
HasSets names ms (augmentation z) = IsAugmented names ms z
HasSets names ms complementation = ms ≡ []
HasSets names ms (maugmentation w z) = IsWidened names ms w z
HasSets names ms replication = ms ≡ []

-- `given` and the number of a dependency
pub record IsGivenLine (ms : List Mark) (k : ℕ) : Type 0 where
  pub name : Mark
  pub numeral : Mark
  pub whole : ms ≡ name ∷ numeral ∷ []
  pub says : IsKeyword (codes "given") name
  pub number : IsNumber k numeral

-- the name alone
pub record IsAlone (ms : List Mark) (word : List ℕ) : Type 0 where
  pub name : Mark
  pub whole : ms ≡ name ∷ []
  pub says : IsKeyword word name

-- the name, the line of the premise, and the sets
pub record IsStepLine (names : List (List ℕ)) (ms : List Mark) (rule : Step) (p : ℕ) : Type 0 where
  pub name : Mark
  pub premise : Mark
  pub sets : List Mark
  pub whole : ms ≡ name ∷ premise ∷ sets
  pub says : IsKeyword (step_name rule) name
  pub number : IsNumber p premise
  pub has_sets : HasSets names sets rule

-- the name, and the lines of both premises
pub record IsPairLine (ms : List Mark) (rule : Pair) (p q : ℕ) : Type 0 where
  pub name : Mark
  pub first : Mark
  pub second : Mark
  pub whole : ms ≡ name ∷ first ∷ second ∷ []
  pub says : IsKeyword (pair_name rule) name
  pub first_number : IsNumber p first
  pub second_number : IsNumber q second

-- the rule of a line
abbrev pub IsRule : List (List ℕ) → List Mark → Body → Type 0
IsRule names ms (by_given k) = IsGivenLine ms k
IsRule names ms by_reflexivity = IsAlone ms (codes "reflexivity")
IsRule names ms by_mreflexivity = IsAlone ms (codes "mreflexivity")
IsRule names ms (by_step rule p) = IsStepLine names ms rule p
IsRule names ms (by_pair rule p q) = IsPairLine ms rule p q

-- a line of a certificate
abbrev pub IsCertificateLine : List (List ℕ) → List Mark → Line → Type 0
IsCertificateLine names ms l = IsLineBy Body IsRule names ms l

-- a text means it
abbrev pub MeansLine : Naming → List (List ℕ) → List ℕ → Line → Type 0
MeansLine naming names text l = MeansLineBy Body IsRule naming names text l

-- each text means its line
abbrev pub MeanLines : Naming → List (List ℕ) → List (List ℕ) → List Line → Type 0
MeanLines naming names = AllZip (MeansLine naming names)
