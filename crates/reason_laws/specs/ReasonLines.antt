-- A text without its reasons: for the laws of explanations.
use Rattle.std.specs.Prelude.{◌≡◌, ◌==◌, ◌&&◌, ℕ, Bool, false, not, List, [], ◌∷◌, filter, All}
use Rattle.std.specs.List.{list_any}
use Rattle.schema_printer.specs.Printing.{lines_text}
use Rattle.desk_responses.specs.ResponseValues.{Allowed, ResponseValue}
use Rattle.desk_responses.specs.declared.status.Status.TheVariants.{Yes}

abbrev pub has_line_feed : List ℕ → Bool
has_line_feed line = list_any (λ b. b == 10) line

-- whether a line begins with `# `
abbrev pub is_reason : List ℕ → Bool
is_reason [] = false
is_reason (b ∷ []) = false
is_reason (b ∷ c ∷ rest) = (b == 35) && (c == 32)

-- the lines of a text, and another text of those of them that do not begin with `# `
pub record IsWithoutReasons (text plain : List ℕ) : Type 0 where
  pub lines : List (List ℕ)
  pub each : All (λ line. has_line_feed line ≡ false) lines
  pub whole : text ≡ lines_text lines
  pub rest : plain ≡ lines_text (filter (λ line. not (is_reason line)) lines)

-- an answer is that of a command: where it is yes, without the lines that begin with `# `, and else as it is
pub record LeavesAnswer (answers : Allowed) (response : ResponseValue) : Type 0 where
  pub plain : ResponseValue
  pub answered : answers plain
  pub status : plain.status ≡ response.status
  pub explained : response.status ≡ Yes → IsWithoutReasons response.text plain.text
  pub else : (response.status ≡ Yes → ⊥) → response ≡ plain
