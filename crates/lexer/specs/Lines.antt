-- The lines of a text: for the grammars of schemas, plans and certificates, and their readers.
use Rattle.std.specs.Prelude.{◌≡◌, ◌<◌, ◌≤◌, ℕ, ◌-◌, ◌==◌, Bool, Option, None, Some, List, [], ◌∷◌, length, take, drop, nat_eq, if◌then◌else◌}
use Rattle.std.specs.List.{starts_with, ends_with, slice_split}
use denote.Ref.{Bor}

-- the text without the byte-order mark at its very start
abbrev pub without_mark : List ℕ → List ℕ
without_mark text = if starts_with nat_eq text (239 ∷ 187 ∷ 191 ∷ []) then drop 3 text else text

-- the line without the carriage return at its end
abbrev pub without_return : List ℕ → List ℕ
without_return line = if ends_with nat_eq line (13 ∷ []) then take (length line - 1) line else line

-- each but the last without the carriage return at its end
abbrev pub without_returns : List (List ℕ) → List (List ℕ)
without_returns [] = []
without_returns (line ∷ []) = line ∷ []
without_returns (line ∷ next ∷ lines) = without_return line ∷ without_returns (next ∷ lines)

abbrev pub is_line_feed : ℕ → Bool
is_line_feed b = b == 10

-- the lines of a text, without their ends: a line feed, or a carriage return and a line feed
unfoldable pub line_texts : List ℕ → List (List ℕ)
line_texts text = without_returns (slice_split is_line_feed text)

-- the line is the first one of the text, and the others are those of what stands after it
pub record CutsAt (text line after : List ℕ) : Type 0 where
  pub lines : line_texts text ≡ line ∷ line_texts after
  pub shorter : length after < length text
  pub within : length line ≤ length text

-- the line is the only one of the text
pub record IsLastLine (text line : List ℕ) : Type 0 where
  pub lines : line_texts text ≡ line ∷ []
  pub within : length line ≤ length text

abbrev pub CutsLine : List ℕ → List ℕ → Option (Bor (List ℕ)) → Type 0
CutsLine text line None = IsLastLine text line
CutsLine text line (Some after) = CutsAt text line after.now

-- the lines after a line end
abbrev pub lines_after : Option (Bor (List ℕ)) → List (List ℕ)
lines_after None = []
lines_after (Some after) = line_texts after.now
