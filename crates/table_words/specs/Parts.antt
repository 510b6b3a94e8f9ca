-- The parts of the name of a table, as a word of the command line has them: for the names that scripts hold
-- (`sql_scripts`) and those that a definition is sought by (`sql_definitions`).
use Rattle.std.specs.Prelude.{ℕ, zero, suc, ◌+◌, ◌==◌, Bool, true, false, Option, Some, None, option_map, List, [], ◌∷◌, take, drop, nat_eq, if◌then◌else◌}
use Rattle.std.specs.List.{starts_with, position_or_len}
use Rattle.lexer.specs.Quotes.{is_name, closing_quote, undoubled}
use Rattle.lexer.specs.declared.word.WordBytes.{WordBytes}
use Rattle.lexer.specs.declared.word.WordBytes.TheVariants as bytes
use Rattle.table_words.specs.declared.parts.TheConstants.{MOST_PARTS}
use Rattle.table_words.specs.declared.parts.FrontPart.{FrontPart}
use Rattle.table_words.specs.declared.parts.TableParts.{TableParts}
use Rattle.table_words.specs.declared.parts.TableParts.TheVariants as parts

-- what a part names, and whether it stands between double quotes
pub record Part : Type 0 where
  pub name : List ℕ
  pub quoted : Bool

-- the part at the front of a text, and what stands after the dot behind it, if one does
pub record Front : Type 0 where
  pub part : Part
  pub rest : Option (List ℕ)

abbrev pub is_dot : ℕ → Bool
is_dot b = b == 46

-- behind a part the text ends, or has a dot: what stands behind the dot, if there is one
abbrev pub after_dot : List ℕ → Option (Option (List ℕ))
after_dot [] = Some None
after_dot (b ∷ text) = if is_dot b then Some (Some text) else None

-- a part, where such a text stands behind it
abbrev pub before_dot : Part → List ℕ → Option Front
before_dot part text = option_map (λ rest. record { part = part; rest = rest }) (after_dot text)

-- behind a double quote: a name, where the quote that closes stands after so many bytes
abbrev pub quoted_front : List ℕ → Option ℕ → Option Front
quoted_front text None = None
quoted_front text (Some n) =
    if is_name (undoubled (take n text))
    then before_dot (record { name = undoubled (take n text); quoted = true }) (drop (n + 1) text)
    else None

-- so many bytes without a dot, but not none
abbrev pub bare_front : List ℕ → ℕ → Option Front
bare_front text n = if n == 0 then None else before_dot (record { name = take n text; quoted = false }) (drop n text)

-- a part that begins with a double quote is a name between two of them, each in it doubled; any other has no dot
abbrev pub front : List ℕ → Option Front
front text = if starts_with nat_eq text (34 ∷ []) then quoted_front (drop 1 text) (closing_quote (drop 1 text))
    else bare_front text (position_or_len is_dot text)

-- a part, and those that a text behind its dot has
abbrev pub with_part : Part → (List ℕ → Option (List Part)) → Option (List ℕ) → Option (List Part)
with_part part parts None = Some (part ∷ [])
with_part part parts (Some text) = option_map (λ others. part ∷ others) (parts text)

abbrev pub led_by_front : (List ℕ → Option (List Part)) → Option Front → Option (List Part)
led_by_front parts None = None
led_by_front parts (Some f) = with_part f.part parts f.rest

-- at most so many parts with a dot between two
abbrev pub parts_within : ℕ → List ℕ → Option (List Part)
parts_within zero text = None
parts_within (suc most) text = led_by_front (parts_within most) (front text)

-- the parts of a table's name: from one to `MOST_PARTS`
unfoldable pub table_parts : List ℕ → Option (List Part)
table_parts bytes = parts_within MOST_PARTS bytes

-- ---- as code has them
abbrev pub part_of : WordBytes → Part
part_of (bytes.Text text) = record { name = text.now; quoted = false }
part_of (bytes.Name name) = record { name = name; quoted = true }

abbrev pub front_of : FrontPart → Front
front_of front = record { part = part_of front.part; rest = option_map (λ text. text.now) front.rest }

abbrev pub parts_of : TableParts → List Part
parts_of (parts.One last) = part_of last ∷ []
parts_of (parts.Two first last) = part_of first ∷ part_of last ∷ []
parts_of (parts.Three first second last) = part_of first ∷ part_of second ∷ part_of last ∷ []
