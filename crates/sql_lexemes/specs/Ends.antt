-- Where comments, strings and quoted names end: for the pieces of a text.
use Rattle.std.specs.Prelude.{ℕ, ◌+◌, ◌-◌, ◌==◌, Bool, true, false, not, ◌&&◌, ◌||◌, Option, Some, None, List, [], ◌∷◌, length, drop, take, nat_eq, if◌then◌else◌}
use Rattle.std.specs.List.{starts_with, prefix_len}
use Rattle.sql_lexemes.specs.declared.scan.Within.{Within}
use Rattle.sql_lexemes.specs.declared.scan.Within.TheVariants.{Inside, Escaped, AfterQuote}
use Rattle.sql_lexemes.specs.Bytes.{begins_word, is_tag_byte}

-- `*/` closes a comment
abbrev pub closes_comment : ℕ → ℕ → Bool
closes_comment last b = (last == 42) && (b == 47)

-- `/*` opens a comment within another one, where comments nest
abbrev pub opens_comment : Bool → ℕ → ℕ → Bool
opens_comment nests last b = nests && ((last == 47) && (b == 42))

-- how many comments are open around this one's rest, after one byte more
abbrev pub around_after : Bool → ℕ → ℕ → ℕ → ℕ
around_after nests around last b =
    if closes_comment last b then around - 1
    else if opens_comment nests last b then around + 1
    else around

-- the byte that may be the first of the next two: a byte belongs to one mark alone
abbrev pub last_after : Bool → ℕ → ℕ → ℕ
last_after nests last b = if closes_comment last b || opens_comment nests last b then 0 else b

-- how many bytes there are up to the `*/` that closes a comment and with it, where so many comments are open around
-- what follows, this was the last byte, and so many are passed
unfoldable pub comment_end : Bool → ℕ → ℕ → ℕ → List ℕ → Option ℕ
comment_end nests around last passed [] = None
comment_end nests around last passed (b ∷ bs) =
    if closes_comment last b && (around == 0) then Some (passed + 1)
    else comment_end nests (around_after nests around last b) (last_after nests last b) (passed + 1) bs

-- a byte shows that the quote before it closes: it is no second one
abbrev pub closes : ℕ → Within → ℕ → Bool
closes quote AfterQuote b = not (b == quote)
closes quote state b = false

-- where a quoted text stands after one byte more: a backslash takes the next byte along where it may
abbrev pub within_after : ℕ → Bool → Within → ℕ → Within
within_after quote escapes Escaped b = Inside
within_after quote escapes AfterQuote b = Inside
within_after quote escapes Inside b =
    if b == quote then AfterQuote else if escapes && (b == 92) then Escaped else Inside

abbrev pub closed_at_end : Within → ℕ → Option ℕ
closed_at_end AfterQuote passed = Some passed
closed_at_end state passed = None

-- how many bytes there are up to the quote that closes and with it, where so many are passed: a doubled quote
-- closes nothing
unfoldable pub quote_end : ℕ → Bool → Within → ℕ → List ℕ → Option ℕ
quote_end quote escapes state passed [] = closed_at_end state passed
quote_end quote escapes state passed (b ∷ bs) =
    if closes quote state b then Some passed
    else quote_end quote escapes (within_after quote escapes state b) (passed + 1) bs

-- how many bytes there are up to the first dollar that these bytes follow, and with them, where so many are
-- passed
unfoldable pub tag_end : List ℕ → ℕ → List ℕ → Option ℕ
tag_end tag passed [] = None
tag_end tag passed (b ∷ bs) =
    if (b == 36) && starts_with nat_eq bs tag then Some ((passed + 1) + length tag)
    else tag_end tag (passed + 1) bs

-- nothing, or bytes that begin as a word does
abbrev pub may_be_tag : List ℕ → Bool
may_be_tag [] = true
may_be_tag (b ∷ bs) = begins_word b

-- how many bytes stand after the dollar in the mark that begins a text between dollars: nothing or a word
-- without a dollar, and a dollar
abbrev pub tag_length : List ℕ → Option ℕ
tag_length rest =
    if starts_with nat_eq (drop (prefix_len is_tag_byte rest) rest) (36 ∷ [])
    && may_be_tag (take (prefix_len is_tag_byte rest) rest)
    then Some (prefix_len is_tag_byte rest + 1) else None
