-- Names between double quotes: for the tokens (`Pieces`) and the law of quoted names.
use Rattle.std.specs.Prelude.{◌≡◌, ◌≤◌, ℕ, ◌+◌, ◌-◌, true, ◌==◌, Bool, ◌&&◌, not, nat_lt, nat_le, Option, Some, None, List, [], ◌∷◌, length, take, drop, if◌then◌else◌}
use Rattle.std.specs.List.{list_any}
use Rattle.std.specs.Str.{is_utf8}
use Rattle.schema_model.specs.declared.name.TheConstants.{MOST_NAME_BYTES}
use Rattle.schema_model.specs.Names.{is_control, begins_with_mark}

-- whether bytes are a name, `IsName` as a test
abbrev pub is_name : List ℕ → Bool
is_name bytes = (((nat_lt 0 (length bytes) && nat_le (length bytes) MOST_NAME_BYTES)
    && not (list_any is_control bytes)) && not (begins_with_mark bytes)) && is_utf8 bytes

-- so many bytes more, where there is a number
abbrev pub further : ℕ → Option ℕ → Option ℕ
further n None = None
further n (Some k) = Some (n + k)

-- how many bytes stand before the quote that closes, the first one that is not doubled
unfoldable pub closing_quote : List ℕ → Option ℕ
closing_quote [] = None
closing_quote (b ∷ []) = if b == 34 then Some 0 else None
closing_quote (b ∷ c ∷ bs) =
    if b == 34 then (if c == 34 then further 2 (closing_quote bs) else Some 0)
    else further 1 (closing_quote (c ∷ bs))

-- each doubled quote once
unfoldable pub undoubled : List ℕ → List ℕ
undoubled [] = []
undoubled (b ∷ []) = b ∷ []
undoubled (b ∷ c ∷ bs) = if (b == 34) && (c == 34) then 34 ∷ undoubled bs else b ∷ undoubled (c ∷ bs)

-- what stands between the first byte and the last one
abbrev pub between : List ℕ → List ℕ
between text = take (length text - 2) (drop 1 text)

-- a text of two quotes, or bytes like them, and of a name between them, each quote in it doubled
pub record IsQuoted (text : List ℕ) : Type 0 where
  pub two_quotes : 2 ≤ length text
  pub a_name : is_name (undoubled (between text)) ≡ true
