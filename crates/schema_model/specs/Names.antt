-- Which bytes are names, and which names are the same: for schemas, their grammar and the names of
-- columns and tables.
use Rattle.std.specs.Prelude.{ℕ, ◌<◌, ◌≤◌, Bool, ◌&&◌, ◌||◌, ◌==◌, nat_lt, nat_le, nat_eq, if◌then◌else◌, List, [], ◌∷◌, ◌++◌, length, slice_index, codes, IsUtf8, IsFalse}
use Rattle.std.specs.List.{list_all, list_any, flat_map, starts_with}
use Rattle.std.specs.Char.{is_ascii_alphabetic, is_ascii_alphanumeric}
use Rattle.std.specs.Str.{str_eq_ignore_ascii_case}
use Rattle.schema_model.specs.declared.name.TheConstants.{MOST_NAME_BYTES, MOST_BARE_NAME_BYTES}
use Rattle.schema_model.specs.declared.type_name.TheConstants.{MOST_TYPE_BYTES}

-- a control character of ASCII
abbrev pub is_control : ℕ → Bool
is_control b = nat_lt b 32 || (b == 127)

-- U+FEFF stands in front, the byte-order mark that readers take from the front of a text
abbrev pub begins_with_mark : List ℕ → Bool
begins_with_mark bytes = starts_with nat_eq bytes (239 ∷ 187 ∷ 191 ∷ [])

-- 1 to `MOST_NAME_BYTES` bytes of UTF-8, of which none is a control character, with no byte-order mark in front
pub record IsName (bytes : List ℕ) : Type 0 where
  pub some_bytes : 0 < length bytes
  pub within_limit : length bytes ≤ MOST_NAME_BYTES
  pub utf8 : IsUtf8 bytes
  pub no_control : IsFalse (list_any is_control bytes)
  pub no_mark : IsFalse (begins_with_mark bytes)

-- a letter, a digit or `_`
abbrev pub is_name_byte : ℕ → Bool
is_name_byte b = is_ascii_alphanumeric b || (b == 95)

-- a letter, followed by letters, digits and `_`
abbrev pub is_word : List ℕ → Bool
is_word bytes = nat_lt 0 (length bytes) && is_ascii_alphabetic (slice_index bytes 0)
    && list_all is_name_byte bytes

-- a word of at most `MOST_BARE_NAME_BYTES` bytes
abbrev pub is_bare_name : List ℕ → Bool
is_bare_name bytes = is_word bytes && nat_le (length bytes) MOST_BARE_NAME_BYTES

-- the bytes are equal where ASCII letters of either case count as one
abbrev pub same_name : List ℕ → List ℕ → Bool
same_name a b = str_eq_ignore_ascii_case a b

-- the name of a type of column: `integer` or `text`, in any case
abbrev pub is_type_name : List ℕ → Bool
is_type_name bytes = same_name bytes (codes "integer") || same_name bytes (codes "text")

-- a letter, a digit, a blank or one of `_ ( ) , . [ ]`
abbrev pub is_type_byte : ℕ → Bool
is_type_byte b = is_ascii_alphanumeric b || list_any (λ other. b == other) (codes " _(),.[]")

-- the text of a type of SQL: 1 to `MOST_TYPE_BYTES` such bytes
abbrev pub is_type_text : List ℕ → Bool
is_type_text bytes = nat_lt 0 (length bytes) && nat_le (length bytes) MOST_TYPE_BYTES
    && list_all is_type_byte bytes

-- bytes with each double quote doubled
unfoldable pub quotes_doubled : List ℕ → List ℕ
quotes_doubled bytes = flat_map (λ b. if b == 34 then 34 ∷ 34 ∷ [] else b ∷ []) bytes

-- bytes between double quotes, each double quote in them doubled
abbrev pub quoted : List ℕ → List ℕ
quoted bytes = 34 ∷ (quotes_doubled bytes ++ 34 ∷ [])
