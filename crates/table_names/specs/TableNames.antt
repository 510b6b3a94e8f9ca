-- The names of the tables of a decomposition: for all that makes or describes such tables.
use Rattle.std.specs.Prelude.{ℕ, ◌+◌, Bool, false, ◌&&◌, ◌||◌, nat_lt, List, ◌++◌, length, take, drop, codes, slice_index_or, Option, Some, None, unwrap_or}
use Rattle.std.specs.Char.{is_ascii_digit}
use Rattle.std.specs.Fmt.{decimal}
use Rattle.std.specs.List.{list_all}
use Rattle.schema_model.specs.Names.{same_name}

-- the name of the table of a number: `t` and the number, in decimal
abbrev pub table_name : ℕ → List ℕ
table_name number = codes "t" ++ decimal number

-- for tables one after the other the names that are given to some of them; tables beyond the list have none
abbrev pub GivenNames : Type 0
GivenNames = List (Option (List ℕ))

-- the name of the table at a position, from 0, where some tables are given names: the one that is given
-- to it, or else that of its number
abbrev pub name_of_table : GivenNames → ℕ → List ℕ
name_of_table names k = unwrap_or (slice_index_or names k None) (table_name (k + 1))

-- `t` and a number, in any case
abbrev pub is_numbered : List ℕ → Bool
is_numbered bytes =
    nat_lt 1 (length bytes) && same_name (take 1 bytes) (codes "t") && list_all is_ascii_digit (drop 1 bytes)

-- a name that a script gives to a table or a view
abbrev pub is_taken : List ℕ → Bool
is_taken bytes = same_name bytes (codes "joined") || is_numbered bytes

-- a name is given to a table, the case of letters aside
abbrev pub is_given : List ℕ → Option (List ℕ) → Bool
is_given bytes None = false
is_given bytes (Some name) = same_name bytes name
