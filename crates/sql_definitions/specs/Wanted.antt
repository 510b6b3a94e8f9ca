-- The table that a word wants: for `wanted_table`, and for the statements that name a table.
use Rattle.std.specs.Prelude.{ℕ, Option, Some, None, option_and_then, List, [], ◌∷◌}
use Rattle.table_words.specs.Parts.{Part, table_parts}

-- the last part of a name, the one before it and the one before that, where they are wanted
pub record TableName : Type 0 where
  pub last : List ℕ
  pub middle : Option (List ℕ)
  pub outer : Option (List ℕ)

-- what one to three parts name
abbrev pub name_by_parts : List Part → Option TableName
name_by_parts (a ∷ []) = Some (record { last = a.name; middle = None; outer = None })
name_by_parts (a ∷ b ∷ []) = Some (record { last = b.name; middle = Some a.name; outer = None })
name_by_parts (a ∷ b ∷ c ∷ []) = Some (record { last = c.name; middle = Some b.name; outer = Some a.name })
name_by_parts parts = None

-- the table that a word wants: what its parts name
abbrev pub wanted_table : List ℕ → Option TableName
wanted_table bytes = option_and_then name_by_parts (table_parts bytes)
