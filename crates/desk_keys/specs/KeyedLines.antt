-- Where the lines of a scheme and its keys stand in a text: for the functions below `keys plan`. `Desk`
-- does not cite it.
use Rattle.std.specs.Prelude.{◌≡◌, ℕ, List, ◌++◌, length}
use Rattle.attr_sets.specs.Attributes.{Attributes}
use Rattle.attr_sets.specs.Sets.{attributes}
use Rattle.attr_sets.specs.declared.set.AttrSet.{AttrSet}
use Rattle.schema_model.specs.Schemas.{Schema}
use Rattle.schema_printer.specs.Spelling.{printed_names_of}
use Rattle.desk_keys.specs.Keys.{HasKeys, keyed_text}
use Rattle.desk_keys.specs.declared.scheme_keys.KeyedLines.{KeyedLines}

-- the lines of a scheme and all its keys were added to a text
abbrev pub AddsKeys : Schema → Attributes → List ℕ → List ℕ → Type 0
AddsKeys schema scheme text more =
    (keys : List AttrSet) × HasKeys schema (record { scheme = scheme; keys = keys })
    × (more ≡ text ++ keyed_text (printed_names_of schema) (record { scheme = scheme; keys = keys }))

-- the lines of a scheme and all its keys stand in a text from one position to another
pub record StandIn (schema : Schema) (text : List ℕ) (lines : KeyedLines) : Type 0 where
  pub earlier : List ℕ
  pub upto : List ℕ
  pub later : List ℕ
  pub added : AddsKeys schema (attributes lines.scheme) earlier upto
  pub whole : text ≡ upto ++ later
  pub starts : length earlier ≡ lines.start
  pub ends : length upto ≡ lines.end
