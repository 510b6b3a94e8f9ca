-- The columns of the user's table in the statements of `sql migrate`: for the script (`Script`).
use Rattle.std.specs.Prelude.{ℕ, Bool, if◌then◌else◌, List, map, codes}
use Rattle.attr_sets.specs.Attributes.{Attributes}
use Rattle.schema_model.specs.Schemas.{Schema}
use Rattle.schema_model.specs.Columns.{is_plain_type}
use Rattle.dep_model.specs.Projections.{members_below}
use Rattle.schema_model.specs.Schemas.{width_of}
use Rattle.schema_printer.specs.Printing.{is_integer}
use Rattle.sql_syntax.specs.Syntax.{column, as_integer, Item, own, unnamed}
use Rattle.sql_migrate.specs.declared.moving.Move.{Move}
use Rattle.sql_migrate.specs.declared.moving.Move.TheVariants.{Entering, Returning}
use Rattle.sql_check.specs.Columns.{name_at, type_at, named_column, by_text, compared}

-- ---- the copy
-- a column of the user's table: a text or an integer by its text, any other value as it is
abbrev pub copied_column : Bool → List ℕ → Item
copied_column plain name = if plain then compared (codes "r") name else own (named_column (codes "r") name)

abbrev pub copied_at : Schema → ℕ → Item
copied_at s k = copied_column (is_plain_type (type_at s k)) (name_at s k)

abbrev pub copied_on : Schema → Attributes → List Item
copied_on s x = map (copied_at s) (members_below (width_of s) x)

-- ---- from the copy, and back
-- a column of this name: into a table of the design, an integer from its text; and back, by its text
abbrev pub moved : Move → List ℕ → Bool → Item
moved Entering name of_integer =
    if of_integer then unnamed (as_integer (column (named_column (codes "o") name)))
    else own (named_column (codes "o") name)
moved Returning name of_integer = unnamed (by_text (named_column (codes "j") name))

abbrev pub moved_at : Schema → Move → ℕ → Item
moved_at s move k = moved move (name_at s k) (is_integer (type_at s k))

-- the columns of a set's attributes, ascending
abbrev pub moved_on : Schema → Move → Attributes → List Item
moved_on s move x = map (moved_at s move) (members_below (width_of s) x)
