-- The section of a page on the attributes of a schema.
use Rattle.std.specs.Prelude.{◌≡◌, ◌⊎◌, ℕ, ◌≤◌, Bool, if◌then◌else◌, List, [], ◌++◌, codes, fold, length}
use Rattle.std.specs.Prelude.{slice_index_or}
use Rattle.attr_sets.specs.Attributes.{Attributes, none, union}
use Rattle.attr_sets.specs.Sets.{attributes}
use Rattle.attr_sets.specs.declared.set.AttrSet.{AttrSet}
use Rattle.schema_model.specs.Schemas.{nullable_of, theory_of, types_of, universe_of, width_of, theory_in}
use Rattle.schema_model.specs.declared.column_type.ColumnType.TheVariants.{Text}
use Rattle.schema_model.specs.Schemas.{Schema}
use Rattle.design_picture.specs.Picture.{texts_below}
use Rattle.html_pages.specs.Escapes.{html_text}
use Rattle.key_listing.specs.Listing.{AreAllKeys}
use Rattle.key_listing.specs.Refusals.{IsTooWide}
use Rattle.key_listing.specs.declared.refusal.TheConstants.{MOST_KEYS}
use Rattle.schema_printer.specs.Printing.{type_word}
use Rattle.schema_printer.specs.Spelling.{printed_names_of}
use Rattle.desk_keys.specs.Keys.{HasManyKeys}
use Rattle.desk_reports.specs.Pieces.{Section, Shown}

-- the members of some set of a list
unfoldable pub members_of : List AttrSet → Attributes
members_of sets = fold (λ found set. union found (attributes set)) none sets

-- the keys of the universe are listed, and these are their members
pub record AreKeyMembers (s : Schema) (found : Attributes) : Type 0 where
  pub keys : List AttrSet
  pub all : AreAllKeys (width_of s) (theory_of s) (universe_of s) keys
  pub within_limit : length keys ≤ MOST_KEYS
  pub not_too_wide : IsTooWide (theory_in s) → ⊥
  pub members : found ≡ members_of keys

-- the members of the keys that are listed, none where the keys are refused
abbrev pub AreListedMembers : Schema → Attributes → Type 0
AreListedMembers s found = AreKeyMembers s found ⊎ ((IsTooWide (theory_in s) ⊎ HasManyKeys s) × (found ≡ none))

-- a cell of a table
abbrev pub cell_text : List ℕ → List ℕ
cell_text text = codes "<td>" ++ text ++ codes "</td>"

-- a word in a cell, where it holds
abbrev pub mark : Bool → List ℕ → List ℕ
mark holds word = if holds then word else []

-- the name and the type of an attribute, in cells
unfoldable pub name_cell : Schema → ℕ → List ℕ
name_cell s k = cell_text (html_text (slice_index_or (printed_names_of s) k []))

unfoldable pub type_cell : Schema → ℕ → List ℕ
type_cell s k = cell_text (html_text (type_word (slice_index_or (types_of s) k Text)))

-- whether a value may be missing, and whether an attribute is in a key, in cells
unfoldable pub missing_cell : Schema → ℕ → List ℕ
missing_cell s k = cell_text (mark (nullable_of s k) (codes "may be missing"))

unfoldable pub key_cell : Attributes → ℕ → List ℕ
key_cell in_key k = cell_text (mark (in_key k) (codes "in a key"))

-- the row of an attribute
unfoldable pub attribute_row : Schema → Attributes → ℕ → List ℕ
attribute_row s in_key k =
    codes "<tr>" ++ name_cell s k ++ type_cell s k ++ missing_cell s k ++ key_cell in_key k ++ codes "</tr>\n"

unfoldable pub attributes_text : Schema → Attributes → List ℕ
attributes_text s in_key =
    codes "<table>\n" ++ texts_below (width_of s) (attribute_row s in_key) ++ codes "</table>\n"

-- a row for each attribute
abbrev pub ShowsAttributes : Schema → Shown
ShowsAttributes s text = (in_key : Attributes) × AreListedMembers s in_key × (text ≡ attributes_text s in_key)

abbrev pub AttributesSection : Schema → Shown
AttributesSection s = Section (codes "Attributes") (ShowsAttributes s)
