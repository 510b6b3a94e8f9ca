-- Where the boxes of the tables of a design stand in a picture: for `place_tables` and the text of a picture
-- (`Picture`). Lengths are in pixels.
use Rattle.std.specs.Prelude.{ℕ, zero, suc, ◌+◌, ◌*◌, ◌==◌, nat_lt, max, if◌then◌else◌, List, [], ◌∷◌, ◌++◌, fold, sum_by, slice_get, slice_index_or, unwrap_or, option_map}
use Rattle.attr_sets.specs.Attributes.{Attributes, count_below}
use Rattle.attr_sets.specs.Sets.{attributes}
use Rattle.attr_sets.specs.declared.set.TheConstants.{MOST_ATTRIBUTES}
use Rattle.schema_model.specs.Schemas.{Schema}
use Rattle.dep_model.specs.Projections.{members_below}
use Rattle.schema_model.specs.Schemas.{names_of, width_of}
use Rattle.ddl_text.specs.declared.table.TableDesign.{TableDesign}
use Rattle.design_picture.specs.declared.sizes.TableSize.{TableSize}
use Rattle.design_picture.specs.declared.places.TablePlace.{TablePlace}

-- ---- widths and heights
-- the columns of the character that a byte of UTF-8 begins: one below U+0300, two from there on; a byte that
-- goes on with a character has none
abbrev pub byte_columns : ℕ → ℕ
byte_columns b = if nat_lt b 128 then 1 else if nat_lt b 192 then 0 else if nat_lt b 204 then 1 else 2

-- the columns of a name
unfoldable pub name_columns : List ℕ → ℕ
name_columns name = sum_by byte_columns name

-- the columns of the name of an attribute
unfoldable pub attribute_columns : Schema → ℕ → ℕ
attribute_columns s k = name_columns (slice_index_or (names_of s) k [])

-- the most columns of the name of a table and of its attributes
unfoldable pub most_columns : Schema → TableDesign → ℕ
most_columns s table =
    fold (λ most k. max most (attribute_columns s k)) (name_columns table.name)
    (members_below (width_of s) (attributes table.scheme))

-- the box of a table: a row for its name and one for each attribute
unfoldable pub box_width : Schema → TableDesign → ℕ
box_width s table = 16 + 9 * most_columns s table

unfoldable pub box_height : TableDesign → ℕ
box_height table = 24 * (count_below (attributes table.scheme) MOST_ATTRIBUTES + 1)

-- ---- depths
-- the depth of the table at a position
unfoldable pub depth_at : List TableSize → ℕ → ℕ
depth_at sizes j = unwrap_or (option_map (λ size. size.depth) (slice_get sizes j)) 0

-- 0 without a reference, else 1 more than the greatest depth of the tables that are referred to
unfoldable pub depth_of : List TableSize → List ℕ → ℕ
depth_of sizes refs = fold (λ deepest j. max deepest (depth_at sizes j + 1)) 0 refs

-- the size of a table, after those before it
abbrev pub size_of : Schema → List TableSize → TableDesign → TableSize
size_of s before table =
    record { depth = depth_of before table.refs.items; width = box_width s table; height = box_height table }

-- the sizes of tables, in order
abbrev pub sizes_of : Schema → List TableDesign → List TableSize
sizes_of s tables = fold (λ before table. before ++ size_of s before table ∷ []) [] tables

-- ---- places
-- the width of the widest box of a depth
unfoldable pub widest_at : List TableSize → ℕ → ℕ
widest_at sizes depth =
    fold (λ most size. if size.depth == depth then max most size.width else most) 0 sizes

-- the left edge of the tables of a depth: each 60 right of the widest box of the depth before
unfoldable pub left_of : List TableSize → ℕ → ℕ
left_of sizes zero = 10
left_of sizes (suc depth) = left_of sizes depth + widest_at sizes depth + 60

-- the top of the next table of a depth: 20 below the boxes of this depth before it
unfoldable pub top_of : List TablePlace → ℕ → ℕ
top_of before depth =
    fold (λ top place. if place.depth == depth then top + (place.height + 20) else top) 10 before

-- the place of a table, after those before it
abbrev pub place_of : List TableSize → List TablePlace → TableSize → TablePlace
place_of sizes before size = record {
  depth = size.depth;
  left = left_of sizes size.depth;
  top = top_of before size.depth;
  width = size.width;
  height = size.height;
}

-- the places of tables of these sizes, in order
abbrev pub places_from : List TableSize → List TableSize → List TablePlace
places_from all sizes = fold (λ before size. before ++ place_of all before size ∷ []) [] sizes

-- the places of tables, in order
abbrev pub places_of : Schema → List TableDesign → List TablePlace
places_of s tables = places_from (sizes_of s tables) (sizes_of s tables)

-- the place of the table at a position
unfoldable pub place_at : List TablePlace → ℕ → TablePlace
place_at places j = unwrap_or (slice_get places j) (record { depth = 0; left = 0; top = 0; width = 0; height = 0 })

-- ---- the whole
-- the width and the height of a picture: 10 beyond the boxes
unfoldable pub whole_width : List TablePlace → ℕ
whole_width places = fold (λ most place. max most (place.left + place.width)) 0 places + 10

unfoldable pub whole_height : List TablePlace → ℕ
whole_height places = fold (λ most place. max most (place.top + place.height)) 0 places + 10
