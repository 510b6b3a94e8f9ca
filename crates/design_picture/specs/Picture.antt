-- A design as an SVG text: for `draw_design` and the pictures of a page.
use Rattle.std.specs.Prelude.{ℕ, zero, suc, ◌+◌, ◌-◌, ◌*◌, Bool, false, if◌then◌else◌, List, [], ◌∷◌, ◌++◌, codes, decimal, slice_get, slice_index_or, unwrap_or, option_map, length}
use Rattle.std.specs.List.{flat_map, list_any}
use Rattle.attr_sets.specs.Attributes.{Attributes, below, count_below, intersection}
use Rattle.attr_sets.specs.Sets.{attributes}
use Rattle.attr_sets.specs.declared.set.TheConstants.{MOST_ATTRIBUTES}
use Rattle.schema_model.specs.Schemas.{Schema}
use Rattle.dep_model.specs.Projections.{members_below}
use Rattle.schema_model.specs.Schemas.{names_of, width_of}
use Rattle.ddl_text.specs.declared.table.TableDesign.{TableDesign}
use Rattle.html_pages.specs.Escapes.{html_text}
use Rattle.design_picture.specs.Places.{place_at, places_of, whole_height, whole_width}
use Rattle.design_picture.specs.declared.places.TablePlace.{TablePlace}

-- what the positions below a number give, one after the other
unfoldable pub texts_below : ℕ → (ℕ → List ℕ) → List ℕ
texts_below zero text = []
texts_below (suc k) text = texts_below k text ++ text k

-- ---- rows of a box
-- the row of an attribute in the box of a scheme; the name of the table has row 0
unfoldable pub row_of : Attributes → ℕ → ℕ
row_of scheme k = count_below (intersection scheme (below k)) MOST_ATTRIBUTES + 1

-- the first attribute of a set
unfoldable pub first_of : Attributes → ℕ
first_of x = slice_index_or (members_below MOST_ATTRIBUTES x) 0 0

-- ---- lines
-- two numbers, each with what stands before it
unfoldable pub point_text : List ℕ → ℕ → List ℕ → ℕ → List ℕ
point_text before x between y = before ++ decimal x ++ between ++ decimal y

-- the curve of a line
unfoldable pub curve_text : ℕ → ℕ → ℕ → ℕ → List ℕ
curve_text x1 y1 x2 y2 =
    point_text (codes "<path d=\"M ") x1 (codes " ") y1 ++ point_text (codes " C ") (x1 - 30) (codes " ") y1
    ++ point_text (codes " ") (x2 + 30) (codes " ") y2 ++ point_text (codes " ") x2 (codes " ") y2
    ++ codes "\"/>\n"

-- the dot at its end
unfoldable pub dot_text : ℕ → ℕ → List ℕ
dot_text x y = point_text (codes "<circle cx=\"") x (codes "\" cy=\"") y ++ codes "\" r=\"3\"/>\n"

-- a line from the left edge of a box, at a height, to the right edge of another box, at a height, where it
-- ends in a dot
unfoldable pub line_text : ℕ → ℕ → ℕ → ℕ → List ℕ
line_text x1 y1 x2 y2 = curve_text x1 y1 x2 y2 ++ dot_text x2 y2

-- the line of a reference: from the middle of the row of its first attribute to the name of the other table
unfoldable pub reference_text : TableDesign → TablePlace → TableDesign → TablePlace → List ℕ
reference_text table place other other_place =
    line_text place.left
    (place.top + (24 * row_of (attributes table.scheme) (first_of (attributes other.key)) + 12))
    (other_place.left + other_place.width) (other_place.top + 12)

-- the line of a table's reference to that at a position
unfoldable pub reference_to : List TableDesign → List TablePlace → TableDesign → TablePlace → ℕ → List ℕ
reference_to tables places table place j =
    unwrap_or (option_map (λ other. reference_text table place other (place_at places j)) (slice_get tables j)) []

-- the lines of the references of a table, in order
abbrev pub references_to : List TableDesign → List TablePlace → TableDesign → TablePlace → List ℕ → List ℕ
references_to tables places table place refs = flat_map (reference_to tables places table place) refs

-- the lines of the references of the table at a position
unfoldable pub lines_at : List TableDesign → List TablePlace → ℕ → List ℕ
lines_at tables places k = unwrap_or
    (option_map (λ table. references_to tables places table (place_at places k) table.refs.items)
    (slice_get tables k)) []

-- ---- boxes
-- whether an attribute is in another key of a table than the first, where these are known
abbrev pub in_other_key : TableDesign → ℕ → Bool
in_other_key table k =
    unwrap_or (option_map (λ keys. list_any (λ key. attributes key k) keys.items) table.other_keys) false

-- what marks an attribute of the first key of a table, and one of another key
unfoldable pub mark_of : TableDesign → ℕ → List ℕ
mark_of table k =
    if attributes table.key k then codes " class=\"k\""
    else if in_other_key table k then codes " class=\"o\"" else []

-- the frame of a box
unfoldable pub frame_text : TablePlace → List ℕ
frame_text place =
    point_text (codes "<rect x=\"") place.left (codes "\" y=\"") place.top
    ++ point_text (codes "\" width=\"") place.width (codes "\" height=\"") place.height ++ codes "\"/>\n"

-- a name in a box, at a row, with what marks it
unfoldable pub box_name_text : TablePlace → ℕ → List ℕ → List ℕ → List ℕ
box_name_text place row mark name =
    point_text (codes "<text x=\"") (place.left + 8) (codes "\" y=\"") (place.top + (24 * row + 17))
    ++ codes "\"" ++ mark ++ codes ">" ++ html_text name ++ codes "</text>\n"

-- an attribute in the box of its table, marked where it is in a key
unfoldable pub attribute_text : Schema → TableDesign → TablePlace → ℕ → List ℕ
attribute_text s table place k =
    box_name_text place (row_of (attributes table.scheme) k) (mark_of table k)
    (slice_index_or (names_of s) k [])

-- the box of a table: its frame, its name, and its attributes, ascending
unfoldable pub box_text : Schema → TableDesign → TablePlace → List ℕ
box_text s table place =
    frame_text place ++ box_name_text place 0 (codes " class=\"t\"") table.name
    ++ flat_map (attribute_text s table place) (members_below (width_of s) (attributes table.scheme))

-- the box of the table at a position
unfoldable pub box_at : Schema → List TableDesign → List TablePlace → ℕ → List ℕ
box_at s tables places k =
    unwrap_or (option_map (λ table. box_text s table (place_at places k)) (slice_get tables k)) []

-- ---- the whole
-- the opening of a picture of this width and height
unfoldable pub opening_text : ℕ → ℕ → List ℕ
opening_text width height =
    point_text (codes "<div class=\"p\"><svg xmlns=\"http://www.w3.org/2000/svg\" viewBox=\"0 0 ")
    width (codes " ") height
    ++ point_text (codes "\" width=\"") width (codes "\" height=\"") height ++ codes "\">\n"

-- the lines of all references, and then the boxes, so that these hide what runs behind them
unfoldable pub picture_from : Schema → List TableDesign → ℕ → List TablePlace → List ℕ
picture_from s tables count places =
    opening_text (whole_width places) (whole_height places)
    ++ texts_below count (lines_at tables places) ++ texts_below count (box_at s tables places)
    ++ codes "</svg></div>\n"

-- a design as a picture
abbrev pub picture_text : Schema → List TableDesign → List ℕ
picture_text s tables = picture_from s tables (length tables) (places_of s tables)
