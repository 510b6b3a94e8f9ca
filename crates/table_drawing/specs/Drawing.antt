-- A design as a Graphviz text: for `draw` (`desk_designs/Drawings`).
use Rattle.std.specs.Prelude.{ℕ, Bool, ◌==◌, if◌then◌else◌, List, [], ◌∷◌, ◌++◌, codes, slice_get, slice_index_or, unwrap_or, option_map}
use Rattle.std.specs.List.{flat_map}
use Rattle.attr_sets.specs.Attributes.{Attributes}
use Rattle.attr_sets.specs.Sets.{attributes}
use Rattle.schema_model.specs.Schemas.{Schema}
use Rattle.dep_model.specs.Projections.{members_below}
use Rattle.schema_model.specs.Schemas.{names_of, width_of}
use Rattle.schema_printer.specs.Printing.{set_text}
use Rattle.schema_printer.specs.Spelling.{printed_names_of}
use Rattle.table_names.specs.TableNames.{table_name}
use Rattle.ddl_text.specs.declared.table.TableDesign.{TableDesign}
use Rattle.html_pages.specs.Escapes.{html_text}

-- a byte in a label between double quotes: `\` before `"` and `\`
abbrev pub label_byte : ℕ → List ℕ
label_byte b = if b == 34 then 92 ∷ 34 ∷ [] else if b == 92 then 92 ∷ 92 ∷ [] else b ∷ []

-- a text in a label between double quotes
unfoldable pub label_text : List ℕ → List ℕ
label_text text = flat_map label_byte text

-- a name, underlined where it is in the key
unfoldable pub marked_text : Bool → List ℕ → List ℕ
marked_text in_key name = if in_key then codes "<U>" ++ html_text name ++ codes "</U>" else html_text name

-- the row of an attribute
unfoldable pub row_text : Schema → Attributes → ℕ → List ℕ
row_text s key k =
    codes "<TR><TD ALIGN=\"LEFT\">" ++ marked_text (key k) (slice_index_or (names_of s) k [])
    ++ codes "</TD></TR>"

-- the rows of a scheme, ascending
abbrev pub table_rows_text : Schema → Attributes → Attributes → List ℕ
table_rows_text s scheme key = flat_map (row_text s key) (members_below (width_of s) scheme)

-- a node by the number of a table, as far as the row of its name
unfoldable pub node_head : TableDesign → List ℕ
node_head table =
    codes "  " ++ table_name table.number
    ++ codes " [label=<<TABLE BORDER=\"0\" CELLBORDER=\"1\" CELLSPACING=\"0\"><TR><TD BGCOLOR=\"lightgrey\"><B>"
    ++ table.name ++ codes "</B></TD></TR>"

-- the node of a table: its name, and a row for each attribute
unfoldable pub node_text : Schema → TableDesign → List ℕ
node_text s table =
    node_head table ++ table_rows_text s (attributes table.scheme) (attributes table.key) ++ codes "</TABLE>>];\n"

-- the edge from a table to another, with the key of that one
unfoldable pub edge_text : Schema → TableDesign → TableDesign → List ℕ
edge_text s table other =
    codes "  " ++ table_name table.number ++ codes " -> " ++ table_name other.number ++ codes " [label=\""
    ++ label_text (set_text (printed_names_of s) (attributes other.key)) ++ codes "\"];\n"

-- the edges from a table to those at these positions, in order
abbrev pub edges_to : Schema → List TableDesign → TableDesign → List ℕ → List ℕ
edges_to s tables table refs =
    flat_map (λ j. unwrap_or (option_map (edge_text s table) (slice_get tables j)) []) refs

-- the edges from a table to those that it refers to
abbrev pub edges_text : Schema → List TableDesign → TableDesign → List ℕ
edges_text s tables table = edges_to s tables table table.refs.items

-- a design: a node for each table, and then the edges of each
abbrev pub drawing_text : Schema → List TableDesign → List ℕ
drawing_text s tables =
    codes "digraph tables {\n  rankdir=LR;\n  node [shape=plaintext];\n" ++ flat_map (node_text s) tables
    ++ flat_map (edges_text s tables) tables ++ codes "}\n"
