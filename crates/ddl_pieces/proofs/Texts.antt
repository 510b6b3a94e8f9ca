-- The text of a statement is that of its pieces.
use Rattle.std.proofs.Common.{◌≡◌, ℕ, Bool, true, false, List, [], ◌∷◌, ◌++◌, map, refl, sym, ap, ap₂, ◌∙◌, append_assoc, append-nil}
use Rattle.std.specs.Prelude.{codes, if◌then◌else◌}
use Rattle.std.specs.List.{flat_map}
use Rattle.std.proofs.lemmas.Grind.{flat_map-append}
use Rattle.schema_model.specs.Schemas.{Schema}
use Rattle.sql_syntax.specs.Names.{quoted_name, separator}
use Rattle.sql_syntax.specs.Syntax.{ColumnName, attribute, helper}
use Rattle.sql_syntax.specs.Printing.{name_text, names_text}
use Rattle.sql_syntax.specs.Statements.{Element, column_definition, primary_key, unique_key, foreign_key, create_table, element_text, element_lines, statement_text, script_text}
use Rattle.ddl_text.specs.Ddl.{elements_made, remarks_made, table_made}
use Rattle.ddl_text.specs.declared.table.TableDesign.{TableDesign}
use Rattle.ddl_pieces.specs.Pieces.{TextPiece, blank, bracketed, column_piece, create_pieces, element_pieces, gap, lines_after, lines_pieces, listed, listed_after, mark, not_null, pieces_in_type, quoted_piece, text_of, word}
use Rattle.ddl_pieces.proofs.Cutting.{text_append}
use Rattle.ddl_pieces.proofs.Types.{rest_text}

five_parts : (a b c d e : List ℕ) → a ++ b ++ c ++ d ++ e ≡ a ++ (b ++ (c ++ (d ++ e)))
five_parts a b c d e = simp append_assoc

six_parts : (a b c d e f : List ℕ) → a ++ b ++ c ++ d ++ e ++ f ≡ a ++ (b ++ (c ++ (d ++ (e ++ f))))
six_parts a b c d e f = simp append_assoc

-- ---- names
name_shown : (name : ColumnName) → (column_piece name).bytes ≡ name_text name
name_shown (attribute name) = refl
name_shown (helper name) = refl

after_shown : (names : List ColumnName)
    → text_of (listed_after names) ≡ flat_map (λ name. separator ++ name_text name) names
after_shown [] = refl
after_shown (name ∷ names) = ap₂ (λ (t u : List ℕ). separator ++ (t ++ u)) (name_shown name) (after_shown names)

listed_shown : (names : List ColumnName) → text_of (listed names) ≡ names_text names
listed_shown [] = refl
listed_shown (name ∷ names) = ap₂ (λ (t u : List ℕ). t ++ u) (name_shown name) (after_shown names)

bracketed_shown : (names : List ColumnName) → text_of (bracketed names) ≡ codes "(" ++ names_text names ++ codes ")"
bracketed_shown names =
    ap (λ (t : List ℕ). 40 ∷ t)
    (text_append (listed names) (mark 41 ∷ []) ∙ ap (λ (t : List ℕ). t ++ 41 ∷ []) (listed_shown names))

-- ---- elements
missing_shown : (nullable : Bool)
    → text_of (if nullable then [] else not_null) ≡ (if nullable then [] else codes " NOT NULL")
missing_shown true = refl
missing_shown false = refl

-- what follows the names of a reference
abbrev after_names : List ColumnName → List ℕ → List TextPiece
after_names names other = blank ∷ word (codes "REFERENCES") ∷ blank ∷ quoted_piece other ∷ blank ∷ bracketed names

referring_shown : (names : List ℕ) (other : List ℕ)
    → (codes "(" ++ names ++ codes ")") ++ (codes " REFERENCES " ++ (other ++ 32 ∷ (codes "(" ++ names ++ codes ")")))
    ≡ codes "(" ++ names ++ codes ") REFERENCES " ++ other ++ codes " (" ++ names ++ codes ")"
referring_shown names other =
    ap (λ (t : List ℕ). 40 ∷ t)
    (append_assoc names (codes ")") (codes " REFERENCES " ++ (other ++ (codes " (" ++ (names ++ codes ")"))))
    ∙ sym (six_parts names (codes ") REFERENCES ") other (codes " (") names (codes ")")))

element_shown : (e : Element) → text_of (element_pieces e) ≡ element_text e
element_shown (column_definition name type nullable) =
    ap₂ (λ (t u : List ℕ). t ++ 32 ∷ u) (name_shown name)
    (text_append (pieces_in_type 0 type) (if nullable then [] else not_null)
    ∙ ap₂ (λ (t u : List ℕ). t ++ u) (rest_text 0 type) (missing_shown nullable))
element_shown (primary_key names) = ap (λ (t : List ℕ). codes "PRIMARY KEY " ++ t) (bracketed_shown names)
element_shown (unique_key names) = ap (λ (t : List ℕ). codes "UNIQUE " ++ t) (bracketed_shown names)
element_shown (foreign_key names other) =
    ap (λ (t : List ℕ). codes "FOREIGN KEY " ++ t)
    (text_append (bracketed names) (after_names names other)
    ∙ ap₂ (λ (t u : List ℕ). t ++ (codes " REFERENCES " ++ (other ++ 32 ∷ u))) (bracketed_shown names) (bracketed_shown names)
    ∙ referring_shown (names_text names) other)

after_lines_shown : (elements : List Element) → text_of (lines_after (map element_pieces elements)) ≡ element_lines true elements
after_lines_shown [] = refl
after_lines_shown (element ∷ elements) =
    ap (λ (t : List ℕ). codes ",\n  " ++ t)
    (text_append (element_pieces element) (lines_after (map element_pieces elements))
    ∙ ap₂ (λ (t u : List ℕ). t ++ u) (element_shown element) (after_lines_shown elements))

lines_shown : (elements : List Element) → text_of (lines_pieces (map element_pieces elements)) ≡ element_lines false elements
lines_shown [] = refl
lines_shown (element ∷ elements) =
    ap (λ (t : List ℕ). codes "  " ++ t)
    (text_append (element_pieces element) (lines_after (map element_pieces elements))
    ∙ ap₂ (λ (t u : List ℕ). t ++ u) (element_shown element) (after_lines_shown elements))

-- ---- statements
create_shown : (name : List ℕ) (elements : List Element)
    → statement_text (create_table name elements) ≡ text_of (create_pieces name elements) ++ 59 ∷ 10 ∷ []
unfolding statement_text
create_shown name elements =
    five_parts (codes "CREATE TABLE ") name (codes " (\n") (element_lines false elements) (codes "\n);\n")
    ∙ ap (λ (t : List ℕ). codes "CREATE TABLE " ++ t)
    (ap (λ (t : List ℕ). name ++ (codes " (\n" ++ (t ++ codes "\n);\n"))) (sym (lines_shown elements))
    ∙ ap (λ (t : List ℕ). name ++ (codes " (\n" ++ t))
    (sym (append_assoc (text_of lines) (codes "\n)") (codes ";\n")))
    ∙ ap (λ (t : List ℕ). name ++ (codes " (\n" ++ (t ++ codes ";\n")))
    (sym (text_append lines (gap (10 ∷ []) ∷ mark 41 ∷ [])))
    ∙ sym (append_assoc name (codes " (\n" ++ text_of (lines ++ gap (10 ∷ []) ∷ mark 41 ∷ [])) (codes ";\n")))
  where
    lines : List TextPiece
    lines = lines_pieces (map element_pieces elements)

-- what is said of a table, and the statement that creates it
pub table_shown : (s : Schema) (tables : List TableDesign) (table : TableDesign)
    → script_text (table_made s tables table)
    ≡ script_text (remarks_made s table)
    ++ (text_of (create_pieces (quoted_name table.name) (elements_made s tables table)) ++ 59 ∷ 10 ∷ [])
table_shown s tables table =
    let made = create_table (quoted_name table.name) (elements_made s tables table) in
    flat_map-append statement_text (remarks_made s table) (made ∷ [])
    ∙ ap (λ (t : List ℕ). script_text (remarks_made s table) ++ t)
    (append-nil (statement_text made) ∙ create_shown (quoted_name table.name) (elements_made s tables table))
