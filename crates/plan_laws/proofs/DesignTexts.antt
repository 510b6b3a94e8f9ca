-- What is printed of a design rests on the fields that make two designs the same.
use Rattle.std.proofs.Common.{◌≡◌, ◌++◌, ℕ, zero, suc, Bool, List, [], ◌∷◌, get_or, map, refl, ap, ◌∙◌}
use mathlib.Core.Path.{fun_ext}
use Rattle.std.specs.Prelude.{if◌then◌else◌, codes, is_some, slice_get, unwrap_or, option_map}
use Rattle.std.specs.List.{flat_map}
use Rattle.attr_sets.specs.Attributes.{Attributes, difference}
use Rattle.attr_sets.specs.Sets.{attributes}
use Rattle.schema_model.specs.Schemas.{Schema}
use Rattle.schema_model.specs.Schemas.{nullable_of}
use Rattle.ddl_text.specs.Ddl.{columns_made, columns_of_set, ddl_text, elements_made, is_empty, key_made, keys_made, left_out_keys, left_out_words, reference_made, references_made, references_to, remarks_made, said_of, table_made, tables_made, uniques_made}
use Rattle.ddl_text.specs.Designs.{known_keys}
use Rattle.ddl_text.specs.declared.table.TableDesign.{TableDesign}
use Rattle.sql_syntax.specs.Names.{quoted_name}
use Rattle.sql_syntax.specs.Statements.{Element, Statement, remark, create_table, script_text}
use Rattle.table_drawing.specs.Drawing.{node_head, node_text, edge_text, edges_text, drawing_text}
use Rattle.plan_laws.specs.SameDesigns.{IsSameTable, AreSameTables}

-- ---- texts of tables
-- the texts of tables, one after the other
flat_same : (f g : TableDesign → List ℕ) → ((t u : TableDesign) → IsSameTable t u → f t ≡ g u)
    → (one other : List TableDesign) → AreSameTables one other → flat_map f one ≡ flat_map g other
flat_same f g each [] [] same = refl
flat_same f g each [] (u ∷ us) same = absurd same
flat_same f g each (t ∷ ts) [] same = absurd same
flat_same f g each (t ∷ ts) (u ∷ us) same =
    ap (λ (text : List ℕ). text ++ flat_map f ts) (each t u same.0)
    ∙ ap (λ (text : List ℕ). g u ++ text) (flat_same f g each ts us same.1)

-- the text of the table at a position
pub found_same : (f g : TableDesign → List ℕ) → ((t u : TableDesign) → IsSameTable t u → f t ≡ g u)
    → (one other : List TableDesign) → AreSameTables one other → (j : ℕ)
    → unwrap_or (option_map f (slice_get one j)) [] ≡ unwrap_or (option_map g (slice_get other j)) []
found_same f g each [] [] same j = refl
found_same f g each [] (u ∷ us) same j = absurd same
found_same f g each (t ∷ ts) [] same j = absurd same
found_same f g each (t ∷ ts) (u ∷ us) same zero = each t u same.0
found_same f g each (t ∷ ts) (u ∷ us) same (suc j) = found_same f g each ts us same.1 j

-- ---- tables that are made
reference_same : (s : Schema) (t u : TableDesign) → IsSameTable t u → reference_made s t ≡ reference_made s u
reference_same s t u same = simp (same.name, same.key)

made_same : (s : Schema) (one other : List TableDesign) → AreSameTables one other → (t u : TableDesign) → IsSameTable t u → (j : ℕ)
    → reference_made s (get_or one j t) ≡ reference_made s (get_or other j u)
made_same s [] [] same t u alike j = reference_same s t u alike
made_same s [] (v ∷ vs) same t u alike j = absurd same
made_same s (v ∷ vs) [] same t u alike j = absurd same
made_same s (v ∷ vs) (w ∷ ws) same t u alike zero = reference_same s v w same.0
made_same s (v ∷ vs) (w ∷ ws) same t u alike (suc j) = made_same s vs ws same.1 t u alike j

references_same : (s : Schema) (one other : List TableDesign) → AreSameTables one other → (t u : TableDesign) → IsSameTable t u
    → references_made s one t ≡ references_made s other u
references_same s one other same t u alike =
    ap (λ (made : ℕ → Element). map made t.refs.items) (fun_ext (made_same s one other same t u alike))
    ∙ ap (λ (refs : List ℕ). references_to s other u refs) alike.references

columns_same : (s : Schema) (t u : TableDesign) → IsSameTable t u → columns_made s t ≡ columns_made s u
columns_same s t u alike =
    ap (λ (x : Attributes). columns_of_set s (difference (nullable_of s) (attributes t.key)) x) alike.columns
    ∙ ap (λ (x : Attributes). columns_of_set s (difference (nullable_of s) x) (attributes u.scheme)) alike.key

keys_same : (s : Schema) (t u : TableDesign) → IsSameTable t u → keys_made s t ≡ keys_made s u
keys_same s t u alike =
    ap (λ (x : Attributes). key_made s x ++ uniques_made s (known_keys t.other_keys)) alike.key
    ∙ ap (λ (keys : List Attributes). key_made s (attributes u.key) ++ uniques_made s keys) alike.other_keys

said_same : (s : Schema) (t u : TableDesign) → IsSameTable t u → said_of s t ≡ said_of s u
said_same s t u alike =
    ap (λ (key : Attributes). said key (is_some t.other_keys) (known_keys t.other_keys)) alike.key
    ∙ ap (λ (known : Bool). said (attributes u.key) known (known_keys t.other_keys)) alike.are_known
    ∙ ap (λ (keys : List Attributes). said (attributes u.key) (is_some u.other_keys) keys) alike.other_keys
  where
    said : Attributes → Bool → List Attributes → List (List ℕ)
    said key known keys =
        if is_empty key then codes "at most one row" ∷ []
        else if known then map (left_out_words s) (left_out_keys s keys) else codes "further keys are not looked for" ∷ []

elements_same : (s : Schema) (one other : List TableDesign) → AreSameTables one other → (t u : TableDesign) → IsSameTable t u
    → elements_made s one t ≡ elements_made s other u
elements_same s one other same t u alike =
    ap (λ (columns : List Element). columns ++ keys_made s t ++ references_made s one t) (columns_same s t u alike)
    ∙ ap (λ (keys : List Element). columns_made s u ++ keys ++ references_made s one t) (keys_same s t u alike)
    ∙ ap (λ (refs : List Element). columns_made s u ++ keys_made s u ++ refs) (references_same s one other same t u alike)

table_same : (s : Schema) (one other : List TableDesign) → AreSameTables one other → (t u : TableDesign) → IsSameTable t u
    → table_made s one t ≡ table_made s other u
table_same s one other same t u alike =
    ap (λ (words : List (List ℕ)). map remark words ++ create_table (quoted_name t.name) (elements_made s one t) ∷ []) (said_same s t u alike)
    ∙ ap (λ (name : List ℕ). remarks_made s u ++ create_table (quoted_name name) (elements_made s one t) ∷ []) alike.name
    ∙ ap (λ (elements : List Element). remarks_made s u ++ create_table (quoted_name u.name) elements ∷ [])
    (elements_same s one other same t u alike)

pub tables_same : (s : Schema) (all every one other : List TableDesign) → AreSameTables all every → AreSameTables one other
    → tables_made s all one ≡ tables_made s every other
tables_same s all every [] [] whole same = refl
tables_same s all every [] (u ∷ us) whole same = absurd same
tables_same s all every (t ∷ ts) [] whole same = absurd same
tables_same s all every (t ∷ ts) (u ∷ us) whole same =
    ap (λ (made : List Statement). made ++ tables_made s all ts) (table_same s all every whole t u same.0)
    ∙ ap (λ (rest : List Statement). table_made s every u ++ rest) (tables_same s all every ts us whole same.1)

pub ddl_same : (s : Schema) (one other : List TableDesign) → AreSameTables one other
    → ddl_text s one ≡ ddl_text s other
ddl_same s one other same = ap script_text (tables_same s one other one other same same)

-- ---- pictures
node_same : (s : Schema) (t u : TableDesign) → IsSameTable t u → node_text s t ≡ node_text s u
unfolding node_text node_head
node_same s t u same = simp (same.number, same.name, same.key, same.columns)

edge_same : (s : Schema) (t u : TableDesign) → IsSameTable t u → (v w : TableDesign) → IsSameTable v w
    → edge_text s t v ≡ edge_text s u w
unfolding edge_text
edge_same s t u same v w alike = simp (same.number, alike.number, alike.key)

edges_same : (s : Schema) (one other : List TableDesign) → AreSameTables one other → (t u : TableDesign)
    → IsSameTable t u → edges_text s one t ≡ edges_text s other u
edges_same s one other same t u alike =
    ap (λ (text : ℕ → List ℕ). flat_map text t.refs.items)
    (fun_ext (found_same (edge_text s t) (edge_text s u) (edge_same s t u alike) one other same))
    ∙ ap (λ (refs : List ℕ). flat_map (λ j. unwrap_or (option_map (edge_text s u) (slice_get other j)) []) refs)
    alike.references

pub drawing_same : (s : Schema) (one other : List TableDesign) → AreSameTables one other
    → drawing_text s one ≡ drawing_text s other
drawing_same s one other same =
    simp (
      flat_same (node_text s) (node_text s) (node_same s) one other same,
      flat_same (edges_text s one) (edges_text s other) (edges_same s one other same) one other same,
    )
