-- Rows and edges: one more at the end.
use Rattle.std.proofs.Common.{◌≡◌, ◌<◌, ◌+◌, ℕ, true, false, List, [], ◌++◌, length, get_or, take, Option, refl, sym, ap, ◌∙◌, add-one}
use Rattle.std.specs.Prelude.{slice_get, unwrap_or, option_map}
use Rattle.std.specs.List.{flat_map}
use Rattle.std.proofs.lemmas.List.{take_more}
use Rattle.std.proofs.lemmas.Option.{slice_get_read}
use Rattle.attr_sets.specs.Attributes.{Attributes}
use Rattle.schema_model.specs.Schemas.{Schema}
use Rattle.dep_model.specs.Projections.{members_below}
use Rattle.dep_model.proofs.SchemeLemmas.{members_below-member, members_below-outside}
use Rattle.ddl_text.specs.declared.table.TableDesign.{TableDesign}
use Rattle.table_drawing.specs.Drawing.{row_text, edge_text, edges_to}
use Rattle.ddl_text.proofs.TextLemmas.{item_more}

-- ---- rows
pub row_more : (s : Schema) (scheme key : Attributes) (n : ℕ) (old text next piece : List ℕ) → scheme n ≡ true
    → text ≡ old ++ flat_map (row_text s key) (members_below n scheme) → piece ≡ row_text s key n → next ≡ text ++ piece
    → next ≡ old ++ flat_map (row_text s key) (members_below (n + 1) scheme)
row_more s scheme key n old text next piece inside so_far is added =
    item_more (row_text s key) old text next piece (members_below n scheme) (members_below (n + 1) scheme) n so_far is added
    (rw add-one (members_below-member n scheme inside))

pub row_passed : (s : Schema) (scheme key : Attributes) (n : ℕ) (old text : List ℕ) → scheme n ≡ false
    → text ≡ old ++ flat_map (row_text s key) (members_below n scheme)
    → text ≡ old ++ flat_map (row_text s key) (members_below (n + 1) scheme)
row_passed s scheme key n old text outside so_far =
    so_far ∙ sym (ap (λ (ks : List ℕ). old ++ flat_map (row_text s key) ks) (rw add-one (members_below-outside n scheme outside)))

-- ---- edges
abbrev edge_at : Schema → List TableDesign → TableDesign → ℕ → List ℕ
edge_at s tables table j = unwrap_or (option_map (edge_text s table) (slice_get tables j)) []

pub edge_more : (s : Schema) (tables : List TableDesign) (table other : TableDesign) (refs : List ℕ) (i d : ℕ) (old text next piece : List ℕ)
    → i < length refs → get_or refs i d < length tables → other ≡ get_or tables (get_or refs i d) other
    → text ≡ old ++ edges_to s tables table (take i refs) → piece ≡ edge_text s table other → next ≡ text ++ piece
    → next ≡ old ++ edges_to s tables table (take (i + 1) refs)
edge_more s tables table other refs i d old text next piece lt within at so_far is added =
    item_more (edge_at s tables table) old text next piece (take i refs) (take (i + 1) refs) (get_or refs i d) so_far
    (is ∙ sym (ap (λ (found : Option TableDesign). unwrap_or (option_map (edge_text s table) found) [])
    (slice_get_read tables (length tables) (get_or refs i d) other refl within at)))
    added (take_more refs i d lt)
