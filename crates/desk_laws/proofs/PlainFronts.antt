-- The text of a design begins with a byte of ASCII: so it has no byte-order mark.
use Rattle.std.proofs.Common.{◌≡◌, ◌<◌, ◌++◌, ℕ, List, [], ◌∷◌, Some, map, refl, sym, subst, arith}
use Rattle.std.proofs.lemmas.Bool.{ne_eqb}
use Rattle.std.proofs.lemmas.Grind.{flat_map-append}
use Rattle.std.specs.Prelude.{slice_get}
use Rattle.lexer.specs.Lines.{without_mark}
use Rattle.schema_model.specs.Schemas.{Schema}
use Rattle.sql_syntax.specs.Names.{quoted_name}
use Rattle.sql_syntax.specs.Statements.{remark, create_table, statement_text, script_text}
use Rattle.ddl_text.specs.Ddl.{ddl_text, elements_made, said_of, table_made, tables_made}
use Rattle.ddl_text.specs.declared.table.TableDesign.{TableDesign}

-- a text begins with a byte of ASCII
abbrev HasPlainFront : List ℕ → Type 0
HasPlainFront text = (first : ℕ) × (rest : List ℕ) × (text ≡ first ∷ rest) × (first < 128)

unmarked : (text : List ℕ) → HasPlainFront text → without_mark text ≡ text
unmarked text (first, rest, is, plain) =
    subst (λ (t : List ℕ). without_mark t ≡ t) (sym is) (no_mark first rest plain)
  where
    no_mark : (first : ℕ) (rest : List ℕ) → first < 128 → without_mark (first ∷ rest) ≡ first ∷ rest
    no_mark first rest plain = let other = ne_eqb 239 first (λ same. omega (arith, plain, same)) in (rw other refl)

-- remarks and a statement that creates a table
front : (words : List (List ℕ)) (s : Schema) (tables : List TableDesign) (table : TableDesign) (more : List ℕ)
    → HasPlainFront (script_text (map remark words ++ create_table (quoted_name table.name) (elements_made s tables table) ∷ []) ++ more)
unfolding statement_text
front [] s tables table more = (67, _, refl, omega arith)
front (first ∷ words) s tables table more = (45, _, refl, omega arith)

pub design_unmarked : (s : Schema) (tables : List TableDesign) (k : ℕ) (table : TableDesign) → slice_get tables k ≡ Some table
    → without_mark (ddl_text s tables) ≡ ddl_text s tables
design_unmarked s [] k table here = cc
design_unmarked s (t ∷ ts) k table here =
    unmarked (ddl_text s (t ∷ ts))
    (subst HasPlainFront (sym (flat_map-append statement_text (table_made s (t ∷ ts) t) (tables_made s (t ∷ ts) ts)))
    (front (said_of s t) s (t ∷ ts) t (script_text (tables_made s (t ∷ ts) ts))))
