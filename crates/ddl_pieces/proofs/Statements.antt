-- The statements of the text of a design create its tables.
use Rattle.std.proofs.Common.{◌≡◌, ◌+◌, ℕ, false, All, List, [], ◌∷◌, ◌++◌, refl, sym, ap, subst, ◌∙◌, arith, append_assoc}
use Rattle.std.specs.Prelude.{codes}
use Rattle.std.specs.List.{flat_map}
use Rattle.schema_model.specs.Names.{IsName}
use Rattle.schema_model.specs.Schemas.{names_of}
use Rattle.schema_model.specs.Schemas.{Schema}
use Rattle.sql_syntax.specs.Names.{quoted_name}
use Rattle.sql_syntax.specs.Statements.{script_text}
use Rattle.ddl_text.proofs.TextLemmas.{scripts_flat}
use Rattle.ddl_text.specs.Ddl.{ddl_text, elements_made, remarks_made, table_made}
use Rattle.ddl_text.specs.declared.table.TableDesign.{TableDesign}
use Rattle.sql_lexemes.specs.Lexemes.{Lexed}
use Rattle.sql_lexemes.specs.Pieces.{front_piece}
use Rattle.sql_lexemes.specs.Statements.{Scan, Stated, before_statement, is_before_data, scan_from, stated, statements_after}
use Rattle.sql_lexemes.specs.declared.dialect.Dialect.{Dialect}
use Rattle.sql_lexemes.specs.declared.dialect.Dialect.TheVariants.{Sqlite, Postgres}
use Rattle.ddl_pieces.specs.Created.{AreCreated, IsCreated}
use Rattle.ddl_pieces.specs.Pieces.{create_lexemes, create_pieces, lexemes_from, text_of}
use Rattle.ddl_pieces.proofs.Cutting.{ArePast, IsPassed, blanks_passed, depth_past, past}
use Rattle.ddl_pieces.proofs.Comments.{remarks_passed}
use Rattle.ddl_pieces.proofs.Elements.{AreSound, create_depth, create_right}
use Rattle.ddl_pieces.proofs.Texts.{table_shown}

-- a semicolon outside brackets ends a statement, where no data follows it
statement_ends : (d : Dialect) (s : Scan) (rest : List ℕ) → s.depth ≡ 0
    → is_before_data d s.lexemes ≡ false
    → statements_after d 0 s (59 ∷ rest)
    ≡ stated s ∷ statements_after d 0 (scan_from (before_statement 0) (s.place + 1)) rest
unfolding statements_after front_piece
statement_ends d s rest outside no_data =
    rw outside (rw no_data
    (ap (λ (n : ℕ). stated s ∷ statements_after d 0 (scan_from (before_statement 0) n) rest) (omega arith)))

-- no data follows a statement that creates a table
no_data : (d : Dialect) (place : ℕ) (s : Schema) (tables : List TableDesign) (table : TableDesign)
    → is_before_data d (create_lexemes place s tables table) ≡ false
unfolding lexemes_from
no_data Sqlite place s tables table = refl
no_data Postgres place s tables table = refl

-- the statement of a table, and then those of what follows it
record IsStatement (d : Dialect) (scan : Scan) (s : Schema) (all : List TableDesign) (table : TableDesign)
    (rest : List ℕ) : Type 0 where
  pub scanned : Scan
  pub next : Scan
  pub same : statements_after d 0 scan (script_text (table_made s all table) ++ rest)
      ≡ stated scanned ∷ statements_after d 0 next rest
  pub created : IsCreated s all table (stated scanned)
  pub nothing : next.lexemes ≡ []
  pub outside : next.depth ≡ 0

table_stated : (d : Dialect) (scan : Scan) (s : Schema) (all : List TableDesign) (table : TableDesign)
    (rest : List ℕ) → All IsName (names_of s) → AreSound d s
    → scan.lexemes ≡ [] → scan.depth ≡ 0 → IsStatement d scan s all table rest
table_stated d scan s all table rest names sound nothing outside = record {
  scanned = past_all.after;
  next = gap.after;
  same = ap (λ (t : List ℕ). statements_after d 0 scan (t ++ rest)) (table_shown s all table)
      ∙ ap (statements_after d 0 scan) (append_assoc (script_text (remarks_made s table)) (text ++ codes ";\n") rest
      ∙ ap (λ (t : List ℕ). script_text (remarks_made s table) ++ t) (append_assoc text (codes ";\n") rest))
      ∙ before.same ∙ past_all.same
      ∙ statement_ends d past_all.after (10 ∷ rest) closed
      (ap (is_before_data d) lexemes ∙ no_data d before.after.place s all table)
      ∙ ap (λ (others : List Stated). stated past_all.after ∷ others) gap.same;
  created = record { place = before.after.place; lexemes = lexemes; whole = refl };
  nothing = gap.lexemes;
  outside = gap.depth;
}
  where
    text : List ℕ
    text = text_of (create_pieces (quoted_name table.name) (elements_made s all table))

    before : IsPassed d scan (script_text (remarks_made s table)) (text ++ 59 ∷ 10 ∷ rest)
    before = remarks_passed d scan s table (text ++ 59 ∷ 10 ∷ rest) names

    past_all : ArePast d before.after (create_pieces (quoted_name table.name) (elements_made s all table)) (59 ∷ 10 ∷ rest)
    past_all =
        past d before.after (create_pieces (quoted_name table.name) (elements_made s all table)) (59 ∷ 10 ∷ rest)
        (create_right d s all table (59 ∷ 10 ∷ rest) sound)

    depth : before.after.depth ≡ 0
    depth = before.depth ∙ outside

    closed : past_all.after.depth ≡ 0
    closed = past_all.depth
        ∙ ap (λ (n : ℕ). depth_past n (create_pieces (quoted_name table.name) (elements_made s all table))) depth
        ∙ create_depth d s all table sound

    lexemes : past_all.after.lexemes ≡ create_lexemes before.after.place s all table
    lexemes = past_all.lexemes
        ∙ ap (λ (ls : List Lexed). ls
        ++ lexemes_from before.after.place before.after.depth (create_pieces (quoted_name table.name) (elements_made s all table))) (before.lexemes ∙ nothing)
        ∙ ap (λ (n : ℕ). lexemes_from before.after.place n (create_pieces (quoted_name table.name) (elements_made s all table))) depth

    gap : IsPassed d (scan_from (before_statement 0) (past_all.after.place + 1)) (10 ∷ []) rest
    gap = blanks_passed d (scan_from (before_statement 0) (past_all.after.place + 1)) (10 ∷ []) rest refl

tables_created : (d : Dialect) (scan : Scan) (s : Schema) (all tables : List TableDesign)
    → All IsName (names_of s) → AreSound d s
    → scan.lexemes ≡ [] → scan.depth ≡ 0
    → AreCreated s all tables (statements_after d 0 scan (flat_map (λ table. script_text (table_made s all table)) tables))
unfolding statements_after
tables_created d scan s all [] names sound nothing outside = record { lexemes = nothing; whole = refl }
tables_created d scan s all (table ∷ tables) names sound nothing outside =
    let rest = flat_map (λ table. script_text (table_made s all table)) tables in
    let is = table_stated d scan s all table rest names sound nothing outside in
    subst (AreCreated s all (table ∷ tables)) (sym is.same)
    (is.created, tables_created d is.next s all tables names sound is.nothing is.outside)

-- those of the text of a design
pub design_created : (d : Dialect) (scan : Scan) (s : Schema) (tables : List TableDesign)
    → All IsName (names_of s) → AreSound d s
    → scan.lexemes ≡ [] → scan.depth ≡ 0
    → AreCreated s tables tables (statements_after d 0 scan (ddl_text s tables))
design_created d scan s tables names sound nothing outside =
    subst (λ (t : List ℕ). AreCreated s tables tables (statements_after d 0 scan t)) (sym (scripts_flat (table_made s tables) tables))
    (tables_created d scan s tables tables names sound nothing outside)
