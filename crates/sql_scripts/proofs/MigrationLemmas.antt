-- The text of the script that migrates, from those of its parts.
use Rattle.std.proofs.Common.{◌≡◌, ℕ, List, [], ◌∷◌, ◌++◌, map, sym, ap, ◌∙◌, append-nil, append_assoc}
use Rattle.std.proofs.lemmas.Grind.{flat_map-append}
use Rattle.std.proofs.lemmas.List.Folds.{flat_map-map}
use Rattle.std.specs.List.{flat_map}
use Rattle.std.specs.Prelude.{codes}
use Rattle.schema_model.specs.Schemas.{Schema}
use Rattle.ddl_text.specs.Ddl.{ddl_text, tables_made}
use Rattle.ddl_text.specs.declared.table.TableDesign.{TableDesign}
use Rattle.sql_syntax.specs.Syntax.{Query, except}
use Rattle.sql_syntax.specs.Printing.{query_text, selected_text}
use Rattle.sql_syntax.specs.Statements.{remark, begin, commit, create_from, create_view, insert_all, statement_text, script_text}
use Rattle.sql_migrate.specs.Script.{copy_name, view_name, test_name, copy_query, fill, view_query, width_query, table_rows, viewed_rows, count_of, testing, work}
use Rattle.sql_scripts.specs.Migrating.{opening_text, fill_text, gained_text, width_text, test_words, count_text, test_end, testing_text, migrate_text}

-- ---- the test
count_printed : (p q : Query) → statement_text (insert_all test_name (count_of (except p q))) ≡ count_text (query_text p ++ codes " EXCEPT " ++ query_text q)
unfolding statement_text selected_text count_of
count_printed p q = ends (query_text p ++ codes " EXCEPT " ++ query_text q)
  where
    ends : (text : List ℕ)
        → codes "INSERT INTO \"t00\" SELECT COUNT(*) FROM (" ++ (text ++ codes ")" ++ codes " AS " ++ codes "d" ++ [] ++ codes ";\n")
        ≡ codes "INSERT INTO \"t00\" SELECT COUNT(*) FROM (" ++ text ++ codes ") AS d;\n"
    ends text = simp (append_assoc)

test_printed : (s : Schema) (table : List ℕ) → testing_text s table ≡ script_text (testing s table) ++ statement_text commit
unfolding statement_text
test_printed s table =
    let width = query_text (width_query s table) in
    let held = table_rows s table in
    let seen = viewed_rows s in
    ap (λ (t : List ℕ). width_text width ++ test_words ++ t ++ count_text (gained_text s table) ++ test_end) (sym (count_printed held seen))
    ∙ ap (λ (t : List ℕ). width_text width ++ test_words ++ statement_text (insert_all test_name (count_of (except held seen))) ++ t ++ test_end)
    (sym (count_printed seen held))
    ∙ parts width (statement_text (insert_all test_name (count_of (except held seen)))) (statement_text (insert_all test_name (count_of (except seen held))))
  where
    parts : (w a b : List ℕ) → width_text w ++ test_words ++ a ++ b ++ test_end
        ≡ (codes "CREATE TEMPORARY TABLE \"t00\" (n BIGINT CHECK (n = 0));\n"
        ++ (codes "-- an error here: the table has other columns than the schema\n"
        ++ ((codes "INSERT INTO \"t00\" " ++ (w ++ codes ";\n"))
        ++ (test_words ++ (a ++ (b ++ codes "DROP TABLE \"t00\";\nDROP TABLE \"t0\";\n")))))) ++ codes "COMMIT;\n"
    parts w a b = simp (append_assoc)

-- ---- the whole
pub migration_printed : (s : Schema) (table : List ℕ) (tables : List TableDesign) (ddl : List ℕ) → ddl ≡ ddl_text s tables
    → opening_text s table ++ ddl ++ flat_map (fill_text s) tables ++ statement_text (create_view view_name (view_query s tables))
    ++ testing_text s table
    ≡ migrate_text s table tables
migration_printed s table tables ddl is =
    let after = create_view view_name (view_query s tables) ∷ testing s table in
    let first = statement_text (create_from copy_name (copy_query s table)) in
    let made = script_text (tables_made s tables tables) in
    let fills = flat_map (fill_text s) tables in
    let words = statement_text (remark (codes "all of it or nothing, where the first error ends it: psql -v ON_ERROR_STOP=1, sqlite3 -bail")) in
    let shown = statement_text (create_view view_name (view_query s tables)) in
    ap (λ (d : List ℕ). opening_text s table ++ d ++ fills ++ shown ++ testing_text s table) is
    ∙ ap (λ (t : List ℕ). opening_text s table ++ made ++ fills ++ shown ++ t) (test_printed s table)
    ∙ parts words (statement_text begin) first made fills (statement_text (create_view view_name (view_query s tables))) (script_text (testing s table)) (statement_text commit)
    ∙ ap (λ (t : List ℕ). words ++ (statement_text begin ++ t)) (sym
    (flat_map-append statement_text (work s table tables) (commit ∷ [])
    ∙ ap (λ (t : List ℕ). first ++ t ++ (statement_text commit ++ []))
    (flat_map-append statement_text (tables_made s tables tables) (map (fill s) tables ++ after)
    ∙ ap (λ (t : List ℕ). made ++ t) (flat_map-append statement_text (map (fill s) tables) after
    ∙ ap (λ (t : List ℕ). t ++ script_text after) (flat_map-map statement_text (fill s) tables)))))
  where
    parts : (r g m a b v t c : List ℕ) → r ++ g ++ m ++ a ++ b ++ v ++ (t ++ c) ≡ r ++ (g ++ (m ++ (a ++ (b ++ (v ++ t))) ++ (c ++ [])))
    parts r g m a b v t c = simp (append_assoc, append-nil)
