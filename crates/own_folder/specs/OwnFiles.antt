-- The files that a migration has in a folder of its own: for the writing of such folders, and for what the
-- whole call ends with.
use Rattle.std.specs.Prelude.{ℕ, Bool, not, if◌then◌else◌, List, [], ◌∷◌, ◌++◌, codes}
use Rattle.std.specs.List.{flat_map, list_any}
use Rattle.desk_outside.specs.Files.{StoredFile}
use Rattle.named_tables.specs.Tables.{TableValue}
use Rattle.destinations.specs.Formats.{table_files, table_text}
use Rattle.destinations.specs.Sql.{is_sql_text}
use Rattle.destinations.specs.declared.format.TableFormat.TheVariants.{Csv, Sql}

-- whether a value can be no text of SQL, so that its bytes are written in hexadecimal digits
abbrev pub is_bytes : List ℕ → Bool
is_bytes value = not (is_sql_text value)

-- whether a table has such a value
abbrev pub has_bytes : TableValue → Bool
has_bytes table = list_any (list_any is_bytes) table.rows

-- a statement that SQLite takes, and at which another database stops, since it has no such function: it would take
-- these digits for a number, or for a text
abbrev pub sqlite_alone : List ℕ
sqlite_alone =
    codes "-- values that are no text: for SQLite alone, another database stops here\n"
    ++ codes "SELECT typeof(X'') WHERE 1 = 0;\n"

-- how a script of one transaction begins that loads these tables
unfoldable pub load_front : List TableValue → List ℕ
load_front tables = codes "BEGIN;\n" ++ (if list_any has_bytes tables then sqlite_alone else [])

-- a script of one transaction: the statements that make the tables, and then their rows
abbrev pub load_text : List ℕ → List TableValue → List ℕ
load_text script tables =
    load_front tables ++ script ++ flat_map (table_text Sql) tables ++ (codes "COMMIT;" ++ 10 ∷ [])

-- the script of a migration, in the folder of this path
abbrev pub load_file : List ℕ → List ℕ → List TableValue → StoredFile
load_file path script tables = record { name = path ++ codes "load.sql"; bytes = load_text script tables }

-- all files of a migration, in the order in which they are written
abbrev pub own_files : List ℕ → List ℕ → List TableValue → List StoredFile
own_files path script tables = table_files path Csv tables ++ load_file path script tables ∷ []
