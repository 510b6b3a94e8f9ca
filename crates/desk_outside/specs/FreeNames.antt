-- Which names are free for a folder among files: for folders, and for the looks at names that `migrate .. into`
-- takes (`desk_tables/OwnFolders`).
use Rattle.std.specs.Prelude.{ℕ, ◌==◌, ◌&&◌, ◌||◌, Bool, true, if◌then◌else◌, not, List, length, drop, codes, Option, None, Some}
use Rattle.std.specs.List.{list_any, starts_with}
use Rattle.std.specs.Str.{bytes_eq}
use Rattle.desk_outside.specs.Files.{Files}
use Rattle.desk_outside.specs.Folders.{FolderContents}

-- whether a path begins with a name and a slash
abbrev pub is_below : List ℕ → List ℕ → Bool
is_below name path =
    starts_with (λ a b. a == b) path name && starts_with (λ a b. a == b) (drop (length name) path) (codes "/")

-- whether a file of this path has this name, or stands in a folder of this name
unfoldable pub is_taken_by : List ℕ → List ℕ → Bool
is_taken_by name path = bytes_eq path name || is_below name path

-- whether no file has this name or stands in a folder of it: nothing is there, or an empty folder
abbrev pub is_free_among : List ℕ → Files → Bool
is_free_among name files = not (list_any (λ file. is_taken_by name file.name) files)

-- whether a look found what there is
abbrev pub is_answer : Bool → Bool → Bool
is_answer free answer = if free then answer else not answer

-- whether a look at a name in a folder may be answered so: where its files are known, it finds what there is
abbrev pub may_be_free : Option FolderContents → List ℕ → Bool → Bool
may_be_free None name answer = true
may_be_free (Some folder) name answer = is_answer (is_free_among name folder.finished) answer
