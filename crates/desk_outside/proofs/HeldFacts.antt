-- The file at a position.
use Rattle.std.proofs.Common.{◌≡◌, ℕ, ◌+◌, ◌<◌, true, if◌then◌else◌, List, [], ◌∷◌, length, get_or, drop, Some, refl, ap, sym, ◌∙◌}
use Rattle.std.specs.Option.{option_map_or}
use Rattle.std.specs.Str.{bytes_eq}
use Rattle.std.proofs.lemmas.List.{drop_more}
use Rattle.std.proofs.lemmas.Option.{slice_get_read}
use Rattle.desk_outside.specs.declared.held_file.HeldFile.{HeldFile}
use Rattle.desk_outside.specs.Files.{bytes_of_file, files_of}
use Rattle.desk_outside.specs.Memory.{bytes_at}

pub bytes_at-read : (files : List HeldFile) (position : ℕ) (file : HeldFile) → position < length files → file ≡ get_or files position file → bytes_at files (Some position) ≡ file.bytes.items
bytes_at-read files position file within is =
    ap (λ o. option_map_or (λ (f : HeldFile). f.bytes.items) o []) (slice_get_read files (length files) position file refl within is)

-- the file at this position is that of a name that no file before it has
pub bytes_of_file-drop : (files : List HeldFile) (name : List ℕ) (position : ℕ) (file : HeldFile) → position < length files → file ≡ get_or files position file → bytes_of_file (files_of files) name ≡ bytes_of_file (files_of (drop position files)) name → bytes_eq file.name name ≡ true → bytes_of_file (files_of files) name ≡ Some (bytes_at files (Some position))
bytes_of_file-drop files name position file within is before same =
    before
    ∙ ap (λ rest. bytes_of_file (files_of rest) name) (drop_more files position file within)
    ∙ ap (λ f. bytes_of_file (files_of (f ∷ drop (position + 1) files)) name) (sym is)
    ∙ ap (λ b. if b then Some file.bytes.items else bytes_of_file (files_of (drop (position + 1) files)) name) same
    ∙ ap Some (sym (bytes_at-read files position file within is))
