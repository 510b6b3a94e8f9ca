-- Pieces of an open file, as writes move them.
use Rattle.std.proofs.Common.{◌≡◌, ℕ, ◌+◌, ◌-◌, Bool, true, false, not, cond, List, [], ◌∷◌, ◌++◌, length, map, filter, take, drop, Option, None, Some, option_map, refl, ap, sym, ◌∙◌, append_assoc}
use Rattle.std.specs.Str.{bytes_eq}
use Rattle.std.proofs.Math.Seq.{take-add}
use Rattle.std.proofs.lemmas.List.{take_rest}
use Rattle.desk_outside.specs.declared.held_file.HeldFile.{HeldFile}
use Rattle.desk_outside.specs.Files.{StoredFile, stored_file, files_of, without_file}
use Rattle.desk_outside.specs.Folders.{FolderContents, with_bytes}

-- what passes a test, each read as a value
pub map-filter : {X Y : Type 0} (value : X → Y) (test : Y → Bool) (xs : List X) → map value (filter (λ x. test (value x)) xs) ≡ filter test (map value xs)
map-filter value test [] = refl
map-filter {X} {Y} value test (x ∷ xs) = one (test (value x)) (map-filter value test xs)
  where
    one : (b : Bool) → map value (filter (λ y. test (value y)) xs) ≡ filter test (map value xs)
        → map value (cond b (x ∷ filter (λ y. test (value y)) xs) (filter (λ y. test (value y)) xs)) ≡ cond b (value x ∷ filter test (map value xs)) (filter test (map value xs))
    one true rest_is = ap (λ (rest : List Y). value x ∷ rest) rest_is
    one false rest_is = rest_is

-- the files of other names, among those in memory
pub without_file-stored : (name : List ℕ) (files : List HeldFile) → files_of (filter (λ (file : HeldFile). not (bytes_eq file.name name)) files) ≡ without_file name (files_of files)
without_file-stored name files = map-filter stored_file (λ (file : StoredFile). not (bytes_eq file.name name)) files

-- one piece and then another
pub with_bytes-append : (known : Option FolderContents) (xs ys : List ℕ) → option_map (with_bytes ys) (option_map (with_bytes xs) known) ≡ option_map (with_bytes (xs ++ ys)) known
with_bytes-append None xs ys = refl
with_bytes-append (Some folder) xs ys = ap Some (in_folder folder.opened)
  where
    in_folder : (opened : Option StoredFile) → with_bytes ys (with_bytes xs (record { finished = folder.finished; opened = opened })) ≡ with_bytes (xs ++ ys) (record { finished = folder.finished; opened = opened })
    in_folder None = refl
    in_folder (Some file) = ap (λ (bytes : List ℕ). record { finished = folder.finished; opened = Some (record { name = file.name; bytes = bytes }) }) (append_assoc file.bytes xs ys)

-- after the first m bytes the next n, from the front of the rest
pub with_bytes-take : (old middle new : Option FolderContents) (xs : List ℕ) (m n : ℕ) → middle ≡ option_map (with_bytes (take m xs)) old → new ≡ option_map (with_bytes (take n (take (length xs - m) (drop m xs)))) middle → new ≡ option_map (with_bytes (take (m + n) xs)) old
with_bytes-take old middle new xs m n before step =
    step
    ∙ ap (λ piece. option_map (with_bytes (take n piece)) middle) (take_rest xs m)
    ∙ ap (λ known. option_map (with_bytes (take n (drop m xs))) known) before
    ∙ with_bytes-append old (take m xs) (take n (drop m xs))
    ∙ ap (λ piece. option_map (with_bytes piece) old) (sym (take-add m n xs))
