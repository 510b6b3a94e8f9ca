-- Files whose names differ.
use Rattle.std.proofs.Common.{◌≡◌, ◌≢◌, ℕ, suc, ◌<◌, arith, Bool, false, not, cond, List, [], ◌∷◌, ◌++◌, length, map, get_or, All, AllPairs, refl, sym, ap, ◌∙◌, append-nil, append_assoc}
use Rattle.std.specs.Str.{bytes_eq}
use Rattle.std.proofs.lemmas.Bool.{false_from_ne_true}
use Rattle.std.proofs.lemmas.List.{append_cancel_left, append_cancel_right, get_or-map, length-map}
use Rattle.std.proofs.lemmas.List.Elements.{All-nil, All-push}
use Rattle.std.proofs.lemmas.Slice.Eq.{bytes_eq-Decides}
use Rattle.desk_outside.specs.Files.{Files, StoredFile, without_file}
use Rattle.named_tables.specs.Tables.{TableValue}
use Rattle.destinations.specs.Formats.{ending, table_file, table_files}
use Rattle.destinations.specs.Writing.{with_all_stored}
use Rattle.destinations.specs.declared.format.TableFormat.{TableFormat}

-- none has this name
without_file-other : (name : List ℕ) (done : Files) → All (λ (one : StoredFile). one.name ≢ name) done → without_file name done ≡ done
without_file-other name [] other = refl
without_file-other name (one ∷ done) other =
    let differs : bytes_eq one.name name ≡ false =
    false_from_ne_true (bytes_eq one.name name) (λ same. other 0 one (omega arith) ((bytes_eq-Decides one.name name).0 same)) in
    ap (λ (b : Bool). cond (not b) (one ∷ without_file name done) (without_file name done)) differs
    ∙ ap (λ (rest : Files). one ∷ rest) (without_file-other name done (λ k d within. other (suc k) d (omega (arith, within))))

-- after others, of other names too
stand_after : (files done : Files)
    → All (λ (file : StoredFile). All (λ (one : StoredFile). one.name ≢ file.name) done) files
    → AllPairs (λ (one other : StoredFile). one.name ≢ other.name) files → with_all_stored files done ≡ done ++ files
stand_after [] done apart pairs = sym (append-nil done)
stand_after (file ∷ files) done apart pairs =
    ap (λ (front : Files). with_all_stored files (front ++ file ∷ [])) (without_file-other file.name done (apart 0 file (omega arith)))
    ∙ stand_after files (done ++ file ∷ [])
    (λ k d within.
    All-push (λ (one : StoredFile). one.name ≢ (get_or files k d).name) done file
    (apart (suc k) d (omega (arith, within))) (pairs 0 (suc k) d (omega arith) (omega (arith, within))))
    (λ i j d less within. pairs (suc i) (suc j) d (omega (arith, less)) (omega (arith, within)))
    ∙ append_assoc done (file ∷ []) files

-- the names of the files differ as those of the tables do
names_differ : (front : List ℕ) (format : TableFormat) (tables : List TableValue) → AllPairs (λ (one other : TableValue). one.name ≢ other.name) tables
    → AllPairs (λ (one other : StoredFile). one.name ≢ other.name) (table_files front format tables)
names_differ front format [] pairs i j d less within = absurd (omega (arith, within))
names_differ front format (table ∷ tables) pairs i j d less within =
    let inside : j < length (table ∷ tables) = omega (arith, within, length-map (table ∷ tables) (table_file front format)) in
    λ same.
    pairs i j table less inside
    (append_cancel_left front _ _
    (append_cancel_right _ _ (ending format)
    (ap (λ (file : StoredFile). file.name) (sym (get_or-map (table_file front format) (table ∷ tables) i table d (omega (arith, less, inside))))
    ∙ same
    ∙ ap (λ (file : StoredFile). file.name) (get_or-map (table_file front format) (table ∷ tables) j table d inside))))

pub all_stand : (front : List ℕ) (format : TableFormat) (tables : List TableValue) → AllPairs (λ (one other : TableValue). one.name ≢ other.name) tables
    → with_all_stored (table_files front format tables) [] ≡ table_files front format tables
all_stand front format tables pairs =
    stand_after (table_files front format tables) [] (λ k d within. All-nil (λ (one : StoredFile). one.name ≢ (get_or (table_files front format tables) k d).name))
    (names_differ front format tables pairs)
