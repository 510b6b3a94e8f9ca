-- Files that are written one after the other.
use Rattle.std.proofs.Common.{◌≡◌, ◌⊎◌, inl, inr, ℕ, ◌+◌, ◌<◌, arith, false, List, [], ◌∷◌, ◌++◌, length, take, drop, get_or, Option, None, Some, option_map, refl, sym, ap, subst, ◌∙◌, append-nil, append_assoc}
use Rattle.std.specs.Prelude.{Result, Ok, Err, OnOk, OnErr}
use Rattle.std.proofs.lemmas.List.{drop_more, map-append, take-append-drop, take_more}
use Rattle.dep_model.specs.Tuples.{Relation}
use Rattle.desk_outside.specs.Causes.{HasOutsideCause}
use Rattle.desk_outside.specs.declared.failure.OutsideFault.{OutsideFault}
use Rattle.desk_outside.specs.declared.failure.OutsideFault.TheVariants.{OutOfMemory}
use Rattle.desk_outside.specs.Files.{Files, StoredFile, without_file}
use Rattle.desk_outside.specs.Folders.{BeginsName, FolderContents, FolderState, finished_in, with_begun, with_bytes, with_ended, with_none_open}
use Rattle.named_tables.specs.Tables.{chosen_value, chosen_values}
use Rattle.named_tables.specs.declared.table.ChosenTable.{ChosenTable}
use Rattle.destinations.specs.Formats.{table_file, table_files}
use Rattle.destinations.specs.Writing.{AddsBytes, AllWritten, FilesWritten, WriteEnd, WritesFile, names_of_files, with_all_stored, with_stored}
use Rattle.destinations.specs.declared.format.TableFormat.{TableFormat}
use Rattle.destinations.proofs.AddingLemmas.{cause_from, finished_closed, memory_cause}
use Rattle.destinations.proofs.BufferLemmas.{finished_gathered}

-- ---- one file
finished_begun : (known : Option FolderContents) (name : List ℕ) → finished_in (option_map (with_begun name) known) ≡ option_map (without_file name) (finished_in known)
finished_begun None name = refl
finished_begun (Some folder) name = refl

finished_ended : (known : Option FolderContents) (name bytes : List ℕ) → finished_in (option_map with_ended (option_map (with_bytes bytes) (option_map (with_begun name) known))) ≡ option_map (with_stored (record { name = name; bytes = bytes })) (finished_in known)
finished_ended None name bytes = refl
finished_ended (Some folder) name bytes = refl

begins_as : (name : List ℕ) (old new : List (List ℕ)) (end : WriteEnd) → new ≡ old ++ name ∷ [] → BeginsName name old new end
begins_as name old new (Ok u) is = record { ok = is; err = tt }
begins_as name old new (Err e) is = record { ok = tt; err = inr is }

-- what was begun, and what stood there before
pub record Begins (name : List ℕ) (old new : FolderState) : Type 0 where
  pub contents : new.contents ≡ option_map (with_begun name) old.contents
  pub begun : new.begun ≡ old.begun ++ name ∷ []
  pub fine : new.faults ≡ old.faults

-- a file that is begun, written and ended, or not
pub file_ended : (file : StoredFile) (start begun written new : FolderState) (u : Unit {0}) (end : WriteEnd) → Begins file.name start begun
    → AddsBytes file.bytes begun written (Ok u) → OnOk end (new.contents ≡ option_map with_ended written.contents)
    → OnErr end (new.contents ≡ option_map with_none_open written.contents) → new.is_open ≡ false → new.begun ≡ written.begun
    → HasOutsideCause written.faults new.faults end → WritesFile file start new end
file_ended file start begun written new u (Ok v) begins adds ended gone closed same cause = record {
  ok = ap finished_in (ended ∙ ap (option_map with_ended) (adds.ok ∙ ap (option_map (with_bytes file.bytes)) begins.contents))
      ∙ finished_ended start.contents file.name file.bytes;
  err = tt;
  begins = begins_as file.name start.begun new.begun (Ok v) (same ∙ adds.same ∙ begins.begun);
  closed = λ before. closed;
  cause = cause_from start.faults written.faults new.faults (Ok v) (adds.cause.fine ∙ begins.fine) cause;
}
file_ended file start begun written new u (Err e) begins adds ended gone closed same cause = record {
  ok = tt;
  err = inr
      (ap finished_in gone ∙ finished_closed written.contents ∙ ap finished_in adds.ok ∙ finished_gathered begun.contents file.bytes
      ∙ ap finished_in begins.contents ∙ finished_begun start.contents file.name);
  begins = begins_as file.name start.begun new.begun (Err e) (same ∙ adds.same ∙ begins.begun);
  closed = λ before. closed;
  cause = cause_from start.faults written.faults new.faults (Err e) (adds.cause.fine ∙ begins.fine) cause;
}

-- a file that is begun and given up
pub file_given_up : (file : StoredFile) (start begun written new : FolderState) (e : OutsideFault) → Begins file.name start begun
    → AddsBytes file.bytes begun written (Err e) → new.contents ≡ option_map with_none_open written.contents → new.is_open ≡ false
    → new.begun ≡ written.begun → new.faults ≡ written.faults → WritesFile file start new (Err e)
file_given_up file start begun written new e begins adds gone closed same fine = record {
  ok = tt;
  err = inr
      (ap finished_in gone ∙ finished_closed written.contents ∙ adds.kept ∙ ap finished_in begins.contents
      ∙ finished_begun start.contents file.name);
  begins = begins_as file.name start.begun new.begun (Err e) (same ∙ adds.same ∙ begins.begun);
  closed = λ before. closed;
  cause = cause_from start.faults begun.faults new.faults (Err e) begins.fine
      (subst (λ (n : ℕ). HasOutsideCause {T = Unit {0}} begun.faults n (Err e)) (sym fine) adds.cause);
}

-- a file that could not be begun
pub file_not_begun : (file : StoredFile) (start new : FolderState) (e : OutsideFault) → new.contents ≡ option_map with_none_open start.contents
    → new.is_open ≡ false → BeginsName {T = Unit {0}} file.name start.begun new.begun (Err e)
    → HasOutsideCause {T = Unit {0}} start.faults new.faults (Err e) → WritesFile file start new (Err e)
file_not_begun file start new e gone closed begins cause = record {
  ok = tt;
  err = inl (ap finished_in gone ∙ finished_closed start.contents);
  begins = begins;
  closed = λ before. closed;
  cause = cause;
}

-- a file before which memory ran out
pub file_not_tried : (file : StoredFile) (state : FolderState) → WritesFile file state state (Err OutOfMemory)
file_not_tried file state = record {
  ok = tt;
  err = inl refl;
  begins = record { ok = tt; err = inl refl };
  closed = λ before. before;
  cause = memory_cause state.faults;
}

-- ---- files
pub files_none : (start : FolderState) → FilesWritten [] start start (Ok tt)
files_none start = record {
  ok = record { finished = none (finished_in start.contents); begun = sym (append-nil start.begun); closed = λ before. before };
  err = tt;
  cause = record { later = omega arith; fine = refl; failed = λ e. absurd cc };
}
  where
    none : (known : Option Files) → known ≡ option_map (with_all_stored []) known
    none None = refl
    none (Some files) = refl

-- a file after others
stored_last : (front : List StoredFile) (file : StoredFile) (files : Files) → with_stored file (with_all_stored front files) ≡ with_all_stored (front ++ file ∷ []) files
stored_last [] file files = refl
stored_last (one ∷ front) file files = stored_last front file (with_stored one files)

joined : (front : List StoredFile) (file : StoredFile) (known : Option Files) → option_map (with_stored file) (option_map (with_all_stored front) known) ≡ option_map (with_all_stored (front ++ file ∷ [])) known
joined front file None = refl
joined front file (Some files) = ap Some (stored_last front file files)

-- the files of one list and then one more
pub all_and_one : (front : List StoredFile) (file : StoredFile) (start before after : FolderState) → AllWritten front start before
    → WritesFile file before after (Ok tt) → AllWritten (front ++ file ∷ []) start after
all_and_one front file start before after written writes = record {
  finished = writes.ok ∙ ap (option_map (with_stored file)) written.finished ∙ joined front file (finished_in start.contents);
  begun = writes.begins.ok ∙ ap (λ (names : List (List ℕ)). names ++ file.name ∷ []) written.begun
      ∙ append_assoc start.begun (names_of_files front) (file.name ∷ [])
      ∙ ap (λ (names : List (List ℕ)). start.begun ++ names) (sym (map-append (λ (f : StoredFile). f.name) front (file ∷ [])));
  closed = λ none. writes.closed (written.closed none);
}

pub files_next : (front : List StoredFile) (file : StoredFile) (start before after : FolderState) → FilesWritten front start before (Ok tt)
    → WritesFile file before after (Ok tt) → FilesWritten (front ++ file ∷ []) start after (Ok tt)
files_next front file start before after so_far writes = record {
  ok = all_and_one front file start before after so_far.ok writes;
  err = tt;
  cause = cause_from start.faults before.faults after.faults (Ok tt) so_far.cause.fine writes.cause;
}

-- the writing stops at a file, after those that are written
pub files_stop : (files front rest : List StoredFile) (file : StoredFile) (start before after : FolderState) (e : OutsideFault)
    → files ≡ front ++ file ∷ rest → FilesWritten front start before (Ok tt) → WritesFile file before after (Err e)
    → FilesWritten files start after (Err e)
files_stop files front rest file start before after e split so_far writes = record {
  ok = tt;
  err = record {
    front = front;
    file = file;
    rest = rest;
    split = split;
    finished = at_finished writes.err;
    begun = at_begun writes.begins.err;
    closed = λ none. writes.closed (so_far.ok.closed none);
  };
  cause = cause_from start.faults before.faults after.faults (Err e) so_far.cause.fine writes.cause;
}
  where
    at_finished : (finished_in after.contents ≡ finished_in before.contents) ⊎ (finished_in after.contents ≡ option_map (without_file file.name) (finished_in before.contents))
        → (finished_in after.contents ≡ option_map (with_all_stored front) (finished_in start.contents))
        ⊎ (finished_in after.contents ≡ option_map (without_file file.name) (option_map (with_all_stored front) (finished_in start.contents)))
    at_finished (inl same) = inl (same ∙ so_far.ok.finished)
    at_finished (inr gone) = inr (gone ∙ ap (option_map (without_file file.name)) so_far.ok.finished)

    at_begun : (after.begun ≡ before.begun) ⊎ (after.begun ≡ before.begun ++ file.name ∷ [])
        → (after.begun ≡ start.begun ++ names_of_files front) ⊎ (after.begun ≡ (start.begun ++ names_of_files front) ++ file.name ∷ [])
    at_begun (inl same) = inl (same ∙ so_far.ok.begun)
    at_begun (inr one) = inr (one ∙ ap (λ (names : List (List ℕ)). names ++ file.name ∷ []) so_far.ok.begun)

-- ---- the files of tables
-- those of the tables up to one, and its own
pub table_files_more : (front : List ℕ) (format : TableFormat) (rows : Relation) (tables : List ChosenTable) (i : ℕ) (table : ChosenTable)
    → i < length tables → table ≡ get_or tables i table
    → table_files front format (chosen_values rows (take i tables)) ++ table_file front format (chosen_value rows table) ∷ []
    ≡ table_files front format (chosen_values rows (take (i + 1) tables))
table_files_more front format rows tables i table within is =
    sym (map-append (table_file front format) (chosen_values rows (take i tables)) (chosen_value rows table ∷ []))
    ∙ ap (table_files front format) (sym (map-append (chosen_value rows) (take i tables) (table ∷ [])))
    ∙ ap (λ (ts : List ChosenTable). table_files front format (chosen_values rows ts))
    (ap (λ (t : ChosenTable). take i tables ++ t ∷ []) is ∙ sym (take_more tables i table within))

-- those of all tables are those up to one, its own, and those after it
pub table_files_split : (front : List ℕ) (format : TableFormat) (rows : Relation) (tables : List ChosenTable) (i : ℕ) (table : ChosenTable)
    → i < length tables → table ≡ get_or tables i table
    → table_files front format (chosen_values rows tables)
    ≡ table_files front format (chosen_values rows (take i tables))
    ++ table_file front format (chosen_value rows table) ∷ table_files front format (chosen_values rows (drop (i + 1) tables))
table_files_split front format rows tables i table within is =
    let rest = drop (i + 1) tables in
    let split : tables ≡ take i tables ++ table ∷ rest =
    sym (take-append-drop i tables)
    ∙ ap (λ (later : List ChosenTable). take i tables ++ later)
    (drop_more tables i table within ∙ ap (λ (t : ChosenTable). t ∷ rest) (sym is)) in
    ap (λ (list : List ChosenTable). table_files front format (chosen_values rows list)) split
    ∙ ap (table_files front format) (map-append (chosen_value rows) (take i tables) (table ∷ rest))
    ∙ map-append (table_file front format) (chosen_values rows (take i tables)) (chosen_values rows (table ∷ rest))
