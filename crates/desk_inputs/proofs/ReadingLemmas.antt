-- What a file source shows in a call.
use Rattle.std.proofs.Common.{◌≡◌, ℕ, ◌≤◌, arith, List, Option, Some, refl, sym, ◌∙◌}
use Rattle.desk_outside.specs.Causes.{ErrorCountIncreased}
use Rattle.desk_outside.specs.declared.file_source.FileSource.{Ghosts as FileSource}
use Rattle.desk_outside.specs.Files.{Files}
use Rattle.desk_inputs.specs.FileCalls.{Shows}
use Rattle.desk_inputs.specs.FilesBegun.{BeginsAll, BeginsLast}
use Rattle.desk_inputs.specs.Readings.{Reading, known_files, observed, MayBeLast}
use Rattle.desk_inputs.proofs.BegunLemmas.{last_later}

-- what a file source shows from one state on, it shows from a later one on, after some files were begun
pub Shows-later : {S : Type 0} (source : FileSource S) (old mid new : S) (r : Reading) (names : List (List ℕ)) → Shows source old new r
    → source.files mid ≡ source.files old → source.faults old ≤ source.faults mid → BeginsAll names (source.begun old) (source.begun mid)
    → Shows source mid new r
Shows-later source old mid new r names shows same before all = record {
  same = shows.same ∙ sym same;
  fails = λ increased. shows.fails (omega (arith, before, increased));
  takes = shows.takes;
  last = λ name last. shows.last name (last_later names name (source.begun old) (source.begun mid) (source.begun new) all last);
}

-- what is seen of a file source it shows
pub observed_shows : {S : Type 0} (source : FileSource S) (old new : S) (last : Option (List ℕ))
    → ((name : List ℕ) → BeginsLast name (source.begun old) (source.begun new) → MayBeLast (observed (source.files old) (source.faults old) (source.faults new) (source.taken new) last) name)
    → Shows source old new (observed (source.files old) (source.faults old) (source.faults new) (source.taken new) last)
observed_shows source old new last is = record { same = refl; fails = λ increased. increased; takes = λ limit took. took; last = is }

-- where nothing failed, it shows the files
pub known_files_shows : {S : Type 0} (source : FileSource S) (old new : S) (fs : Files) → source.files old ≡ Some fs
    → (ErrorCountIncreased (source.faults old) (source.faults new) → ⊥) → Shows source old new (known_files fs)
known_files_shows source old new fs are calm = record { same = sym are; fails = calm; takes = λ limit took. tt; last = λ name last. tt }
