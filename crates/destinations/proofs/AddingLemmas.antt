-- Bytes that are written one piece after the other at the end of an open file.
use Rattle.std.proofs.Common.{◌≡◌, ℕ, ◌+◌, ◌<◌, ◌≤◌, arith, false, IsTrue, List, [], ◌∷◌, ◌++◌, length, map, take, get_or, Option, None, Some, option_map, refl, sym, ap, subst, ◌∙◌, append-nil}
use Rattle.std.specs.Prelude.{Result, Ok, Err, OnOk, OnErr, is_ok}
use Rattle.std.specs.List.{flat_map}
use Rattle.std.proofs.lemmas.List.{flat_map_more, take_all, take_more}
use Rattle.desk_outside.proofs.FolderFacts.{with_bytes-append}
use Rattle.desk_outside.specs.Causes.{HasOutsideCause}
use Rattle.desk_outside.specs.declared.failure.OutsideFault.{OutsideFault}
use Rattle.desk_outside.specs.declared.failure.OutsideFault.TheVariants.{Failed, OutOfMemory}
use Rattle.desk_outside.specs.Files.{StoredFile}
use Rattle.desk_outside.specs.Folders.{FolderContents, FolderState, finished_in, with_bytes, with_none_open}
use Rattle.destinations.specs.Writing.{AddsBytes, WriteEnd}
use Rattle.destinations.proofs.BufferLemmas.{finished_gathered}

-- ---- causes
not_failed : {T : Type 0} → ◌≡◌ {A = Result T OutsideFault} (Err OutOfMemory) (Err Failed) → ⊥
not_failed e = cc

-- a call before which nothing failed
pub cause_from : (before middle after : ℕ) (end : WriteEnd) → middle ≡ before → HasOutsideCause middle after end → HasOutsideCause before after end
cause_from before middle after end same cause = subst (λ (n : ℕ). HasOutsideCause n after end) same cause

pub memory_cause : (count : ℕ) → HasOutsideCause {T = Unit {0}} count count (Err OutOfMemory)
memory_cause count = record { later = omega arith; fine = tt; failed = λ e. absurd (not_failed {T = Unit {0}} e) }

-- ---- finished files
pub finished_closed : (known : Option FolderContents) → finished_in (option_map with_none_open known) ≡ finished_in known
finished_closed None = refl
finished_closed (Some folder) = refl

-- ---- pieces
no_bytes : (known : Option FolderContents) → known ≡ option_map (with_bytes []) known
no_bytes None = refl
no_bytes (Some folder) = ap Some (in_folder folder.opened)
  where
    in_folder : (opened : Option StoredFile) → record { finished = folder.finished; opened = opened } ≡ with_bytes [] (record { finished = folder.finished; opened = opened })
    in_folder None = refl
    in_folder (Some file) = ap (λ (bytes : List ℕ). record { finished = folder.finished; opened = Some (record { name = file.name; bytes = bytes }) }) (sym (append-nil file.bytes))

pub adds_nothing : (state : FolderState) → IsTrue state.is_open → AddsBytes [] state state (Ok tt)
adds_nothing state is_open = record {
  ok = no_bytes state.contents;
  is_open = is_open;
  kept = tt;
  same = refl;
  cause = record { later = omega arith; fine = refl; failed = λ e. absurd cc };
}

-- nothing was written, where memory does not suffice
pub adds_not : (bytes : List ℕ) (state : FolderState) → AddsBytes bytes state state (Err OutOfMemory)
adds_not bytes state = record { ok = tt; is_open = tt; kept = refl; same = refl; cause = memory_cause state.faults }

-- where writing stopped, whatever was to be written
pub adds_stopped : (xs ys : List ℕ) (old new : FolderState) (e : OutsideFault) → AddsBytes xs old new (Err e) → AddsBytes ys old new (Err e)
adds_stopped xs ys old new e adds = record { ok = tt; is_open = tt; kept = adds.kept; same = adds.same; cause = adds.cause }

-- a piece that is written whole
pub adds_written : (bytes : List ℕ) (old new : FolderState) (end : WriteEnd) → OnOk end (new.contents ≡ option_map (with_bytes bytes) old.contents)
    → OnErr end (new.contents ≡ option_map with_none_open old.contents) → new.is_open ≡ is_ok end → new.begun ≡ old.begun
    → HasOutsideCause old.faults new.faults end → AddsBytes bytes old new end
adds_written bytes old new (Ok u) ok closed is_open same cause =
    record { ok = ok; is_open = is_open; kept = tt; same = same; cause = cause }
adds_written bytes old new (Err e) ok closed is_open same cause =
    record { ok = tt; is_open = tt; kept = ap finished_in closed ∙ finished_closed old.contents; same = same; cause = cause }

-- a piece, and then what comes after it
pub adds_then : (xs ys : List ℕ) (old middle new : FolderState) (u : Unit {0}) (end : WriteEnd) → AddsBytes xs old middle (Ok u)
    → AddsBytes ys middle new end → AddsBytes (xs ++ ys) old new end
adds_then xs ys old middle new u (Ok v) first second = record {
  ok = second.ok ∙ ap (option_map (with_bytes ys)) first.ok ∙ with_bytes-append old.contents xs ys;
  is_open = second.is_open;
  kept = tt;
  same = second.same ∙ first.same;
  cause = cause_from old.faults middle.faults new.faults (Ok v) first.cause.fine second.cause;
}
adds_then xs ys old middle new u (Err e) first second = record {
  ok = tt;
  is_open = tt;
  kept = second.kept ∙ ap finished_in first.ok ∙ finished_gathered old.contents xs;
  same = second.same ∙ first.same;
  cause = cause_from old.faults middle.faults new.faults (Err e) first.cause.fine second.cause;
}

-- ---- lists
-- the text of a value more, after those of the values before it
pub adds_next : {X : Type 0} (text : X → List ℕ) (xs : List X) (i : ℕ) (x d : X) (start before after : FolderState) (u v : Unit {0})
    → i < length xs → x ≡ get_or xs i d → AddsBytes (flat_map text (take i xs)) start before (Ok u)
    → AddsBytes (text x) before after (Ok v) → AddsBytes (flat_map text (take (i + 1) xs)) start after (Ok v)
adds_next {X} text xs i x d start before after u v within is so_far added =
    let front : take i xs ++ x ∷ [] ≡ take (i + 1) xs =
    ap (λ (y : X). take i xs ++ y ∷ []) is ∙ sym (take_more xs i d within) in
    subst (λ (bytes : List ℕ). AddsBytes bytes start after (Ok v))
    (flat_map_more text [] (take i xs) x ∙ ap (flat_map text) front)
    (adds_then (flat_map text (take i xs)) (text x) start before after u (Ok v) so_far added)

-- where it stopped at a value
pub adds_until : (before_bytes bytes all : List ℕ) (start before after : FolderState) (u : Unit {0}) (e : OutsideFault)
    → AddsBytes before_bytes start before (Ok u) → AddsBytes bytes before after (Err e) → AddsBytes all start after (Err e)
adds_until before_bytes bytes all start before after u e so_far stopped =
    adds_stopped (before_bytes ++ bytes) all start after e (adds_then before_bytes bytes start before after u (Err e) so_far stopped)

-- the texts of values that are read from others
texts_of_mapped : {X Y : Type 0} (text : Y → List ℕ) (value : X → Y) (xs : List X) → flat_map (λ x. text (value x)) xs ≡ flat_map text (map value xs)
texts_of_mapped text value [] = refl
texts_of_mapped text value (x ∷ xs) = ap (λ (rest : List ℕ). text (value x) ++ rest) (texts_of_mapped text value xs)

-- the texts of all values, once there are no more
pub adds_whole : {X Y : Type 0} (text : Y → List ℕ) (value : X → Y) (xs : List X) (i : ℕ) (start after : FolderState) (end : WriteEnd) → length xs ≤ i
    → AddsBytes (flat_map (λ x. text (value x)) (take i xs)) start after end → AddsBytes (flat_map text (map value xs)) start after end
adds_whole {X} {Y} text value xs i start after end all written =
    subst (λ (bytes : List ℕ). AddsBytes bytes start after end)
    (ap (flat_map (λ (x : X). text (value x))) (take_all i xs all) ∙ texts_of_mapped text value xs) written

-- the elements of a list that is lent
pub within_lent : {X : Type 0} (lent xs : List X) (i : ℕ) → lent ≡ xs → i < length lent → i < length xs
within_lent {X} lent xs i same within = subst (λ (list : List X). i < length list) same within

pub is_lent : {X : Type 0} (lent xs : List X) (i : ℕ) (x d : X) → lent ≡ xs → x ≡ get_or lent i d → x ≡ get_or xs i d
is_lent {X} lent xs i x d same is = is ∙ ap (λ (list : List X). get_or list i d) same
