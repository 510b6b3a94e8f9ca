-- What follows of calls that open files, one after the other.
use Rattle.std.proofs.Common.{ℕ, arith, List, ◌++◌, Result, Ok, Err, inl, refl, ◌∙◌}
use Rattle.desk_outside.specs.declared.file_source.FileSource.{Ghosts as FileSource}
use Rattle.desk_responses.specs.declared.response.EarlyExit.{EarlyExit}
use Rattle.desk_responses.specs.declared.response.Response.{Response}
use Rattle.desk_responses.specs.ResponseValues.{Allowed, With}
use Rattle.desk_responses.specs.Responses.{RespondsAs}
use Rattle.desk_responses.proofs.StepLemmas.{With-found}
use Rattle.desk_inputs.specs.FileCalls.{Opens, Reads}
use Rattle.desk_inputs.specs.Readings.{Reading}
use Rattle.desk_inputs.proofs.BegunLemmas.{front_later, front_longer, front_none}
use Rattle.desk_inputs.proofs.ReadingLemmas.{Shows-later}

-- a call that reads nothing
pub reads_none : {S : Type 0} {source : FileSource S} {old : S} {names : List (List ℕ)} {Holds : Reading → Type 0} → ((r : Reading) → Holds r)
    → Reads source old old names Holds
reads_none {S} {source} {old} {names} {Holds} holds = record {
  files = refl;
  later = omega arith;
  begins = front_none names (source.begun old);
  ends = λ r shows. holds r;
}

-- what holds under each reading may be said otherwise
pub reads_so : {S : Type 0} {source : FileSource S} {old new : S} {names : List (List ℕ)} {Holds : Reading → Type 0} (Also : Reading → Type 0) → ((r : Reading) → Holds r → Also r)
    → Reads source old new names Holds → Reads source old new names Also
reads_so {S} {source} {old} {new} {names} {Holds} Also so reads = record {
  files = reads.files;
  later = reads.later;
  begins = reads.begins;
  ends = λ r shows. so r (reads.ends r shows);
}

-- the reading of files ends a command
pub not_opened : {S V W : Type 0} {source : FileSource S} {old new : S} {names : List (List ℕ)} {Means : Reading → W → Type 0} {Stops : Reading → Allowed} {view : V → W} {exit : EarlyExit}
    (rest : Reading → W → Allowed) → Opens source old new names Means Stops view (Err exit)
    → Reads source old new names (λ r. RespondsAs (With (Stops r) (Means r) (rest r)) (Err exit))
not_opened {S} {V} {W} {source} {old} {new} {names} {Means} {Stops} {view} {exit} rest opens = record {
  files = opens.reads.files;
  later = opens.reads.later;
  begins = opens.reads.begins;
  ends = λ r shows response is. inl (opens.reads.ends r shows response is);
}

-- the reading of files ends a command, and others that were to be read after them are not begun
pub stopped : {S V W : Type 0} {source : FileSource S} {old new : S} {names : List (List ℕ)} {Means : Reading → W → Type 0} {Stops : Reading → Allowed} {view : V → W} {exit : EarlyExit}
    (more : List (List ℕ)) (rest : Reading → W → Allowed) → Opens source old new names Means Stops view (Err exit)
    → Reads source old new (names ++ more) (λ r. RespondsAs (With (Stops r) (Means r) (rest r)) (Err exit))
stopped {S} {V} {W} {source} {old} {new} {names} {Means} {Stops} {view} {exit} more rest opens = record {
  files = opens.reads.files;
  later = opens.reads.later;
  begins = front_longer names more (source.begun old) (source.begun new) opens.reads.begins;
  ends = λ r shows response is. inl (opens.reads.ends r shows response is);
}

-- files were opened, and others are read
pub opened_then : {S V W : Type 0} {source : FileSource S} {old mid new : S} {names more : List (List ℕ)} {Means : Reading → W → Type 0} {Stops : Reading → Allowed} {view : V → W} {value : V}
    (rest : Reading → W → Allowed) (result : Result Response EarlyExit) → Opens source old mid names Means Stops view (Ok value)
    → Reads source mid new more (λ r. RespondsAs (rest r (view value)) result)
    → Reads source old new (names ++ more) (λ r. RespondsAs (With (Stops r) (Means r) (rest r)) result)
opened_then {S} {V} {W} {source} {old} {mid} {new} {names} {more} {Means} {Stops} {view} {value} rest result opens after = record {
  files = after.files ∙ opens.reads.files;
  later = omega (arith, opens.reads.later, after.later);
  begins = front_later names more (source.begun old) (source.begun mid) (source.begun new) opens.begins after.begins;
  ends = λ r shows.
      With-found (Stops r) (Means r) (rest r) (view value) result (opens.ok r shows.same)
      (after.ends r (Shows-later source old mid new r names shows opens.reads.files opens.reads.later opens.begins));
}

-- files were opened, and it is answered
pub opened : {S V W : Type 0} {source : FileSource S} {old new : S} {names : List (List ℕ)} {Means : Reading → W → Type 0} {Stops : Reading → Allowed} {view : V → W} {value : V}
    (rest : W → Allowed) (result : Result Response EarlyExit) → Opens source old new names Means Stops view (Ok value)
    → RespondsAs (rest (view value)) result → Reads source old new names (λ r. RespondsAs (With (Stops r) (Means r) rest) result)
opened {S} {V} {W} {source} {old} {new} {names} {Means} {Stops} {view} {value} rest result opens answers = record {
  files = opens.reads.files;
  later = opens.reads.later;
  begins = opens.reads.begins;
  ends = λ r shows. With-found (Stops r) (Means r) rest (view value) result (opens.ok r shows.same) answers;
}
