-- Each fault that is answered was one: what a call does to its object's error count. For the
-- traits of desk_outside and for destinations; `Desk` cites `ErrorCountIncreased` and `TookPart`.
use Rattle.std.specs.Prelude.{◌≡◌, ◌⊎◌, ℕ, ◌+◌, ◌-◌, ◌^◌, ◌<◌, ◌≤◌, min, List, length, take, Option, Result, OnOk, OnErr, Ok, Err, Bool, true, false}
use Rattle.std.specs.Io.KnownBytes.{append_known}
use Rattle.desk_outside.specs.declared.failure.OutsideFault.{OutsideFault}
use Rattle.desk_outside.specs.declared.failure.OutsideFault.TheVariants.{Failed, OutOfMemory}
use Rattle.desk_outside.specs.declared.failure.LoadRefusal.{LoadRefusal}
use Rattle.desk_outside.specs.declared.failure.LoadRefusal.TheVariants as refusal
use Rattle.desk_outside.specs.Files.{Files, IsMissing}

-- the last value of a counter, where it stands still
abbrev pub last_count : ℕ
last_count = 2 ^ 64 - 1

-- a counter after n more
abbrev pub count_on : ℕ → ℕ → ℕ
count_on count n = min (count + n) last_count

-- the count is greater than before, or stands at the last value of a counter
abbrev pub ErrorCountIncreased : ℕ → ℕ → Type 0
ErrorCountIncreased before now = count_on before 1 ≤ now

-- a call's faults: the count has not fallen, at an error it increased, and at Ok it is as before
pub record HasCause {T E : Type 0} (before now : ℕ) (result : Result T E) : Type 0 where
  pub later : before ≤ now
  pub fine : OnOk result (now ≡ before)
  pub failed : OnErr result (ErrorCountIncreased before now)

-- The faults of a call that begins a file: the count has not fallen, at `Failed` it increased or the
-- file source lacks the file, and at Ok it is as before. A missing file is `Failed`, and raises
-- no count.
pub record HasBeginCause (files : Option Files) (name : List ℕ) (before now : ℕ)
    (result : Result (Unit {0}) OutsideFault) : Type 0 where
  pub later : before ≤ now
  pub fine : OnOk result (now ≡ before)
  pub failed : result ≡ Err Failed → ErrorCountIncreased before now ⊎ IsMissing files name
  pub missing : IsMissing files name → (result ≡ Err Failed) × (now ≡ before)

-- after the known bytes stand these, but not all of them: a part from their front
abbrev pub TookPart : Option (List ℕ) → List ℕ → Option (List ℕ) → Type 0
TookPart old bytes new = (n : ℕ) × (n < length bytes) × (new ≡ append_known old (take n bytes))

-- the refusal of `load` for a fault of `begin`
abbrev pub refusal_of : OutsideFault → LoadRefusal
refusal_of Failed = refusal.CannotRead
refusal_of OutOfMemory = refusal.OutOfMemory

-- the faults of a call that may run out of memory: the count has not fallen, at `Failed` it increased,
-- and at Ok it is as before
pub record HasOutsideCause {T : Type 0} (before now : ℕ) (result : Result T OutsideFault) : Type 0 where
  pub later : before ≤ now
  pub fine : OnOk result (now ≡ before)
  pub failed : result ≡ Err Failed → ErrorCountIncreased before now

-- whether a call failed, and did not only run out of memory
abbrev pub is_failed : {T : Type 0} → Result T OutsideFault → Bool
is_failed (Ok _) = false
is_failed (Err Failed) = true
is_failed (Err OutOfMemory) = false
