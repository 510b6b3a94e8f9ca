-- What the laws of `begun` say: of the last name that was begun. `Desk` does not cite it.
use Rattle.std.specs.Prelude.{◌≡◌, ℕ, List, [], ◌∷◌, ◌++◌, Option, Some}
use Rattle.desk_outside.specs.Files.{Files}
use Rattle.desk_cli.specs.Desk.{IsLastBegun}

-- where it is known just which names a file source has begun, the last of them is one that `Desk` takes for the
-- last: no other file is said to be unreadable
abbrev pub LastOfTheNamesIsTaken : Type 0
LastOfTheNamesIsTaken =
    (files files_after : Option Files) (faults faults_after taken : ℕ)
    (old earlier : List (List ℕ)) (name : List ℕ)
    → IsLastBegun
    (record {
      files = files;
      files_after = files_after;
      before = faults;
      after = faults_after;
      taken = taken;
      begun_before = λ names. old ≡ names;
      begun_after = λ names. old ++ (earlier ++ name ∷ []) ≡ names;
    })
    (Some name)
