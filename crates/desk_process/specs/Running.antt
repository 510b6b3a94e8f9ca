-- The words that the program hands to the desk, and the number that it ends with: for `main`.
use Rattle.std.specs.Prelude.{ℕ, List, [], map, drop, Result, Ok, Err, Vec, String, string_bytes}
use Rattle.dep_model.specs.declared.memory.OutOfMemory.{OutOfMemory}
use Rattle.desk_responses.specs.declared.status.Status.{Status}
use Rattle.desk_responses.specs.declared.status.Status.TheVariants.{Yes, No, Refused, CannotRead, CannotWrite}
use Rattle.desk_responses.specs.declared.status.Status.TheVariants.{DestinationFailed}

-- the words of arguments, of which the first is the program's name, or none where they are no texts
abbrev pub words_in : {A B E : Type 0} → Result (Vec (String A) B) E → List (List ℕ)
words_in (Ok arguments) = drop 1 (map string_bytes arguments.items)
words_in (Err error) = []

-- the number of each way to end
abbrev pub exit_number : Result Status OutOfMemory → ℕ
exit_number (Ok Yes) = 0
exit_number (Ok No) = 1
exit_number (Ok Refused) = 2
exit_number (Ok CannotRead) = 3
exit_number (Ok CannotWrite) = 4
exit_number (Ok DestinationFailed) = 5
exit_number (Err error) = 6
