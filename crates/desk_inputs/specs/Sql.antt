-- Files of SQL.
use Rattle.std.specs.Prelude.{◌≡◌, ℕ, List, []}
use Rattle.desk_inputs.specs.declared.sql.TheConstants.{MOST_SQL_BYTES}
use Rattle.desk_inputs.specs.FileKinds.{FileKind}

-- a file of SQL means its bytes, and none is refused here
abbrev pub sql_file : FileKind (List ℕ) ⊥
sql_file = record {
  limit = MOST_SQL_BYTES;
  means = λ bytes value. value ≡ bytes;
  refuses = λ bytes refusal. ⊥;
  refusal_text = λ name refusal. [];
}
