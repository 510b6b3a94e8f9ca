-- What the loop of `is_table_file` keeps: the name is that of no file of the tables so far.
use Rattle.std.proofs.Common.{◌≡◌, ℕ, ◌<◌, false}
use Rattle.table_names.specs.TableNames.{name_of_table}
use Rattle.desk_tables.specs.Overwriting.{is_file_of, plain_name}
use Rattle.desk_tables.proofs.overwriting.is_table_file.Given as goal

abbrev pub invariant-loop-i : goal.invariant-loop-i
invariant-loop-i l =
    record { none : (k : ℕ) → k < l.i → is_file_of (name_of_table l.names k) (plain_name l.name) ≡ false }
