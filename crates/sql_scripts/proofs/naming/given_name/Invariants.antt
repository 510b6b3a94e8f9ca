-- What the loop of `given_name` keeps: the first name of all that is this one is the first of what is left; and by what
-- it ends.
use Rattle.std.proofs.Common.{◌≡◌, length}
use Rattle.std.specs.List.{find}
use Rattle.table_names.specs.TableNames.{is_given}
use Rattle.sql_scripts.proofs.naming.given_name.Given as goal

abbrev pub invariant-loop-rest : goal.invariant-loop-rest
invariant-loop-rest l = find (is_given l.bytes) l.rest ≡ find (is_given l.bytes) l.names

abbrev pub decreases-loop-rest : goal.decreases-loop-rest
decreases-loop-rest l = length l.rest
