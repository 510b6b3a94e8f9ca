-- Quoted names one after the other.
use Rattle.std.proofs.Common.{◌≡◌, ◌++◌, take}
use Rattle.sql_syntax.specs.Names.{quoted_name, comma_list}
use Rattle.sql_syntax.proofs.name_list.add_names.Given as goal

-- the names so far
abbrev pub invariant-loop-i : goal.invariant-loop-i
invariant-loop-i l = l.text.items ≡ l.fn.text.items ++ comma_list quoted_name (take l.i l.names)
