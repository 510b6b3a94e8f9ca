-- What the loop of `undoubled` keeps: what was added and what is left are the whole; and by what it ends.
use Rattle.std.proofs.Common.{◌≡◌, ◌++◌, false, length}
use Rattle.sql_definitions.specs.Names.{undoubled}
use Rattle.sql_definitions.proofs.names.undoubled.Given as goal

abbrev pub invariant-loop-rest : goal.invariant-loop-rest
invariant-loop-rest l = l.name.items ++ undoubled l.quote l.after l.rest ≡ undoubled l.quote false l.text

abbrev pub decreases-loop-rest : goal.decreases-loop-rest
decreases-loop-rest l = length l.rest
