-- What the loop of `read_columns` keeps: `read`; and by what it ends.
use Rattle.tokens.specs.Views.{bytes_left, rest_of}
use Rattle.desk_references.proofs.ReadingLemmas.{AreRead}
use Rattle.desk_references.proofs.columns.read_columns.Given as goal

-- the tokens so far
abbrev pub invariant-columns : goal.invariant-columns
invariant-columns l = record { read : AreRead l.names l.text l.columns.items (rest_of l.rest) }

abbrev pub decreases-columns : goal.decreases-columns
decreases-columns l = bytes_left l.rest
