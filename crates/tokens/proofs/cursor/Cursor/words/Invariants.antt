-- What the loop of `Cursor::words` keeps: `GoesOn`; and by what it ends.
use Rattle.attr_sets.specs.Sets.{attributes}
use Rattle.tokens.specs.Views.{names_in, rest_of, bytes_left}
use Rattle.tokens.proofs.WordLemmas.{GoesOn}
use Rattle.tokens.proofs.cursor.Cursor.words.Given as goal

abbrev pub invariant-words : goal.invariant-words
invariant-words l = GoesOn (names_in l.names) (attributes l.fn.set) (rest_of l.fn.self) (attributes l.set) (rest_of l.rest)

abbrev pub decreases-words : goal.decreases-words
decreases-words l = bytes_left l.rest
