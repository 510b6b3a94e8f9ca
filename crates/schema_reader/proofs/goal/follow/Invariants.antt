-- What the loop of `follow` keeps, in terms of `follow_rest`, `reached_of`, `names_in` and two
-- more; and by what it ends.
use Rattle.std.proofs.Common.{◌≡◌}
use Rattle.schema_grammar.specs.Reading.{follow_rest}
use Rattle.schema_reader.specs.Views.{reached_of}
use Rattle.tokens.specs.Views.{names_in, rest_of, bytes_left}
use Rattle.schema_reader.proofs.goal.follow.Given as goal

-- to follow what is left of a dependency is to follow the whole
abbrev pub invariant-tokens : goal.invariant-tokens
invariant-tokens l =
    follow_rest l.format (names_in l.names) (reached_of l.fn.stage) (rest_of l.fn.start)
    ≡ follow_rest l.format (names_in l.names) (reached_of l.stage) (rest_of l.rest)

abbrev pub decreases-tokens : goal.decreases-tokens
decreases-tokens l = bytes_left l.rest
