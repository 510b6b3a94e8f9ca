-- What the loop of `read_words` keeps, in terms of `read_words_rest`, `names_in`, `rest_of` and one
-- more; and by what it ends.
use Rattle.std.proofs.Common.{◌≡◌, true}
use Rattle.attr_sets.specs.Attributes.{none}
use Rattle.attr_sets.specs.Sets.{attributes}
use Rattle.plan_grammar.specs.Reading.{read_words_rest}
use Rattle.tokens.specs.Views.{names_in, rest_of, bytes_left}
use Rattle.plan_reader.proofs.reading.read_words.Given as goal

-- to read the words that are left is to read all of them
abbrev pub invariant-words : goal.invariant-words
invariant-words l =
    read_words_rest (names_in l.names) true none (rest_of l.fn.start)
    ≡ read_words_rest (names_in l.names) l.first (attributes l.set) (rest_of l.rest)

abbrev pub decreases-words : goal.decreases-words
decreases-words l = bytes_left l.rest
