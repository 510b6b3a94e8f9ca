-- What the loop of `Draft::list_names` keeps; and by what it ends.
use Rattle.std.proofs.Common.{◌≡◌, ◌≤◌, false, length}
use Rattle.attr_sets.specs.declared.set.TheConstants.{MOST_ATTRIBUTES}
use Rattle.schema_grammar.specs.Declarations.{list_names_rest}
use Rattle.schema_reader.specs.Views.{declarations_of_draft}
use Rattle.tokens.specs.Views.{rest_of, bytes_left}
use Rattle.schema_reader.proofs.draft.Draft.list_names.Given as goal

-- to read what is left of a line of names is to read the whole; there is room for their numbers
abbrev pub invariant-names : goal.invariant-names
invariant-names l =
    (list_names_rest l.format l.purpose (declarations_of_draft l.fn.self) false (rest_of l.fn.start)
    ≡ list_names_rest l.format l.purpose (declarations_of_draft l.self) l.any_name (rest_of l.rest))
    × (length (declarations_of_draft l.self).names ≤ MOST_ATTRIBUTES)

abbrev pub decreases-names : goal.decreases-names
decreases-names l = bytes_left l.rest
