-- What the loop of `elements` keeps: what is left, with the facts then known, comes to the same; and by what it ends.
use Rattle.std.proofs.Common.{◌≡◌, ◌≤◌, ◌-◌, drop, length}
use Rattle.sql_definitions.specs.Tables.{elements}
use Rattle.sql_definitions.proofs.tables.elements.Given as goal

abbrev pub invariant-elements : goal.invariant-elements
invariant-elements l =
    (elements l.dialect l.end 0 l.lexemes l.fn.definition ≡ elements l.dialect l.end 0 (drop l.at l.lexemes) l.definition)
    × (l.at ≤ length l.lexemes)

abbrev pub decreases-elements : goal.decreases-elements
decreases-elements l = length l.lexemes - l.at
