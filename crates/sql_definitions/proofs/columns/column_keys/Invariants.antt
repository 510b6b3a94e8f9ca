-- What the loop of `column_keys` keeps: what is left, with the facts then known, comes to the same; and by what it ends.
use Rattle.std.proofs.Common.{◌≡◌, Some, length}
use Rattle.sql_definitions.specs.Elements.{column_keys}
use Rattle.sql_definitions.proofs.columns.column_keys.Given as goal

abbrev pub invariant-loop-rest : goal.invariant-loop-rest
invariant-loop-rest l =
    column_keys (record { place = l.place; name = Some l.name }) l.lexemes l.fn.definition
    ≡ column_keys (record { place = l.place; name = Some l.name }) l.rest l.definition

abbrev pub decreases-loop-rest : goal.decreases-loop-rest
decreases-loop-rest l = length l.rest
