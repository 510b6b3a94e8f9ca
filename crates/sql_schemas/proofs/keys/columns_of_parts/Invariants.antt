-- What the loop of `columns_of_parts` keeps: what is left, after the columns so far, comes to the same; and by what it
-- ends.
use Rattle.std.proofs.Common.{◌≡◌, length}
use Rattle.attr_sets.specs.Attributes.{none}
use Rattle.attr_sets.specs.Sets.{attributes}
use Rattle.sql_schemas.specs.Keys.{columns_of_parts}
use Rattle.sql_schemas.proofs.keys.columns_of_parts.Given as goal

abbrev pub invariant-loop-rest : goal.invariant-loop-rest
invariant-loop-rest l =
    columns_of_parts l.columns none l.parts ≡ columns_of_parts l.columns (attributes l.set) l.rest

abbrev pub decreases-loop-rest : goal.decreases-loop-rest
decreases-loop-rest l = length l.rest
