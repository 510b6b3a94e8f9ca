-- What the loop of `keys_of` keeps: what is left, after the keys so far, comes to the same; and by what it ends.
use Rattle.std.specs.Prelude.{map}
use Rattle.std.proofs.Common.{◌≡◌, length}
use Rattle.sql_schemas.specs.KeyValues.{key_columns}
use Rattle.sql_schemas.specs.Keys.{keys_after, keys_of}
use Rattle.sql_schemas.proofs.keys.keys_of.Given as goal

abbrev pub invariant-loop-rest : goal.invariant-loop-rest
invariant-loop-rest l = keys_of l.definition ≡ keys_after l.definition.columns (map key_columns l.keys.items) l.rest

abbrev pub decreases-loop-rest : goal.decreases-loop-rest
decreases-loop-rest l = length l.rest
