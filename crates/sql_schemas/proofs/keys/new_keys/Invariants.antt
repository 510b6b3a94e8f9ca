-- What the loop of `new_keys` keeps: what is left, after the keys so far, comes to the same; and by what it ends.
use Rattle.std.specs.Prelude.{map}
use Rattle.std.proofs.Common.{◌≡◌, [], length}
use Rattle.attr_sets.specs.Sets.{attributes}
use Rattle.sql_schemas.specs.KeyValues.{key_columns}
use Rattle.sql_schemas.specs.Keys.{new_keys}
use Rattle.sql_schemas.proofs.keys.new_keys.Given as goal

abbrev pub invariant-loop-rest : goal.invariant-loop-rest
invariant-loop-rest l =
    new_keys l.n (attributes l.missing) [] (map key_columns l.keys)
    ≡ new_keys l.n (attributes l.missing) (map key_columns l.kept.items) (map key_columns l.rest)

abbrev pub decreases-loop-rest : goal.decreases-loop-rest
decreases-loop-rest l = length l.rest
