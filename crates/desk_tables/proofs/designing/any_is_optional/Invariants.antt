-- What the loop of `any_is_optional` keeps: `none`.
use Rattle.std.proofs.Common.{◌≡◌, take, false}
use Rattle.std.specs.List.{list_any}
use Rattle.attr_sets.specs.Sets.{attributes}
use Rattle.optional_tables.specs.Homes.{is_optional}
use Rattle.desk_tables.proofs.designing.any_is_optional.Given as goal

-- none of the tables so far is optional
abbrev pub invariant-loop-k : goal.invariant-loop-k
invariant-loop-k l = record { none : list_any (is_optional (attributes l.nullable)) (take l.k l.keyed) ≡ false }
