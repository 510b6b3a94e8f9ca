-- What the loop of `add_integers` keeps, in terms of `value_text`.
use Rattle.std.proofs.Common.{◌≡◌, ◌++◌}
use Rattle.std.specs.List.{flat_map, range_with_len}
use Rattle.sql_scripts.specs.Checking.{value_text}
use Rattle.sql_scripts.proofs.integers.add_integers.Given as goal

-- the queries of the attributes so far
abbrev pub invariant-loop-attribute : goal.invariant-loop-attribute
invariant-loop-attribute l =
    l.text.items ≡ l.fn.text.items ++ flat_map (value_text l.schema l.table) (range_with_len 0 l.attribute)
