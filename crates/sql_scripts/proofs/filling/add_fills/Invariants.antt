-- What the loop of `add_fills` keeps, in terms of `fill_text`.
use Rattle.std.proofs.Common.{◌≡◌, ◌++◌, take}
use Rattle.std.specs.List.{flat_map}
use Rattle.sql_scripts.specs.Migrating.{fill_text}
use Rattle.sql_scripts.proofs.filling.add_fills.Given as goal

-- the statements so far
abbrev pub invariant-loop-design : goal.invariant-loop-design
invariant-loop-design l = l.text.items
    ≡ l.fn.text.items ++ flat_map (fill_text l.schema) (take l.design-index l.designs)
