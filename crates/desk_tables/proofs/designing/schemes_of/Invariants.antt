-- What the loop of `schemes_of` keeps: `schemes`.
use Rattle.std.proofs.Common.{◌≡◌, take}
use Rattle.dep_model.specs.Plans.{schemes_of}
use Rattle.table_join.specs.Tables.{plan_of_tables, tables_of}
use Rattle.desk_tables.proofs.designing.schemes_of.Given as goal

-- the schemes of the parts so far
abbrev pub invariant-loop-part : goal.invariant-loop-part
invariant-loop-part l = record {
  schemes : schemes_of l.schemes.items ≡ plan_of_tables (tables_of (take l.part-index l.parts));
}
