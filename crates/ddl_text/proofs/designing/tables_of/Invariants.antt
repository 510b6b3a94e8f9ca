-- What the loop of `tables_of` keeps: `IsDesign`.
use Rattle.std.proofs.Common.{take}
use Rattle.ddl_text.specs.Designs.{IsDesign}
use Rattle.ddl_text.proofs.designing.tables_of.Given as goal

-- the tables of the schemes so far
abbrev pub invariant-loop-scheme : goal.invariant-loop-scheme
invariant-loop-scheme l = IsDesign l.schema l.names (take l.scheme-index l.schemes) l.tables.items
