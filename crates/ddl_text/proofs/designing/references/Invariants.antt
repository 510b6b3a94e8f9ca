-- What the loop of `references` keeps: `AreReferences`.
use Rattle.std.proofs.Common.{take}
use Rattle.attr_sets.specs.Sets.{attributes}
use Rattle.ddl_text.specs.Designs.{AreReferences}
use Rattle.ddl_text.proofs.designing.references.Given as goal

-- the references among the tables so far
abbrev pub invariant-loop-j : goal.invariant-loop-j
invariant-loop-j l = AreReferences (take l.j l.earlier) (attributes l.scheme) l.refs.items
