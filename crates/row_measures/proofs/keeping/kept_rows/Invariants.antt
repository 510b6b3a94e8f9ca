-- What the loop of `kept_rows` keeps: the rows that the dependencies so far do not remove.
use Rattle.std.proofs.Common.{take}
use Rattle.dep_model.specs.Deps.{dependencies_of}
use Rattle.row_measures.specs.Answers.{AreKeptFlags}
use Rattle.row_measures.proofs.keeping.kept_rows.Given as goal

abbrev pub invariant-loop-dep : goal.invariant-loop-dep
invariant-loop-dep l = record { kept : AreKeptFlags (dependencies_of (take l.dep-index l.deps)) l.rows l.kept.items }
