-- What is left to prove of `ends_with`: that the last line states the goal.
use Rattle.std.proofs.Common.{◌-◌, arith, length}
use Rattle.dep_model.specs.Deps.{dependency_of}
use Rattle.short_derivations.proofs.PushedLines.{ends_at}
use Rattle.short_derivations.proofs.checking.ends_with.Goals as goal

pub returns-clause-concludes : goal.returns-clause-concludes
returns-clause-concludes c used =
    ends_at c.args.lines.now (length c.args.lines.now - 1) _ (dependency_of c.args.goal) (omega arith)
    (c.same_dep.ensures.same.0 c.if-not-same_dep.false)
