-- What is left to prove of `take_likely_steps`: its clause at a functional dependency, which is that of `equate_likely`.
use Rattle.std.proofs.Common.{OnOk, sym, subst}
use Rattle.dep_model.specs.declared.dep.Dep.{Dep}
use Rattle.dep_model.specs.Deps.{dependency_of}
use Rattle.tableau_chase.specs.Equating.{FollowsBy}
use Rattle.tableau_chase.proofs.following.take_likely_steps.Goals as goal

pub returns-in-Fd : goal.returns-in-Fd
returns-in-Fd c = record {
  follows = subst (λ (d : Dep). OnOk c.equate_likely.result (FollowsBy (dependency_of d) c.args.rows.now c.equate_likely.new.rows)) (sym c.in-Fd.is) c.equate_likely.ensures.follows;
}
