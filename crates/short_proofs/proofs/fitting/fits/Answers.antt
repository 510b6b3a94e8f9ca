-- What is left to prove of `fits`: its clause by the kinds of the goal and the dependency.
use Rattle.std.proofs.Common.{subst}
use Rattle.attr_sets.specs.Sets.{attributes}
use Rattle.dep_model.specs.declared.dep.Dep.{Dep}
use Rattle.dep_model.specs.Deps.{dependency_of}
use Rattle.short_proofs.specs.Short.{FitBeyond}
use Rattle.short_proofs.proofs.fitting.fits.Goals as goal

pub returns-in-Mvd-default : goal.returns-in-Mvd-default
returns-in-Mvd-default c = record {
  none = λ no fit.
      c.reaches.ensures.none no
      (subst (λ (g : Dep). FitBeyond (attributes c.args.rest) (dependency_of g) (attributes c.args.middle) (dependency_of c.args.dep)) c.in-Mvd-default.is-0 fit);
}

pub returns-in-Fd-Fd : goal.returns-in-Fd-Fd
returns-in-Fd-Fd c = record {
  none = λ no fit.
      let w = attributes c.args.middle in
      let one = subst (λ (g : Dep). FitBeyond (attributes c.args.rest) (dependency_of g) w (dependency_of c.args.dep)) c.in-Fd-Fd.is-0 fit in
      let two = subst (λ (e : Dep). FitBeyond (attributes c.args.rest) (dependency_of (Dep.Fd c.in-Fd-Fd.lhs c.in-Fd-Fd.rhs)) w (dependency_of e)) c.in-Fd-Fd.is-1 one in
      c.coalesces.ensures.none no two;
}
