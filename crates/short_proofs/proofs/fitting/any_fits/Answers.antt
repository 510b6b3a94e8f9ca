-- What is left to prove of `any_fits`: that a round of its loop keeps the invariant, and what it answers at its end.
use Rattle.std.proofs.Common.{take_all}
use Rattle.std.proofs.lemmas.List.Elements.{All-more}
use Rattle.attr_sets.specs.Sets.{attributes}
use Rattle.dep_model.specs.declared.dep.Dep.{Dep}
use Rattle.dep_model.specs.declared.dep.Dep.TheVariants.{Fd}
use Rattle.dep_model.proofs.DepLemmas.{dependencies_all-from}
use Rattle.dep_model.specs.Dependencies.{Dependency}
use Rattle.dep_model.specs.Deps.{dependency_of}
use Rattle.short_proofs.specs.Short.{FitBeyond}
use Rattle.short_proofs.proofs.fitting.any_fits.Goals as goal

pub loop-dep-preserved : goal.loop-dep-preserved
loop-dep-preserved c =
    let nothing : Dep = Fd (record { 0 = 0 }) (record { 0 = 0 }) in
    All-more (λ (d : Dep). FitBeyond (attributes c.args.rest) (dependency_of c.args.goal) (attributes c.args.middle) (dependency_of d) → ⊥) c.args.deps.now c.loop-dep.dep-index nothing
    c.loop-dep-test.true c.loop-dep.invariant (c.fits.ensures.none c.if-fits.false)

pub returns : goal.returns
returns c = record {
  none = λ no. dependencies_all-from (λ (e : Dependency). FitBeyond (attributes c.args.rest) (dependency_of c.args.goal) (attributes c.args.middle) e → ⊥) c.args.deps.now
      (rw (take_all c.loop-dep.dep-index c.args.deps.now c.loop-dep-test.false) at c.loop-dep.invariant);
}
