-- What is left to prove of `see_sets_of_all`: that a round of its loop keeps the invariant, and its clause.
use Rattle.std.proofs.Common.{List, take_all, subst, All}
use Rattle.std.proofs.lemmas.List.Elements.{All-more}
use Rattle.dep_model.specs.declared.dep.Dep.{Dep}
use Rattle.dep_model.specs.declared.dep.Dep.TheVariants.{Fd}
use Rattle.schema_model.specs.Validity.{HasSetNumbers}
use Rattle.schema_model.proofs.schema.see_sets_of_all.Goals as goal

pub loop-dep-preserved : goal.loop-dep-preserved
loop-dep-preserved c =
    let nothing : Dep = Fd (record { 0 = 0 }) (record { 0 = 0 }) in
    All-more HasSetNumbers c.args.deps.now c.loop-dep.dep-index nothing c.loop-dep-test.true c.loop-dep.invariant c.see_sets.ensures.numbers

pub returns : goal.returns
returns c = record {
  numbers = subst (λ (l : List Dep). All HasSetNumbers l) (take_all c.loop-dep.dep-index c.args.deps.now c.loop-dep-test.false) c.loop-dep.invariant;
}
