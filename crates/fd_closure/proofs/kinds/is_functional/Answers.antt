-- Whether all are functional: where the loop ends none is multivalued.
use Rattle.std.proofs.Common.{◌≡◌, true, take_all, List, refl, sym, ◌∙◌, ap, subst}
use Rattle.std.proofs.lemmas.Bool.{false≢true, true≢false}
use Rattle.std.proofs.lemmas.List.Elements.{All-more}
use Rattle.std.specs.Prelude.{All}
use Rattle.dep_model.specs.declared.dep.Dep.{Dep}
use Rattle.dep_model.specs.declared.dep.Dep.TheVariants.{Fd}
use Rattle.dep_model.specs.Dependencies.{Dependency, is_fd}
use Rattle.dep_model.specs.Deps.{dependency_of, dependencies_of}
use Rattle.dep_model.proofs.DepLemmas.{dependencies_all-to, functional_list}
use Rattle.fd_closure.proofs.ClosedSets.{all_functional}
use Rattle.fd_closure.proofs.kinds.is_functional.Goals as goal

pub loop-dep-preserved : goal.loop-dep-preserved
loop-dep-preserved c =
    let first : Dep = Fd (record { 0 = 0 }) (record { 0 = 0 }) in
    All-more (λ (d : Dep). is_fd (dependency_of d) ≡ true) c.args.deps.now c.loop-dep.dep-index first c.loop-dep-test.true c.loop-dep.invariant
    (ap (λ (d : Dep). is_fd (dependency_of d)) c.in_default.is)

pub returns-in-Mvd : goal.returns-in-Mvd
returns-in-Mvd c =
    record {
      functional = (
        (λ e. absurd (false≢true e)),
        (λ same.
            let all = dependencies_all-to (λ (d : Dependency). is_fd d ≡ true) c.args.deps.now (all_functional (dependencies_of c.args.deps.now) same) in
            absurd (true≢false (sym (all c.loop-dep.dep-index _ c.loop-dep-test.true) ∙ ap (λ (d : Dep). is_fd (dependency_of d)) c.in-Mvd.is))),
      );
    }

pub returns : goal.returns
returns c =
    let all : All (λ (d : Dep). is_fd (dependency_of d) ≡ true) c.args.deps.now =
    subst (λ (ds : List Dep). All (λ (d : Dep). is_fd (dependency_of d) ≡ true) ds) (take_all c.loop-dep.dep-index c.args.deps.now c.loop-dep-test.false) c.loop-dep.invariant in
    record { functional = ((λ _. functional_list c.args.deps.now all), (λ _. refl)) }
