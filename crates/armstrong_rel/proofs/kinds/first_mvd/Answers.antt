-- What is left to prove of `first_mvd`: its clauses `first` and `none` and that a round of its loop
-- keeps the invariant.
use Rattle.std.proofs.Common.{◌≡◌, true, take, take_all, List, sym, ◌∙◌, ap, subst}
use Rattle.std.specs.Prelude.{All, Some, option_map}
use Rattle.std.proofs.lemmas.Option.{slice_get-map, slice_get-get_or}
use Rattle.std.proofs.lemmas.List.{take-map}
use Rattle.std.proofs.lemmas.List.Elements.{All-more, All-map}
use Rattle.attr_sets.specs.Sets.{attributes}
use Rattle.dep_model.specs.declared.dep.Dep.{Dep}
use Rattle.dep_model.specs.declared.dep.Dep.TheVariants.{Fd}
use Rattle.dep_model.specs.Dependencies.{Dependency, is_fd}
use Rattle.dep_model.specs.Deps.{dependency_of}
use Rattle.armstrong_rel.proofs.kinds.first_mvd.Goals as goal
use Rattle.dep_model.proofs.DepLemmas.{functional_list}

pub loop-k-preserved : goal.loop-k-preserved
loop-k-preserved c =
    let first : Dep = Fd (record { 0 = 0 }) (record { 0 = 0 }) in
    All-more (λ (d : Dep). is_fd (dependency_of d) ≡ true) c.args.deps.now c.loop-k.k first c.loop-k-test.true
    c.loop-k.invariant
    (ap (λ (d : Dep). is_fd (dependency_of d)) c.in_default.is)

pub returns-in-Mvd-clause-first : goal.returns-in-Mvd-clause-first
returns-in-Mvd-clause-first c =
    let first : Dep = Fd (record { 0 = 0 }) (record { 0 = 0 }) in
    let deps = c.args.deps.now in
    let k = c.loop-k.k in
    record {
      lhs = attributes c.in-Mvd.lhs;
      rhs = attributes c.in-Mvd.rhs;
      given = slice_get-map dependency_of deps k
          ∙ ap (option_map dependency_of) (slice_get-get_or deps k first c.loop-k-test.true)
          ∙ ap (λ (d : Dep). Some (dependency_of d)) c.in-Mvd.is;
      earlier = subst (λ (ds : List Dependency). All (λ (d : Dependency). is_fd d ≡ true) ds)
          (sym (take-map dependency_of k deps))
          (All-map (λ (d : Dependency). is_fd d ≡ true) dependency_of (take k deps) c.loop-k.invariant);
    }

pub returns-clause-none : goal.returns-clause-none
returns-clause-none c = λ _.
    functional_list c.args.deps.now
    (subst (λ (ds : List Dep). All (λ (d : Dep). is_fd (dependency_of d) ≡ true) ds)
    (take_all c.loop-k.k c.args.deps.now c.loop-k-test.false) c.loop-k.invariant)
