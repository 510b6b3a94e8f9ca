-- What is left to prove of `functional_deps`: its clauses and that the invariant of its loop holds at first and
-- stays, by `PartLemmas`.
use Rattle.std.proofs.Common.{◌≡◌, false, true, List, [], ◌∷◌, ◌++◌, get_or, take, take_all, sym, ◌∙◌, ap, subst}
use Rattle.std.proofs.lemmas.List.{map_push}
use Rattle.std.proofs.lemmas.List.Elements.{All-nil, All-push}
use Rattle.std.specs.Prelude.{All}
use Rattle.dep_model.specs.declared.dep.Dep.{Dep}
use Rattle.dep_model.specs.declared.dep.Dep.TheVariants.{Fd}
use Rattle.dep_model.specs.Dependencies.{Dependency, functional_part, is_fd}
use Rattle.dep_model.specs.Deps.{dependency_of, dependencies_of, IsDepWithin}
use Rattle.synthesis_3nf.proofs.PartLemmas.{functional_more, functional_no_more}
use Rattle.synthesis_3nf.proofs.steps.functional_deps.Goals.{in-Fd+in_ok-push, in_default}
use Rattle.synthesis_3nf.proofs.steps.functional_deps.Goals as goal

pub loop-dep-init : goal.loop-dep-init
loop-dep-init c = record {
  part = ap dependencies_of c.new-part.ensures.items;
  within = λ universe all. subst (λ (ds : List Dep). All (IsDepWithin universe) ds) (sym c.new-part.ensures.items) (All-nil (IsDepWithin universe));
}

pub loop-dep-preserved : goal.loop-dep-preserved
loop-dep-preserved c =
    let deps = c.args.deps.now in
    let i = c.loop-dep.dep-index in
    let first : Dep = Fd (record { 0 = 0 }) (record { 0 = 0 }) in
    let e = get_or deps i first in
    let before = c.loop-dep.invariant in
    let part = c.loop-dep.part.items in
    elim c.match-dep.branch [
      | in-Fd+in_ok-push w ↦
          let items : c.match-dep.part.items ≡ part ++ e ∷ [] = ap (λ v. v.items) w.part-is ∙ w.in_ok-push.ensures.items in
          let is : is_fd (dependency_of e) ≡ true = ap (λ (d : Dep). is_fd (dependency_of d)) w.in-Fd.is in
          rw items (record {
            part = map_push dependency_of part e ∙ ap (λ (l : List Dependency). l ++ dependency_of e ∷ []) before.part
                ∙ sym (functional_more deps i first c.loop-dep-test.true is);
            within = λ universe all. All-push (IsDepWithin universe) part e (before.within universe all) (all i first c.loop-dep-test.true);
          })
      | in_default w ↦
          let items : c.match-dep.part.items ≡ part = ap (λ v. v.items) w.part-is in
          let is : is_fd (dependency_of e) ≡ false = ap (λ (d : Dep). is_fd (dependency_of d)) w.in_default.is in
          rw items (record {
            part = before.part ∙ sym (functional_no_more deps i first c.loop-dep-test.true is);
            within = before.within;
          })
    ]

pub returns : goal.returns
returns c =
    let all : take c.loop-dep.dep-index c.args.deps.now ≡ c.args.deps.now = take_all c.loop-dep.dep-index c.args.deps.now c.loop-dep-test.false in
    record {
      part = c.loop-dep.invariant.part ∙ ap (λ (ds : List Dep). functional_part (dependencies_of ds)) all;
      within = c.loop-dep.invariant.within;
    }
