-- What is left to prove of `add_multivalued`: its clauses `added`, `front` and `within` and that
-- the invariant of its loop holds at first and stays, by `ThinningLemmas`.
use Rattle.std.proofs.Common.{◌≡◌, false, true, List, [], ◌∷◌, ◌++◌, length, get_or, take, take_all, sym, ◌∙◌, ap, arith, append-nil, append_assoc}
use Rattle.std.proofs.lemmas.List.{map_push}
use Rattle.std.proofs.lemmas.List.Elements.{All-push}
use Rattle.attr_sets.specs.Attributes.{below}
use Rattle.dep_model.specs.declared.dep.Dep.{Dep}
use Rattle.dep_model.specs.declared.dep.Dep.TheVariants.{Fd}
use Rattle.dep_model.specs.Dependencies.{Dependency, is_fd}
use Rattle.dep_model.specs.Deps.{dependency_of, dependencies_of, IsDepWithin}
use Rattle.min_cover.specs.Covers.{multivalued_part}
use Rattle.min_cover.proofs.ThinningLemmas.{multivalued_more, multivalued_no_more, front_push}
use Rattle.min_cover.proofs.thinning.add_multivalued.Goals.{in-Mvd+in_ok-push, in_default}
use Rattle.min_cover.proofs.thinning.add_multivalued.Goals as goal

pub loop-dep-init : goal.loop-dep-init
loop-dep-init c = record {
  added = sym (append-nil (dependencies_of c.args.others.now.items));
  front = take_all (length c.args.others.now.items) c.args.others.now.items (omega arith);
  within = λ n old new. old;
}

pub loop-dep-preserved : goal.loop-dep-preserved
loop-dep-preserved c =
    let deps = c.args.deps.now in
    let i = c.loop-dep.dep-index in
    let first : Dep = Fd (record { 0 = 0 }) (record { 0 = 0 }) in
    let e = get_or deps i first in
    let before = c.loop-dep.invariant in
    let old = c.args.others.now.items in
    let others = c.loop-dep.others.items in
    elim c.match-dep.branch [
      | in-Mvd+in_ok-push w ↦
          let items : c.match-dep.others.items ≡ others ++ e ∷ [] = ap (λ v. v.items) w.others-is ∙ w.in_ok-push.ensures.items in
          let is : is_fd (dependency_of e) ≡ false = ap (λ (d : Dep). is_fd (dependency_of d)) w.in-Mvd.is in
          rw items (record {
            added = map_push dependency_of others e ∙ ap (λ (l : List Dependency). l ++ dependency_of e ∷ []) before.added
                ∙ append_assoc (dependencies_of old) (multivalued_part (dependencies_of (take i deps))) (dependency_of e ∷ [])
                ∙ ap (λ (l : List Dependency). dependencies_of old ++ l) (sym (multivalued_more deps i first c.loop-dep-test.true is));
            front = front_push old others e before.front;
            within = λ n old_in new_in. All-push (IsDepWithin (below n)) others e (before.within n old_in new_in) (new_in i first c.loop-dep-test.true);
          })
      | in_default w ↦
          let items : c.match-dep.others.items ≡ others = ap (λ v. v.items) w.others-is in
          let is : is_fd (dependency_of e) ≡ true = ap (λ (d : Dep). is_fd (dependency_of d)) w.in_default.is in
          rw items (record {
            added = before.added ∙ ap (λ (l : List Dependency). dependencies_of old ++ l) (sym (multivalued_no_more deps i first c.loop-dep-test.true is));
            front = before.front;
            within = before.within;
          })
    ]

pub returns : goal.returns
returns c =
    let all : take c.loop-dep.dep-index c.args.deps.now ≡ c.args.deps.now = take_all c.loop-dep.dep-index c.args.deps.now c.loop-dep-test.false in
    record {
      added = c.loop-dep.invariant.added ∙ ap (λ (ds : List Dep). dependencies_of c.args.others.now.items ++ multivalued_part (dependencies_of ds)) all;
      front = c.loop-dep.invariant.front;
      within = c.loop-dep.invariant.within;
    }
