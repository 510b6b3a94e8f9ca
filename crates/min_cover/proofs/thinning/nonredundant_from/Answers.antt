-- What is left to prove of `nonredundant_from`: its clauses `thinned` and `within`, what
-- `is_implied_by` requires, and that the invariant of its loop holds at first and stays, by
-- `ThinningLemmas`.
use Rattle.std.proofs.Common.{◌≡◌, ◌+◌, ◌<◌, ◌↔◌, List, [], ◌∷◌, ◌++◌, length, set, take, drop, refl, sym, ◌∙◌, subst, ap, arith}
use Rattle.std.proofs.lemmas.Bool.{false≢true}
use Rattle.std.proofs.lemmas.List.{length-set}
use Rattle.std.proofs.lemmas.List.Elements.{All-set, All-push, All-take}
use Rattle.std.specs.Prelude.{All, IsTrue}
use Rattle.attr_sets.specs.Attributes.{below}
use Rattle.dep_model.specs.declared.dep.Dep.{Dep}
use Rattle.dep_model.specs.Implication.{Implies}
use Rattle.dep_model.specs.Deps.{dependency_of, dependencies_of, IsDepWithin}
use Rattle.min_cover.proofs.ThinningLemmas.{IsThinnedTo, set-set_back, thinned_none, thinned_done, thinned_left_out, thinned_kept}
use Rattle.min_cover.proofs.thinning.nonredundant_from.Goals.{then-not-implied+in_ok-push, else-not-implied}
use Rattle.min_cover.proofs.thinning.nonredundant_from.Goals as goal

pub loop-k-init : goal.loop-k-init
loop-k-init c =
    let items : c.in_ok-kept.kept.items ≡ take c.args.from c.args.others.items = c.in_ok-kept.ensures.items ∙ ap (λ (ds : List Dep). take c.args.from ds) c.deref.ensures.value in
    rw items (record {
      long = refl;
      within = c.requires.within;
      kept_within = All-take (IsDepWithin (below c.args.width)) c.args.from c.args.others.items c.requires.within;
      thinned = thinned_none c.args.width c.args.others.items c.args.from;
    })

pub is_implied_by-implied-requires-clause-deps : goal.is_implied_by-implied-requires-clause-deps
is_implied_by-implied-requires-clause-deps c =
    rw c.deref-in-loop-k.ensures.value (All-set (IsDepWithin (below c.args.width)) c.loop-k.others.items c.loop-k.k c.trivial_dependency.result (c.trivial_dependency.ensures.within c.args.width) c.loop-k.invariant.within)

pub is_implied_by-implied-requires-clause-within : goal.is_implied_by-implied-requires-clause-within
is_implied_by-implied-requires-clause-within c =
    let lt : c.loop-k.k < length c.loop-k.others.items = omega (arith, c.loop-k-test.true, c.len-k-end.ensures, c.loop-k.invariant.long, c.args.others.ok.0) in
    subst (λ (e : Dep). IsDepWithin (below c.args.width) e) (sym c.index-dep.ensures) (c.loop-k.invariant.within c.loop-k.k c.index-dep.result.now lt)

pub loop-k-preserved : goal.loop-k-preserved
loop-k-preserved c =
    let n = c.args.width in
    let before = c.loop-k.invariant in
    let first = drop c.args.from c.args.others.items in
    let first_kept = take c.args.from c.args.others.items in
    let others = c.loop-k.others.items in
    let kept = c.loop-k.kept.items in
    let k = c.loop-k.k in
    let d = c.index-dep.result.now in
    let nothing = c.trivial_dependency.result in
    let without = set others k nothing in
    let lt : k < length others = omega (arith, c.loop-k-test.true, c.len-k-end.ensures, before.long, c.args.others.ok.0) in
    let one_in : IsDepWithin (below n) d = subst (λ (e : Dep). IsDepWithin (below n) e) (sym c.index-dep.ensures) (before.within k d lt) in
    let tested : IsTrue c.is_implied_by-implied.result ↔ Implies n (dependencies_of without) (dependency_of d) =
    subst (λ (es : List Dep). IsTrue c.is_implied_by-implied.result ↔ Implies n (dependencies_of es) (dependency_of d)) c.deref-in-loop-k.ensures.value c.is_implied_by-implied.ensures.implied in
    elim c.if-not-implied.branch [
      | then-not-implied+in_ok-push w ↦
          let after : c.if-not-implied.others.items ≡ set without k d = ap (λ v. v.items) w.others-is in
          let same : c.if-not-implied.others.items ≡ others = after ∙ set-set_back others k d nothing c.index-dep.ensures in
          let pushed : c.if-not-implied.kept.items ≡ kept ++ d ∷ [] = ap (λ v. v.items) w.kept-is ∙ w.in_ok-push.ensures.items in
          record {
            long = ap (λ (es : List Dep). length es) same ∙ before.long;
            within = subst (λ (es : List Dep). All (IsDepWithin (below n)) es) (sym same) before.within;
            kept_within = subst (λ (es : List Dep). All (IsDepWithin (below n)) es) (sym pushed) (All-push (IsDepWithin (below n)) kept d before.kept_within one_in);
            thinned =
                subst (λ (es : List Dep). IsThinnedTo n first first_kept es c.if-not-implied.kept.items (k + 1)) (sym after)
                (subst (λ (es : List Dep). IsThinnedTo n first first_kept (set without k d) es (k + 1)) (sym pushed)
                (thinned_kept n first first_kept others kept k d nothing c.index-dep.ensures lt (c.trivial_dependency.ensures.obeyed n) before.thinned (k + 1) refl
                (λ implied. false≢true (sym w.if-not-implied.true ∙ tested.1 implied))));
          }
      | else-not-implied w ↦
          let after : c.if-not-implied.others.items ≡ without = ap (λ v. v.items) w.others-is in
          let same_kept : c.if-not-implied.kept.items ≡ kept = ap (λ v. v.items) w.kept-is in
          record {
            long = ap (λ (es : List Dep). length es) after ∙ length-set others k nothing ∙ before.long;
            within = subst (λ (es : List Dep). All (IsDepWithin (below n)) es) (sym after) (All-set (IsDepWithin (below n)) others k nothing (c.trivial_dependency.ensures.within n) before.within);
            kept_within = subst (λ (es : List Dep). All (IsDepWithin (below n)) es) (sym same_kept) before.kept_within;
            thinned =
                subst (λ (es : List Dep). IsThinnedTo n first first_kept es c.if-not-implied.kept.items (k + 1)) (sym after)
                (subst (λ (es : List Dep). IsThinnedTo n first first_kept without es (k + 1)) (sym same_kept)
                (thinned_left_out n first first_kept others kept k d nothing c.index-dep.ensures lt (c.trivial_dependency.ensures.obeyed n) before.thinned (k + 1) refl
                (tested.0 w.if-not-implied.false)));
          }
    ]

pub returns-clause-thinned : goal.returns-clause-thinned
returns-clause-thinned c =
    thinned_done c.args.width (drop c.args.from c.args.others.items) (take c.args.from c.args.others.items) c.loop-k.others.items c.loop-k.kept.items c.loop-k.k
    (omega (arith, c.loop-k-test.false, c.len-k-end.ensures, c.loop-k.invariant.long, c.args.others.ok.0)) c.loop-k.invariant.thinned

pub returns-clause-within : goal.returns-clause-within
returns-clause-within c = c.loop-k.invariant.kept_within
