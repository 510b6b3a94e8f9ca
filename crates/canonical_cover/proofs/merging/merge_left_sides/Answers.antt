-- What is left to prove of `merge_left_sides`: that the invariant of its loop holds at first and stays, and its
-- clause `within`.
use Rattle.std.proofs.Common.{◌≡◌, ◌+◌, ◌-◌, ◌<◌, suc, List, [], ◌++◌, length, take, drop, take_all, slice_index_or, refl, sym, ap, subst, ◌∙◌, arith, append-nil}
use Rattle.std.proofs.lemmas.List.{drop_all, length-drop}
use Rattle.std.specs.Prelude.{All}
use Rattle.std.specs.List.{list_any}
use Rattle.dep_model.specs.declared.dep.Dep.{Dep}
use Rattle.dep_model.specs.declared.dep.Dep.TheVariants.{Fd}
use Rattle.dep_model.specs.Dependencies.{Dependency, IsWithin}
use Rattle.dep_model.specs.Deps.{dependency_of, dependencies_of}
use Rattle.dep_model.proofs.DepLemmas.{dependencies_all-to, dependencies_all-from}
use Rattle.canonical_cover.specs.Merging.{have_same_left, merge_left_sides, with_right_sides}
use Rattle.canonical_cover.proofs.MergeLemmas.{beside, beside-none, merged_within}
use Rattle.canonical_cover.proofs.LoopLemmas.{AreMergedTo, merged_passed, merged_added}
use Rattle.canonical_cover.proofs.merging.merge_left_sides.Goals.{then-not-is_merged+in_ok-push, else-not-is_merged}
use Rattle.canonical_cover.proofs.merging.merge_left_sides.Goals as goal

pub loop-k-init : goal.loop-k-init
loop-k-init c = rw c.new-once.ensures.items (sym (beside-none (merge_left_sides (dependencies_of c.args.deps.now))))

pub loop-k-preserved : goal.loop-k-preserved
loop-k-preserved c =
    let first : Dep = Fd (record { 0 = 0 }) (record { 0 = 0 }) in
    let deps = c.args.deps.now in
    let once = c.loop-k.once.items in
    let k = c.loop-k.k in
    let lt : k < length deps = c.loop-k-test.true in
    let next : k + 1 ≡ suc k = omega arith in
    let sliced : take (length deps - k) (drop k deps) ≡ drop k deps =
    take_all (length deps - k) (drop k deps) (omega (arith, length-drop k deps, lt)) in
    let stands = subst (λ (xs : List Dep). c.is_merged.result ≡ list_any (λ o. have_same_left (dependency_of o) (dependency_of (slice_index_or deps k first))) xs)
    c.deref.ensures.value c.is_merged.ensures.merged in
    elim c.if-not-is_merged.branch [
      | then-not-is_merged+in_ok-push w ↦
          subst (λ (xs : List Dep). AreMergedTo deps xs (k + 1)) (sym (ap (λ v. v.items) w.once-is ∙ w.in_ok-push.ensures.items))
          (merged_added deps once k (k + 1) first w.with_right_sides.result next lt c.loop-k.invariant (sym stands ∙ w.if-not-is_merged.true)
          (w.with_right_sides.ensures.dependency
          ∙ ap (λ (ds : List Dep). with_right_sides (dependencies_of ds) (dependency_of (slice_index_or deps k first))) sliced))
      | else-not-is_merged w ↦
          subst (λ (xs : List Dep). AreMergedTo deps xs (k + 1)) (sym (ap (λ v. v.items) w.once-is))
          (merged_passed deps once k (k + 1) first next lt c.loop-k.invariant (sym stands ∙ w.if-not-is_merged.false))
    ]

pub returns-clause-merged : goal.returns-clause-merged
returns-clause-merged c =
    let once = c.loop-k.once.items in
    let over : drop c.loop-k.k c.args.deps.now ≡ [] = drop_all c.loop-k.k c.args.deps.now c.loop-k-test.false in
    sym (c.loop-k.invariant
    ∙ ap (λ (ds : List Dep). dependencies_of once ++ beside (dependencies_of once) (merge_left_sides (dependencies_of ds))) over
    ∙ append-nil (dependencies_of once))

pub returns-clause-within : goal.returns-clause-within
returns-clause-within c = λ universe all.
    let merged = merged_within universe (dependencies_of c.args.deps.now) (dependencies_all-from (IsWithin universe) c.args.deps.now all) in
    dependencies_all-to (IsWithin universe) c.loop-k.once.items
    (subst (λ (ds : List Dependency). All (IsWithin universe) ds) (sym (returns-clause-merged c)) merged)
