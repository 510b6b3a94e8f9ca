-- What is left to prove of `left_sides`: its clause `lefts` and that the invariant of its loop
-- holds at first and stays, by `lefts_passed` and `lefts_added`.
use Rattle.std.proofs.Common.{◌≡◌, ◌+◌, ◌<◌, suc, List, [], ◌++◌, length, drop, refl, sym, ap, subst, ◌∙◌, arith}
use Rattle.std.proofs.lemmas.List.{drop_all, append-nil}
use Rattle.std.specs.List.{list_any}
use Rattle.attr_sets.specs.declared.set.AttrSet.{AttrSet}
use Rattle.attr_sets.specs.Sets.{attributes, is_same}
use Rattle.dep_model.specs.declared.dep.Dep.{Dep}
use Rattle.dep_model.specs.declared.dep.Dep.TheVariants.{Fd}
use Rattle.dep_model.specs.Deps.{dependencies_of}
use Rattle.dep_model.specs.Plans.{schemes_of}
use Rattle.synthesis_3nf.specs.Groups.{left_sides_after}
use Rattle.synthesis_3nf.proofs.LoopLemmas.{AreLeftsTo, lefts_passed, lefts_added}
use Rattle.synthesis_3nf.proofs.grouping.left_sides.Goals.{then-not-is_among+in_ok-push, else-not-is_among}
use Rattle.synthesis_3nf.proofs.grouping.left_sides.Goals as goal

pub loop-dep-init : goal.loop-dep-init
loop-dep-init c = rw c.new-lefts.ensures.items refl

pub loop-dep-preserved : goal.loop-dep-preserved
loop-dep-preserved c =
    let first : Dep = Fd (record { 0 = 0 }) (record { 0 = 0 }) in
    let i = c.loop-dep.dep-index in
    let deps = c.args.deps.now in
    let lefts = c.loop-dep.lefts.items in
    let left = c.sides.result.0 in
    let lt : i < length deps = c.loop-dep-test.true in
    let next : i + 1 ≡ suc i = omega arith in
    let fact = subst (λ (xs : List AttrSet). c.is_among.result ≡ list_any (λ o. is_same (attributes o) (attributes left)) xs) c.deref.ensures.value c.is_among.ensures.among in
    elim c.if-not-is_among.branch [
      | then-not-is_among+in_ok-push w ↦
          subst (λ (xs : List AttrSet). AreLeftsTo deps xs (i + 1)) (sym (ap (λ v. v.items) w.lefts-is ∙ w.in_ok-push.ensures.items))
          (lefts_added deps lefts i (i + 1) first left next lt c.loop-dep.invariant c.sides.ensures.left (sym fact ∙ w.if-not-is_among.true))
      | else-not-is_among w ↦
          subst (λ (xs : List AttrSet). AreLeftsTo deps xs (i + 1)) (sym (ap (λ v. v.items) w.lefts-is))
          (lefts_passed deps lefts i (i + 1) first left next lt c.loop-dep.invariant c.sides.ensures.left (sym fact ∙ w.if-not-is_among.false))
    ]

pub returns : goal.returns
returns c =
    let lefts = c.loop-dep.lefts.items in
    let over : drop c.loop-dep.dep-index c.args.deps.now ≡ [] = drop_all c.loop-dep.dep-index c.args.deps.now c.loop-dep-test.false in
    record { lefts = sym (c.loop-dep.invariant ∙ ap (λ (ds : List Dep). schemes_of lefts ++ left_sides_after (schemes_of lefts) (dependencies_of ds)) over ∙ append-nil (schemes_of lefts)) }
