-- What is left to prove of `count_given`: that a round of its loop keeps the invariant, and what it has
-- counted.
use Rattle.std.proofs.Common.{◌≡◌, ◌+◌, ◌∙◌, ap, sym, subst, arith, take_all, take, List, length, length-append}
use Rattle.std.specs.Prelude.{All, Contains}
use Rattle.std.proofs.lemmas.List.Elements.{All-push}
use Rattle.dep_model.specs.Dependencies.{Dependency}
use Rattle.short_derivations.specs.declared.inference.Inference.{Inference}
use Rattle.short_derivations.specs.Inferences.{givens_of}
use Rattle.short_derivations.specs.Links.{said_by}
use Rattle.short_derivations.specs.Views.{lines_of}
use Rattle.short_derivations.proofs.PushedLines.{givens_next_given, givens_next_other}
use Rattle.short_derivations.proofs.checking.count_given.Goals.{then-is_given+else-not-is_said, else-is_given}
use Rattle.short_derivations.proofs.checking.count_given.Goals as goal

pub loop-line-preserved : goal.loop-line-preserved
loop-line-preserved c =
    let items = c.args.lines.now in
    let k = c.loop-line.line-index in
    let before = c.loop-line.invariant in
    let P : Dependency → Type 0 = Contains (said_by c.args.links.now) in
    elim c.if-is_given.branch [
      | then-is_given+else-not-is_said w ↦
          let next = givens_next_given items k _ c.loop-line-test.true (sym c.is_given.ensures.given ∙ w.if-is_given.true) in
          let longer : length (givens_of (lines_of (take (k + 1) items))) ≡ length (givens_of (lines_of (take k items))) + 1 =
          ap length next ∙ length-append (givens_of (lines_of (take k items))) _ in
          record {
            count = w.count-is ∙ (omega (arith, before.count, longer));
            from = subst (All P) (sym next) (All-push P (givens_of (lines_of (take k items))) _ before.from (w.is_said.ensures.said w.if-not-is_said.false));
            few = omega (arith, before.few, w.count-is);
          }
      | else-is_given w ↦
          let next = givens_next_other items k _ c.loop-line-test.true (sym c.is_given.ensures.given ∙ w.if-is_given.false) in
          record {
            count = w.count-is ∙ before.count ∙ ap length (sym next);
            from = subst (All P) (sym next) before.from;
            few = omega (arith, before.few, w.count-is);
          }
    ]

pub returns-clause-from : goal.returns-clause-from
returns-clause-from c =
    subst (λ (items : List Inference). All (Contains (said_by c.args.links.now)) (givens_of (lines_of items)))
    (take_all c.loop-line.line-index c.args.lines.now c.loop-line-test.false) c.loop-line.invariant.from
