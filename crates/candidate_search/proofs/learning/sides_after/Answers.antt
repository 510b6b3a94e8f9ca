-- What is left to prove of `sides_after`: that the invariant of its loop stays, and its clauses, by
-- `SideLemmas`.
use Rattle.std.proofs.Common.{◌≡◌, ◌+◌, ◌++◌, ◌∷◌, [], ℕ, List, take, get_or, sym, ap, subst, ◌∙◌, arith}
use Rattle.std.proofs.lemmas.List.{map_push, map_more, take_all}
use Rattle.std.proofs.lemmas.List.Elements.{All-push, All-same}
use Rattle.std.proofs.lemmas.Result.{err_from_is_err_and}
use Rattle.dep_model.specs.Plans.{schemes_of}
use Rattle.candidate_search.specs.Sides.{IsAnsweredAt, IsTested, rights_of}
use Rattle.candidate_search.specs.declared.side.Side.{Side}
use Rattle.candidate_search.proofs.SideLemmas.{named_among, side_next, side_none}
use Rattle.candidate_search.proofs.learning.sides_after.Goals as goal

pub loop-side-preserved : goal.loop-side-preserved
loop-side-preserved c =
    let i : ℕ = c.loop-side.side-index in
    let after : Side = c.in_ok-after.after in
    let side : Side = c.side-item.result in
    let is : side ≡ get_or c.args.sides.now i side = c.side-item.is in
    record {
      rights = ap rights_of c.in_ok-push.ensures.items ∙ map_push (λ (s : Side). s.right) c.loop-side.next.items after
          ∙ ap (λ (rs : List ℕ). rs ++ after.right ∷ []) c.loop-side.invariant.rights
          ∙ ap (λ (k : ℕ). rights_of (take i c.args.sides.now) ++ k ∷ []) (c.in_ok-after.ensures.right ∙ ap (λ (s : Side). s.right) is)
          ∙ sym (map_more (λ (s : Side). s.right) c.args.sides.now i side c.loop-side-test.true);
      untested = λ r are new. All-same (IsTested c.args.width c.args.most r 0) c.push.new.self.items
          (c.loop-side.next.items ++ after ∷ []) c.in_ok-push.ensures.items
          (All-push (IsTested c.args.width c.args.most r 0) c.loop-side.next.items after
          (c.loop-side.invariant.untested r are new)
          (side_none c.args.width c.args.most r 0 side after (schemes_of c.args.found.now)
          (subst (IsTested c.args.width c.args.most r 0) (sym is) (are i side c.loop-side-test.true)) new
          c.in_ok-after.ensures.right c.in_ok-after.ensures.within_limit c.in_ok-after.ensures.candidates));
      tested = λ r size are new answered. All-same (IsTested c.args.width c.args.most r (size + 1)) c.push.new.self.items
          (c.loop-side.next.items ++ after ∷ []) c.in_ok-push.ensures.items
          (All-push (IsTested c.args.width c.args.most r (size + 1)) c.loop-side.next.items after
          (c.loop-side.invariant.tested r size are new answered)
          (side_next c.args.width c.args.most r size side after (schemes_of c.args.found.now)
          (subst (IsTested c.args.width c.args.most r size) (sym is) (are i side c.loop-side-test.true)) new
          c.in_ok-after.ensures.right c.in_ok-after.ensures.within_limit c.in_ok-after.ensures.candidates
          (subst (IsAnsweredAt c.args.width r (schemes_of c.args.found.now) size) (sym is)
          (answered i side c.loop-side-test.true))));
    }

pub returns-in_err-after-clause-named : goal.returns-in_err-after-clause-named
returns-in_err-after-clause-named c =
    let p = err_from_is_err_and c.from_residual.result c.from_residual.ensures.1 in
    rw (p.1, p.2) (named_among c.args.sides.now c.loop-side.side-index c.side-item.result c.in_err-after.field-0.0
    c.loop-side-test.true c.side-item.is c.in_err-after.ensures.named)

pub returns-clause-rights : goal.returns-clause-rights
returns-clause-rights c = c.loop-side.invariant.rights
    ∙ ap rights_of (take_all c.loop-side.side-index c.args.sides.now (omega (arith, c.loop-side-test.false)))
