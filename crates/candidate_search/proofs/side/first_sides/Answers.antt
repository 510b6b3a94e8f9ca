-- What is left to prove of `first_sides`: that the invariant of its loop stays, and its clause `rights`.
use Rattle.std.proofs.Common.{◌++◌, ◌∷◌, [], ℕ, List, get_or, sym, ap, ◌∙◌, arith}
use Rattle.std.proofs.lemmas.List.{map_push, take_all, take_more}
use Rattle.std.proofs.lemmas.List.Elements.{All-push, All-same}
use Rattle.candidate_search.specs.Sides.{IsTested, rights_of}
use Rattle.candidate_search.specs.declared.side.Side.{Side}
use Rattle.candidate_search.proofs.SideLemmas.{side_first}
use Rattle.candidate_search.proofs.side.first_sides.Goals as goal

pub loop-right-preserved : goal.loop-right-preserved
loop-right-preserved c =
    let i : ℕ = c.loop-right.right-index in
    let side : Side = record { right = get_or c.args.rights.now i 0; lefts = c.in_ok-lefts.lefts } in
    record {
      rights = ap rights_of c.in_ok-push.ensures.items ∙ map_push (λ (s : Side). s.right) c.loop-right.sides.items side
          ∙ ap (λ (rs : List ℕ). rs ++ side.right ∷ []) c.loop-right.invariant.rights
          ∙ sym (take_more c.args.rights.now i 0 c.loop-right-test.true);
      tested = λ n most r low. All-same (IsTested n most r 0) c.push.new.self.items (c.loop-right.sides.items ++ side ∷ [])
          c.in_ok-push.ensures.items
          (All-push (IsTested n most r 0) c.loop-right.sides.items side (c.loop-right.invariant.tested n most r low)
          (side_first n most r side (low i 0 c.loop-right-test.true) c.in_ok-lefts.ensures.within_limit
          (c.in_ok-lefts.ensures.candidates n most side.right)));
    }

pub returns-clause-rights : goal.returns-clause-rights
returns-clause-rights c = c.loop-right.invariant.rights
    ∙ take_all c.loop-right.right-index c.args.rights.now (omega (arith, c.loop-right-test.false))
