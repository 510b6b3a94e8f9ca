-- What is left to prove of `tested_left_sides`: what its calls require, that the invariant of its loop holds at first
-- and stays, and its clauses, by `SideLemmas` and `TestLemmas`.
use Rattle.std.proofs.Common.{◌+◌, ℕ, List, sym, ap, subst, ◌∙◌, arith}
use Rattle.std.specs.Prelude.{All, Contains}
use Rattle.std.proofs.lemmas.List.Elements.{All-same, All-weaker}
use Rattle.std.proofs.lemmas.Result.{err_from_is_err_and}
use Rattle.attr_sets.specs.declared.set.AttrSet.{AttrSet}
use Rattle.candidate_sets.specs.Evidence.{AreEvidence}
use Rattle.dep_model.specs.Failures.{RefusesAs}
use Rattle.dep_model.specs.Plans.{schemes_of}
use Rattle.candidate_search.specs.Asking.{AsksAll, IsAskedWithin, HasAnswer}
use Rattle.candidate_search.specs.Sides.{HasCandidates, HasMinimal, IsAnsweredAt, IsTested, rights_of}
use Rattle.candidate_search.specs.declared.side.TooManyLeftSides.{TooManyLeftSides}
use Rattle.candidate_search.proofs.FindingLemmas.{none_found}
use Rattle.candidate_search.proofs.LevelLemmas.{tabled_coded}
use Rattle.candidate_search.proofs.SideLemmas.{side_minimal, sides_candidates}
use Rattle.candidate_search.proofs.TestLemmas.{sides_answered}
use Rattle.candidate_search.proofs.searching.tested_left_sides.Goals as goal

pub sides_after-requires-clause-sides : goal.sides_after-requires-clause-sides
sides_after-requires-clause-sides c =
    All-same (HasCandidates c.args.width c.args.most) c.deref.result.now c.in_ok-first.first.items c.deref.ensures.value
    (sides_candidates c.args.width c.args.most c.requires.rows.0 0 c.in_ok-first.first.items
    (c.in_ok-first.ensures.tested c.args.width c.args.most c.requires.rows.0 c.requires.rights))

pub returns-in_err-sides-clause-refusal : goal.returns-in_err-sides-clause-refusal
returns-in_err-sides-clause-refusal c = λ r tabled seen.
    let p = err_from_is_err_and c.from_residual-in_err-sides.result c.from_residual-in_err-sides.ensures.1 in
    rw (p.1, p.2) (c.in_err-sides.ensures.refusal r 0
    (All-same (IsTested c.args.width c.args.most r 0) c.deref.result.now c.in_ok-first.first.items c.deref.ensures.value
    (c.in_ok-first.ensures.tested c.args.width c.args.most r c.requires.rights))
    (subst (λ (sets : List AttrSet). AreEvidence c.args.width r (schemes_of sets)) (sym c.deref-2.ensures.value)
    (c.in_ok-begun.ensures.evidence r (tabled_coded c.args.width r c.args.table.now tabled) seen)))

pub returns-in_err-sides-clause-named : goal.returns-in_err-sides-clause-named
returns-in_err-sides-clause-named c =
    let p = err_from_is_err_and c.from_residual-in_err-sides.result c.from_residual-in_err-sides.ensures.1 in
    rw (p.1, p.2) (subst
    (λ (rights : List ℕ). RefusesAs (λ (refusal : TooManyLeftSides). Contains rights refusal.right) c.in_err-sides.field-0.0)
    (ap rights_of c.deref.ensures.value ∙ c.in_ok-first.ensures.rights) c.in_err-sides.ensures.named)

pub loop-size-init : goal.loop-size-init
loop-size-init c = record {
  rights = c.in_ok-sides.ensures.rights ∙ ap rights_of c.deref.ensures.value ∙ c.in_ok-first.ensures.rights;
  tested = λ r tabled seen. c.in_ok-sides.ensures.untested r
      (All-same (IsTested c.args.width c.args.most r 0) c.deref.result.now c.in_ok-first.first.items c.deref.ensures.value
      (c.in_ok-first.ensures.tested c.args.width c.args.most r c.requires.rights))
      (subst (λ (sets : List AttrSet). AreEvidence c.args.width r (schemes_of sets)) (sym c.deref-2.ensures.value)
      (c.in_ok-begun.ensures.evidence r (tabled_coded c.args.width r c.args.table.now tabled) seen));
  findings = λ r tabled. none_found c.args.width r c.new-findings.result c.new-findings.ensures.levels c.new-findings.ensures.obeyed;
}

pub first_evidence-requires-clause-rows : goal.first_evidence-requires-clause-rows
first_evidence-requires-clause-rows c =
    let (r, tabled, seen) = c.requires.rows in (r, tabled_coded c.args.width r c.args.table.now tabled)

pub refuting_evidence-requires-clause-rows : goal.refuting_evidence-requires-clause-rows
refuting_evidence-requires-clause-rows c =
    let (r, tabled, seen) = c.requires.rows in (r, tabled, c.loop-size.invariant.findings r tabled)

pub refuting_evidence-requires-clause-within : goal.refuting_evidence-requires-clause-within
refuting_evidence-requires-clause-within c =
    let (r, tabled, seen) = c.requires.rows in
    All-same (IsAskedWithin c.args.width) c.deref-in-loop-size-2.result.now c.in_ok-asked.asked.items
    c.deref-in-loop-size-2.ensures.value (c.in_ok-asked.ensures.within c.args.width c.args.most
    (All-same (HasCandidates c.args.width c.args.most) c.deref-in-loop-size.result.now c.loop-size.sides.items
    c.deref-in-loop-size.ensures.value
    (sides_candidates c.args.width c.args.most r c.loop-size.size c.loop-size.sides.items
    (c.loop-size.invariant.tested r tabled seen))))

pub sides_after-requires-in-loop-size-clause-sides : goal.sides_after-requires-in-loop-size-clause-sides
sides_after-requires-in-loop-size-clause-sides c =
    let (r, tabled, seen) = c.requires.rows in
    All-same (HasCandidates c.args.width c.args.most) c.deref-in-loop-size-3.result.now c.loop-size.sides.items
    c.deref-in-loop-size-3.ensures.value
    (sides_candidates c.args.width c.args.most r c.loop-size.size c.loop-size.sides.items
    (c.loop-size.invariant.tested r tabled seen))

pub returns-in_err-sides-2-clause-refusal : goal.returns-in_err-sides-2-clause-refusal
returns-in_err-sides-2-clause-refusal c = λ r tabled seen.
    let p = err_from_is_err_and c.from_residual-in_err-sides-2.result c.from_residual-in_err-sides-2.ensures.1 in
    rw (p.1, p.2) (c.in_err-sides-2.ensures.refusal r c.loop-size.size
    (All-same (IsTested c.args.width c.args.most r c.loop-size.size) c.deref-in-loop-size-3.result.now
    c.loop-size.sides.items c.deref-in-loop-size-3.ensures.value (c.loop-size.invariant.tested r tabled seen))
    (subst (λ (sets : List AttrSet). AreEvidence c.args.width r (schemes_of sets))
    (sym c.deref-in-loop-size-4.ensures.value) (c.in_ok-found.ensures.evidence r tabled (c.loop-size.invariant.findings r tabled))))

pub returns-in_err-sides-2-clause-named : goal.returns-in_err-sides-2-clause-named
returns-in_err-sides-2-clause-named c =
    let p = err_from_is_err_and c.from_residual-in_err-sides-2.result c.from_residual-in_err-sides-2.ensures.1 in
    rw (p.1, p.2) (subst
    (λ (rights : List ℕ). RefusesAs (λ (refusal : TooManyLeftSides). Contains rights refusal.right) c.in_err-sides-2.field-0.0)
    (ap rights_of c.deref-in-loop-size-3.ensures.value ∙ c.loop-size.invariant.rights) c.in_err-sides-2.ensures.named)

pub loop-size-preserved : goal.loop-size-preserved
loop-size-preserved c =
    let size : ℕ = c.loop-size.size in
    let sides = c.loop-size.sides.items in
    let asked = c.in_ok-asked.asked.items in
    let found : List AttrSet = c.deref-in-loop-size-4.result.now in
    record {
      rights = c.in_ok-sides-2.ensures.rights ∙ ap rights_of c.deref-in-loop-size-3.ensures.value
          ∙ c.loop-size.invariant.rights;
      findings = λ r tabled. c.in_ok-found.ensures.findings r tabled (c.loop-size.invariant.findings r tabled);
      tested = λ r tabled seen.
          let tested : All (IsTested c.args.width c.args.most r size) sides = c.loop-size.invariant.tested r tabled seen in
          c.in_ok-sides-2.ensures.tested r size
          (All-same (IsTested c.args.width c.args.most r size) c.deref-in-loop-size-3.result.now sides
          c.deref-in-loop-size-3.ensures.value tested)
          (subst (λ (sets : List AttrSet). AreEvidence c.args.width r (schemes_of sets))
          (sym c.deref-in-loop-size-4.ensures.value) (c.in_ok-found.ensures.evidence r tabled (c.loop-size.invariant.findings r tabled)))
          (All-same (IsAnsweredAt c.args.width r (schemes_of found) size) c.deref-in-loop-size-3.result.now sides
          c.deref-in-loop-size-3.ensures.value
          (sides_answered c.args.width c.args.most r (schemes_of found) size asked sides c.requires.width
          (sides_candidates c.args.width c.args.most r size sides tested)
          (All-same (AsksAll asked size) sides c.deref-in-loop-size.result.now (sym c.deref-in-loop-size.ensures.value)
          c.in_ok-asked.ensures.all)
          (subst (λ (sets : List AttrSet). All (HasAnswer r (schemes_of sets)) asked)
          (sym c.deref-in-loop-size-4.ensures.value)
          (All-same (HasAnswer r (schemes_of c.in_ok-found.found.items)) asked c.deref-in-loop-size-2.result.now
          (sym c.deref-in-loop-size-2.ensures.value) (c.in_ok-found.ensures.answered r tabled (c.loop-size.invariant.findings r tabled))))));
    }

pub returns-clause-minimal : goal.returns-clause-minimal
returns-clause-minimal c = λ r tabled seen.
    All-weaker (IsTested c.args.width c.args.most r (c.args.most + 1)) (HasMinimal c.args.width c.args.most r)
    (side_minimal c.args.width c.args.most r) c.loop-size.sides.items
    (subst (λ (size : ℕ). All (IsTested c.args.width c.args.most r size) c.loop-size.sides.items)
    (omega (arith, c.loop-size-test.false, c.loop-size.auto.size-end)) (c.loop-size.invariant.tested r tabled seen))
