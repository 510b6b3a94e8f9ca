-- What is left to prove of `refuting_evidence`: that the invariant of its loop stays, and its clause
-- `answered`, by `TestLemmas`.
use Rattle.std.proofs.Common.{◌≡◌, ◌+◌, ◌++◌, ◌∷◌, [], ℕ, List, Vec, Global, get_or, take, sym, ap, subst, ◌∙◌, arith}
use Rattle.std.specs.Prelude.{All}
use Rattle.std.proofs.lemmas.List.{take_all}
use Rattle.std.proofs.lemmas.List.Elements.{All-more, All-same}
use Rattle.attr_sets.specs.declared.set.AttrSet.{AttrSet}
use Rattle.dep_model.specs.Plans.{schemes_of}
use Rattle.dep_model.specs.Tuples.{Relation}
use Rattle.candidate_sets.specs.Evidence.{AreEvidence}
use Rattle.candidate_search.specs.Levels.{AreTabled}
use Rattle.candidate_search.specs.Asking.{HasAnswer, AnswersOrRefutes}
use Rattle.candidate_search.specs.Findings.{AreFindings}
use Rattle.candidate_search.specs.declared.asking.Asked.{Asked}
use Rattle.candidate_search.proofs.TestLemmas.{all_answered_push, evidence_push, refutation_answers}
use Rattle.candidate_search.proofs.testing.refuting_evidence.Goals as goal
use Rattle.candidate_search.proofs.testing.refuting_evidence.Goals.{in-Some+in_ok-push-in-Some, in-None}

pub loop-one-preserved : goal.loop-one-preserved
loop-one-preserved c =
    let d : Asked = record { left = record { 0 = 0 }; right = 0 } in
    let i : ℕ = c.loop-one.one-index in
    let one : Asked = get_or c.args.asked.now i d in
    let old : List AttrSet = c.loop-one.found.items in
    let new : List AttrSet = c.match-branch-2.found.items in
    let answers : (r : Relation) → AreTabled c.args.width r c.args.table.now → AreFindings c.args.width r c.args.findings.now
    → AnswersOrRefutes c.args.width r (schemes_of old) one c.in_ok-evidence.field-0 =
    λ r tabled are. subst (λ (sets : List AttrSet). AnswersOrRefutes c.args.width r (schemes_of sets) one c.in_ok-evidence.field-0)
    c.deref.ensures.value (c.in_ok-evidence.ensures.answers r tabled (c.loop-one.invariant.findings r tabled are)) in
    elim c.match-branch-2.branch [
      | in-Some+in_ok-push-in-Some w ↦
          let s : AttrSet = w.in-Some.evidence in
          let is : new ≡ old ++ s ∷ [] = ap (λ (v : Vec AttrSet Global). v.items) w.found-is ∙ w.in_ok-push-in-Some.ensures.items in
          record {
            findings = λ r tabled are.
                c.in_ok-evidence.ensures.findings r tabled (c.loop-one.invariant.findings r tabled are);
            evidence = λ r tabled are. subst (λ (sets : List AttrSet). AreEvidence c.args.width r (schemes_of sets)) (sym is)
                (evidence_push c.args.width r old s (c.loop-one.invariant.evidence r tabled are)
                (subst (AnswersOrRefutes c.args.width r (schemes_of old) one) w.in-Some.is (answers r tabled are)).0);
            answered = λ r tabled are.
                subst (λ (sets : List AttrSet). All (HasAnswer r (schemes_of sets)) (take (i + 1) c.args.asked.now)) (sym is)
                (All-more (HasAnswer r (schemes_of (old ++ s ∷ []))) c.args.asked.now i d c.loop-one-test.true
                (all_answered_push r old s (take i c.args.asked.now) (c.loop-one.invariant.answered r tabled are))
                (refutation_answers r old s one
                (subst (AnswersOrRefutes c.args.width r (schemes_of old) one) w.in-Some.is (answers r tabled are)).1));
          }
      | in-None w ↦
          let is : new ≡ old = ap (λ (v : Vec AttrSet Global). v.items) w.found-is in
          record {
            findings = λ r tabled are.
                c.in_ok-evidence.ensures.findings r tabled (c.loop-one.invariant.findings r tabled are);
            evidence = λ r tabled are. subst (λ (sets : List AttrSet). AreEvidence c.args.width r (schemes_of sets)) (sym is)
                (c.loop-one.invariant.evidence r tabled are);
            answered = λ r tabled are.
                subst (λ (sets : List AttrSet). All (HasAnswer r (schemes_of sets)) (take (i + 1) c.args.asked.now)) (sym is)
                (All-more (HasAnswer r (schemes_of old)) c.args.asked.now i d c.loop-one-test.true
                (c.loop-one.invariant.answered r tabled are)
                (subst (AnswersOrRefutes c.args.width r (schemes_of old) one) w.in-None.is (answers r tabled are)));
          }
    ]

pub returns-clause-answered : goal.returns-clause-answered
returns-clause-answered c = λ r tabled are. All-same (HasAnswer r (schemes_of c.loop-one.found.items)) c.args.asked.now _
    (sym (take_all c.loop-one.one-index c.args.asked.now (omega (arith, c.loop-one-test.false))))
    (c.loop-one.invariant.answered r tabled are)
