-- What is left to prove of `refutation`: its clauses, by `TestLemmas` and `FindingLemmas`.
use Rattle.std.proofs.Common.{None, inl, sym, subst}
use Rattle.std.proofs.lemmas.List.Elements.{All-same}
use Rattle.attr_sets.specs.Sets.{attributes}
use Rattle.candidate_sets.specs.Evidence.{IsEvidence}
use Rattle.dep_model.specs.Tuples.{Relation}
use Rattle.candidate_search.specs.Findings.{AreFindings, AreObeyed}
use Rattle.candidate_search.specs.Levels.{AreTabled, IsLevel}
use Rattle.candidate_search.specs.Pairs.{IsBroken, FindsBroken}
use Rattle.candidate_search.proofs.FindingLemmas.{obeyed_push}
use Rattle.candidate_search.proofs.TestLemmas.{agreement_evidence, broken_refutes}
use Rattle.candidate_search.proofs.testing.refutation.Goals as goal

pub returns-then-is_implied-clause-answers : goal.returns-then-is_implied-clause-answers
returns-then-is_implied-clause-answers c = λ r tabled are. inl (
    c.is_implied.ensures.obeys c.args.width r tabled.over
    (subst (AreObeyed c.args.width r) (sym c.deref.ensures.value) are.obeyed) c.requires.within c.if-is_implied.true
    )

pub returns-in-Some-clause-findings : goal.returns-in-Some-clause-findings
returns-in-Some-clause-findings c = λ r tabled are. record {
  levels = c.in_ok-lead_to.ensures.levels r tabled are.levels;
  obeyed = are.obeyed;
}

pub returns-in-Some-clause-answers : goal.returns-in-Some-clause-answers
returns-in-Some-clause-answers c = λ r tabled are.
    let is = c.row_agreement.ensures.agreement r tabled.table.codes in
    let broken : IsBroken r (attributes c.args.asked.left) c.args.asked.right c.in-Some.first c.in-Some.second =
    subst (FindsBroken r (attributes c.args.asked.left) c.args.asked.right) c.in-Some.is
    (c.in_ok-first.ensures.pair r tabled (All-same (IsLevel r) c.deref-2.result.now c.lead_to.new.levels.items
    c.deref-2.ensures.value (c.in_ok-lead_to.ensures.levels r tabled are.levels))) in (
      subst (IsEvidence c.args.width r) (sym is)
          (agreement_evidence c.args.width r _ _ tabled.over broken.first broken.second),
      broken_refutes c.args.width r c.row_agreement.result c.args.asked _ _ c.requires.within broken is,
    )

-- what is asked is obeyed, where no two rows break it
obeyed : (c : goal.In_ok-push-in-None) (r : Relation) → AreTabled c.args.width r c.args.table.now
    → AreFindings c.args.width r c.args.findings.now
    → FindsBroken r (attributes c.args.asked.left) c.args.asked.right None
obeyed c r tabled are =
    subst (FindsBroken r (attributes c.args.asked.left) c.args.asked.right) c.in-None.is
    (c.in_ok-first.ensures.pair r tabled (All-same (IsLevel r) c.deref-2.result.now c.lead_to.new.levels.items
    c.deref-2.ensures.value (c.in_ok-lead_to.ensures.levels r tabled are.levels)))

pub returns-in_ok-push-in-None-clause-findings : goal.returns-in_ok-push-in-None-clause-findings
returns-in_ok-push-in-None-clause-findings c = λ r tabled are. record {
  levels = c.in_ok-lead_to.ensures.levels r tabled are.levels;
  obeyed = subst (AreObeyed c.args.width r) (sym c.in_ok-push-in-None.ensures.items)
      (obeyed_push c.args.width r c.args.findings.now.obeyed.items c.dependency_asked.result c.args.asked are.obeyed
      c.requires.within c.dependency_asked.ensures.functional (obeyed c r tabled are));
}

pub returns-in_ok-push-in-None-clause-answers : goal.returns-in_ok-push-in-None-clause-answers
returns-in_ok-push-in-None-clause-answers c = λ r tabled are. inl (obeyed c r tabled are)
