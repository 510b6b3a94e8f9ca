-- What is left to prove of `agreements`: that the invariant of its loop stays, by `TestLemmas`.
use Rattle.std.proofs.Common.{List, sym, subst, arith}
use Rattle.attr_sets.specs.declared.set.AttrSet.{AttrSet}
use Rattle.candidate_sets.specs.Evidence.{AreEvidence, IsEvidence}
use Rattle.dep_model.specs.Plans.{schemes_of}
use Rattle.candidate_search.proofs.TestLemmas.{agreement_evidence, evidence_push}
use Rattle.candidate_search.proofs.sampling.agreements.Goals as goal

pub loop-pair-preserved : goal.loop-pair-preserved
loop-pair-preserved c =
    let at = c.requires.pairs c.loop-pair.pair-index (0, 0) c.loop-pair-test.true in
    record {
      evidence = λ r coded. subst (λ (sets : List AttrSet). AreEvidence c.args.width r (schemes_of sets))
          (sym c.in_ok-push.ensures.items)
          (evidence_push c.args.width r c.loop-pair.found.items c.row_agreement.result
          (c.loop-pair.invariant.evidence r coded)
          (subst (IsEvidence c.args.width r) (sym (c.row_agreement.ensures.agreement r coded.interned))
          (agreement_evidence c.args.width r _ _ coded.over (omega (arith, at.0, coded.interned.count))
          (omega (arith, at.1, coded.interned.count)))));
    }
