-- What is left to prove of `add_evidence`: what `is_any_within` requires, and its clauses `candidates` and
-- `refusal`, by `NextLemmas` and the laws of candidates.
use Rattle.std.proofs.Common.{List, sym, subst, ◌∙◌}
use Rattle.std.proofs.lemmas.Bool.{false≢true}
use Rattle.std.proofs.lemmas.Result.{err_from_is_err_and}
use Rattle.attr_sets.specs.Attributes.{Attributes}
use Rattle.attr_sets.specs.declared.set.AttrSet.{AttrSet}
use Rattle.attr_sets.specs.Sets.{attributes}
use Rattle.dep_model.specs.Plans.{schemes_of}
use Rattle.candidate_sets.specs.Standing.{AreCandidates}
use Rattle.candidate_sets.proofs.StepLemmas.{candidates_still}
use Rattle.candidate_sets.specs.Cuts.{Ascend}
use Rattle.candidate_sets.specs.Growing.{HasWithin}
use Rattle.candidate_sets.proofs.NextLemmas.{sets_ascend, untouched}
use Rattle.candidate_sets.proofs.adding.add_evidence.Goals as goal
use Rattle.candidate_sets.proofs.adding.add_evidence.Goals.{else-not-contains-via-then-not-contains+else-is_any_within, else-not-contains-via-else-not-contains}

pub is_any_within-requires : goal.is_any_within-requires
is_any_within-requires c =
    let (es, are) = c.requires.candidates in
    record {
      ascending = subst Ascend (sym c.deref.ensures.value) (sets_ascend c.args.candidates.now.items are.ascending);
    }

pub returns-in_ok-candidates-clause-candidates : goal.returns-in_ok-candidates-clause-candidates
returns-in_ok-candidates-clause-candidates c = λ es are.
    c.in_ok-candidates.ensures.candidates es
    (subst (λ (sets : List AttrSet). AreCandidates c.args.width c.args.most es c.args.right (schemes_of sets))
    (sym c.deref-then-is_any_within.ensures.value) are)

pub returns-in_err-candidates-clause-refusal : goal.returns-in_err-candidates-clause-refusal
returns-in_err-candidates-clause-refusal c = λ es are.
    let p = err_from_is_err_and c.from_residual.result c.from_residual.ensures.1 in
    rw (p.1, p.2) (c.in_err-candidates.ensures.refusal es
    (subst (λ (sets : List AttrSet). AreCandidates c.args.width c.args.most es c.args.right (schemes_of sets))
    (sym c.deref-then-is_any_within.ensures.value) are))

pub returns-else-not-contains-clause-candidates : goal.returns-else-not-contains-clause-candidates
returns-else-not-contains-clause-candidates c = λ es are.
    let e : Attributes = attributes c.args.evidence in
    elim c.else-not-contains.branch [
      | else-not-contains-via-then-not-contains+else-is_any_within w ↦
          untouched c.args.width c.args.most c.args.right e c.args.candidates.now.items es are
          (sym c.contains.ensures.member ∙ w.if-not-contains.true)
          (λ found. false≢true (sym w.if-is_any_within.false ∙ w.is_any_within.ensures.within.1
          (subst (λ (sets : List AttrSet). HasWithin sets e) (sym w.deref.ensures.value) found)))
      | else-not-contains-via-else-not-contains w ↦
          candidates_still c.args.width c.args.most es c.args.right e
          (sym c.contains.ensures.member ∙ w.if-not-contains.false) (schemes_of c.args.candidates.now.items) are
    ]
