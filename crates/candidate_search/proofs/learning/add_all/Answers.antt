-- What is left to prove of `add_all`: what `add_evidence` requires, that the invariant of its loop stays,
-- and its clauses `candidates` and `refusal`, by `SideLemmas`.
use Rattle.std.proofs.Common.{◌++◌, ◌∷◌, List, get_or, take, subst, arith}
use Rattle.std.proofs.lemmas.List.{take_all}
use Rattle.std.proofs.lemmas.Result.{err_from_is_err_and}
use Rattle.attr_sets.specs.Attributes.{Attributes}
use Rattle.attr_sets.specs.declared.set.AttrSet.{AttrSet}
use Rattle.attr_sets.specs.Sets.{attributes}
use Rattle.dep_model.specs.Plans.{schemes_of}
use Rattle.dep_model.proofs.FailureLemmas.{refuses_also}
use Rattle.candidate_sets.specs.Standing.{AreCandidates, ExceedsCandidates, HasMoreCandidates}
use Rattle.candidate_sets.specs.declared.refusal.TheConstants.{MOST_CANDIDATES}
use Rattle.candidate_search.proofs.SideLemmas.{candidates_more, exceeds_more}
use Rattle.candidate_search.proofs.learning.add_all.Goals as goal

abbrev no_set : AttrSet
no_set = record { 0 = 0 }

pub add_evidence-requires-clause-candidates : goal.add_evidence-requires-clause-candidates
add_evidence-requires-clause-candidates c =
    let (es, are) = c.requires.candidates in
    (schemes_of (take c.loop-evidence.evidence-index c.args.found.now) ++ es, c.loop-evidence.invariant.candidates es are)

pub loop-evidence-preserved : goal.loop-evidence-preserved
loop-evidence-preserved c = record {
  candidates = λ es are. candidates_more c.args.width c.args.most c.args.right c.args.found.now
      c.loop-evidence.evidence-index no_set es (schemes_of c.add_evidence.new.candidates.items) c.loop-evidence-test.true
      (c.in_ok-add_evidence.ensures.candidates (schemes_of (take c.loop-evidence.evidence-index c.args.found.now) ++ es)
      (c.loop-evidence.invariant.candidates es are));
  within_limit = c.in_ok-add_evidence.ensures.within_limit;
}

pub returns-in_err-add_evidence-clause-refusal : goal.returns-in_err-add_evidence-clause-refusal
returns-in_err-add_evidence-clause-refusal c = λ r es seen new are.
    let p = err_from_is_err_and c.from_residual.result c.from_residual.ensures.1 in
    let before : List Attributes =
    schemes_of (take c.loop-evidence.evidence-index c.args.found.now) ++ es in
    let e = attributes (get_or c.args.found.now c.loop-evidence.evidence-index no_set) in
    rw (p.1, p.2) (refuses_also
    (λ _. HasMoreCandidates c.args.width c.args.most (e ∷ before) c.args.right MOST_CANDIDATES)
    (λ _. ExceedsCandidates c.args.width c.args.most r c.args.right MOST_CANDIDATES) c.in_err-add_evidence.field-0.0
    (λ _ more. exceeds_more c.args.width c.args.most r c.args.right MOST_CANDIDATES c.args.found.now
    c.loop-evidence.evidence-index no_set es c.loop-evidence-test.true seen new more)
    (c.in_err-add_evidence.ensures.refusal before (c.loop-evidence.invariant.candidates es are)))

pub returns-clause-candidates : goal.returns-clause-candidates
returns-clause-candidates c = λ es are.
    subst (λ (sets : List AttrSet). AreCandidates c.args.width c.args.most (schemes_of sets ++ es) c.args.right
    (schemes_of c.loop-evidence.candidates.items))
    (take_all c.loop-evidence.evidence-index c.args.found.now (omega (arith, c.loop-evidence-test.false)))
    (c.loop-evidence.invariant.candidates es are)
