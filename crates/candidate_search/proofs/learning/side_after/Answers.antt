-- What is left to prove of `side_after`: its clause `candidates`.
use Rattle.std.proofs.Common.{List, sym, subst, ◌∙◌}
use Rattle.attr_sets.specs.declared.set.AttrSet.{AttrSet}
use Rattle.dep_model.specs.Plans.{schemes_of}
use Rattle.candidate_sets.specs.Standing.{AreCandidates}
use Rattle.candidate_search.proofs.learning.side_after.Goals as goal

pub returns-in-Ok-clause-candidates : goal.returns-in-Ok-clause-candidates
returns-in-Ok-clause-candidates c = λ es are. c.in-Ok.ensures.candidates es
    (subst (λ (sets : List AttrSet). AreCandidates c.args.width c.args.most es c.args.side.now.right (schemes_of sets))
    (sym (c.in_ok-lefts.ensures.items ∙ c.deref.ensures.value)) are)
