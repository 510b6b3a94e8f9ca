-- What is left to prove of `add_branch`: what is added.
use Rattle.std.proofs.Common.{inl, List, subst}
use Rattle.attr_sets.specs.Sets.{attributes}
use Rattle.attr_sets.specs.declared.set.AttrSet.{AttrSet}
use Rattle.dep_model.specs.Plans.{schemes_of}
use Rattle.candidate_branches.specs.Branches.{IsEachLacked}
use Rattle.candidate_branches.proofs.branching.add_branch.Goals as goal

pub returns-clause-added : goal.returns-clause-added
returns-clause-added c = inl (
  subst (λ (sets : List AttrSet). IsEachLacked (schemes_of sets) (attributes c.args.branch.now.set) c.args.column) c.deref.ensures.value
      (c.is_each_lacked.ensures.lacked.0 c.if-not-is_each_lacked.false),
  (c.in_ok-child.field-0, c.in_ok-child.ensures.child, c.in_ok-push.ensures.items),
)
