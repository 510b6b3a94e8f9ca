-- What is left to prove of `loss_of`: its clauses `kept`, `lost` and `all`, by `KeepingLemmas`.
use Rattle.std.proofs.Common.{refl}
use Rattle.std.proofs.lemmas.Bool.{false≢true}
use Rattle.attr_sets.specs.Sets.{attributes}
use Rattle.dep_model.specs.Theories.{width_of, theory_of}
use Rattle.preservation.specs.SchemeClosures.{plan_of_closures}
use Rattle.preservation.proofs.KeepingLemmas.{holds_follows, lacking_all, lacking_lost}
use Rattle.preservation.proofs.losing.loss_of.Goals as goal

pub returns-then-is_subset-clause-kept : goal.returns-then-is_subset-clause-kept
returns-then-is_subset-clause-kept c =
    let s = c.args.theory.now in
    rw c.in-Fd.is (holds_follows (width_of s) (theory_of s) (plan_of_closures c.args.closures.now) (attributes c.in-Fd.lhs)
    (attributes c.in-Fd.rhs) (attributes c.closure_after-closed.result)
    c.closure_after-closed.ensures.follows (c.if-is_subset.ensures.subset.0 refl))

pub returns-else-is_subset-clause-lost : goal.returns-else-is_subset-clause-lost
returns-else-is_subset-clause-lost c =
    let s = c.args.theory.now in
    let sides = (rw c.in-Fd.is at c.requires.dep) in
    rw c.in-Fd.is (lacking_lost (width_of s) (theory_of s) (plan_of_closures c.args.closures.now) (attributes c.in-Fd.lhs)
    (attributes c.in-Fd.rhs) (attributes c.closure_after-closed.result)
    sides.0 sides.1 c.closure_after-closed.ensures.found
    (λ within. false≢true (c.if-is_subset.ensures.subset.1 within)))

pub returns-else-is_subset-clause-all : goal.returns-else-is_subset-clause-all
returns-else-is_subset-clause-all c =
    let s = c.args.theory.now in
    lacking_all (width_of s) (theory_of s) (plan_of_closures c.args.closures.now) (attributes c.in-Fd.lhs)
    (attributes c.in-Fd.rhs) (attributes c.closure_after-closed.result) c.closure_after-closed.ensures.found
    (λ within. false≢true (c.if-is_subset.ensures.subset.1 within))
