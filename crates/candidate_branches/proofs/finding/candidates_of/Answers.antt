-- What is left to prove of `candidates_of`: its clause, by `FindLemmas`.
use Rattle.std.proofs.Common.{ℕ, List, Vec, Global, ap, subst}
use Rattle.std.specs.Prelude.{Option, IfSome}
use Rattle.attr_sets.specs.Attributes.{Attributes}
use Rattle.attr_sets.specs.declared.set.AttrSet.{AttrSet}
use Rattle.dep_model.specs.Plans.{schemes_of}
use Rattle.candidate_sets.specs.Standing.{AreCandidates}
use Rattle.candidate_branches.specs.declared.branch.Branch.{Branch}
use Rattle.candidate_branches.specs.Branches.{AreAllAbove}
use Rattle.candidate_branches.specs.Largest.{AreLargest}
use Rattle.candidate_branches.proofs.FindLemmas.{listed_also, root_branch, root_candidates}
use Rattle.candidate_branches.proofs.finding.candidates_of.Goals as goal

pub returns-in-Some : goal.returns-in-Some
returns-in-Some c =
    let n : ℕ = c.args.width in
    let most : ℕ = c.args.most in
    let a : ℕ = c.args.right in
    let es : List Attributes = schemes_of c.args.evidence.now in
    let largest : List Attributes = schemes_of c.in-Some.largest.items in
    let root : Branch = c.empty_branch-root.result in
    let made = c.empty_branch-root.ensures in
    let are : AreLargest a es largest = subst (λ (o : Option (Vec AttrSet Global)). IfSome o (λ sets. AreLargest a es (schemes_of sets.items))) c.in-Some.is c.in_ok-largest.ensures.largest in
    record {
      candidates = listed_also (AreAllAbove n most a largest root) (AreCandidates n most es a)
          (λ xs all_above. root_candidates n most a es largest are root xs made.set made.free all_above) c.all_above.result
          (c.all_above.ensures.all most a largest (root_branch n most a es largest are root made.set made.free made.left (ap schemes_of made.held) made.once));
    }
