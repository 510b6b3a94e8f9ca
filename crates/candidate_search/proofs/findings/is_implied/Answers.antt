-- What is left to prove of `is_implied`: its clause, since rows obey what is implied.
use Rattle.std.proofs.Common.{sym, subst}
use Rattle.attr_sets.specs.Attributes.{Attributes, IsSubset, below}
use Rattle.attr_sets.specs.Sets.{attributes}
use Rattle.candidate_search.proofs.FindingLemmas.{implied_obeyed, only_below}
use Rattle.candidate_search.proofs.findings.is_implied.Goals as goal

pub returns : goal.returns
returns c = record {
  obeys = λ n r over are low implied.
      implied_obeyed n r c.args.obeyed.now (attributes c.args.asked.left) c.single.result c.args.asked.right over are
      c.single.ensures.members
      ((c.follows.ensures.implied.over n are.within low.left
      (subst (λ (y : Attributes). IsSubset y (below n)) (sym c.single.ensures.members)
      (only_below c.args.asked.right n low.right))).0 implied);
}
