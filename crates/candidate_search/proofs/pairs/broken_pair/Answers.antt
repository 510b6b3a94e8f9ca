-- What is left to prove of `broken_pair`: what `broken_in` requires, and its clause `pair`.
use Rattle.attr_sets.specs.Sets.{attributes}
use Rattle.row_groups.specs.Interning.{IsInterned, firsts_of, groups_of}
use Rattle.dep_model.specs.Tuples.{Relation}
use Rattle.fd_discovery.specs.Leaders.{AreLeadersOn}
use Rattle.candidate_search.proofs.LevelLemmas.{firsts_lead}
use Rattle.candidate_search.proofs.pairs.broken_pair.Goals as goal
use Rattle.candidate_search.proofs.pairs.broken_pair.Goals.{In_ok-leaders}

-- the rows by the first rows of their groups
led : (c : In_ok-leaders) (r : Relation) → IsInterned c.args.width r c.args.codes.now
    → AreLeadersOn r (attributes c.args.set) c.in_ok-leaders.leaders.items
led c r coded =
    let groups = c.in_ok-groups.groups in
    firsts_lead r (attributes c.args.set) (groups_of groups) (firsts_of groups) c.in_ok-leaders.leaders.items
    (c.in_ok-groups.ensures.groups c.args.width r coded) (c.in_ok-groups.ensures.firsts c.args.width r coded)
    c.in_ok-leaders.ensures.firsts

pub broken_in-requires-clause-rows : goal.broken_in-requires-clause-rows
broken_in-requires-clause-rows c =
    let (r, coded) = c.requires.rows in
    (r, coded, led ((goal.at.broken_in-requires-clause-rows c).In_ok-leaders) r coded)

pub returns : goal.returns
returns c = record {
  pair = λ r coded. c.broken_in.ensures.pair r coded (led ((goal.at.returns c).In_ok-leaders) r coded);
}
