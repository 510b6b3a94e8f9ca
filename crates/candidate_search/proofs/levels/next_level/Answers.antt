-- What is left to prove of `next_level`: that the first row leads all rows where there is no level yet.
use Rattle.std.proofs.Common.{◌≡◌, ◌∙◌, ℕ, replicate, subst}
use Rattle.attr_sets.specs.Sets.{attributes}
use Rattle.attr_sets.proofs.AttributesLemmas.{same_at}
use Rattle.dep_model.specs.Tuples.{Relation}
use Rattle.fd_discovery.specs.Leaders.{AreLeadersOn}
use Rattle.fd_discovery.proofs.LeaderLemmas.{first_leads}
use Rattle.candidate_search.specs.Levels.{AreTabled}
use Rattle.candidate_search.proofs.levels.next_level.Goals as goal
use Rattle.candidate_search.proofs.levels.next_level.Goals.{In_ok-leaders}

-- the first row leads all others on the empty set
led : (c : In_ok-leaders) (r : Relation) → AreTabled c.args.width r c.args.table.now
    → AreLeadersOn r (attributes c.empty-set.result) c.in_ok-leaders.leaders.items
led c r tabled = first_leads r (attributes c.empty-set.result) c.in_ok-leaders.leaders.items
    (same_at c.empty-set.ensures.members)
    (subst (λ (n : ℕ). c.in_ok-leaders.leaders.items ≡ replicate n 0) (c.count.ensures.count ∙ tabled.table.codes.count)
    (c.in_ok-leaders.ensures.items_if_clones_equal (λ y e. e)))

pub one_more-requires-clause-rows : goal.one_more-requires-clause-rows
one_more-requires-clause-rows c =
    let (r, tabled, are) = c.requires.rows in
    (r, tabled, led ((goal.at.one_more-requires-clause-rows c).In_ok-leaders) r tabled)

pub returns-then-is_empty : goal.returns-then-is_empty
returns-then-is_empty c = record {
  level = λ r tabled are.
      c.one_more.ensures.level r tabled (led ((goal.at.returns-then-is_empty c).In_ok-leaders) r tabled);
}
