-- What is left to prove of `discover`: its clauses `minimal`, `implied` and `within` and what
-- `search_above` requires, by `LeaderLemmas` and `SearchLemmas`.
use Rattle.std.proofs.Common.{◌≡◌, ℕ, List, length, replicate, ap, subst}
use Rattle.attr_sets.specs.Attributes.{below}
use Rattle.attr_sets.specs.Sets.{attributes}
use Rattle.dep_model.specs.Dependencies.{IsWithin}
use Rattle.dep_model.specs.Deps.{dependencies_of}
use Rattle.dep_model.proofs.DepLemmas.{dependencies_all-to}
use Rattle.fd_discovery.specs.Searching.{AreFound}
use Rattle.attr_sets.proofs.AttributesLemmas.{same_at}
use Rattle.fd_discovery.proofs.LeaderLemmas.{first_led}
use Rattle.fd_discovery.proofs.SearchLemmas.{search_whole, all_minimal, implied_by_rows, all_within}
use Rattle.fd_discovery.proofs.discovering.discover.Goals as goal
use Rattle.fd_discovery.proofs.discovering.discover.Goals.{In_ok-search_above}

pub search_above-requires-clause-rows : goal.search_above-requires-clause-rows
search_above-requires-clause-rows c = (
  c.args.rows.now,
  first_led c.args.width c.args.rows.now c.in_ok-table.table (attributes c.empty-none.result) c.in_ok-leaders.leaders.items c.deref-2.result.now
      c.in_ok-table.ensures.table (same_at c.empty-none.ensures.members)
      (subst (λ (n : ℕ). c.in_ok-leaders.leaders.items ≡ replicate n 0) c.len.ensures.count
      (c.in_ok-leaders.ensures.items_if_clones_equal (λ y e. e))) c.deref-2.ensures.value,
)

-- what the search has found in the end
found : (c : In_ok-search_above) → AreFound c.args.width c.args.rows.now (below c.args.width) c.args.width (dependencies_of c.search_above.new.found.items)
found c =
    let rows = c.args.rows.now in
    let none = attributes c.empty-none.result in
    let zeros : c.in_ok-leaders.leaders.items ≡ replicate (length rows) 0 =
    subst (λ (n : ℕ). c.in_ok-leaders.leaders.items ≡ replicate n 0) c.len.ensures.count
    (c.in_ok-leaders.ensures.items_if_clones_equal (λ y e. e)) in
    let led = λ (given : List ℕ) (same : given ≡ c.in_ok-leaders.leaders.items).
    first_led c.args.width rows c.in_ok-table.table none c.in_ok-leaders.leaders.items given c.in_ok-table.ensures.table (same_at c.empty-none.ensures.members) zeros same in
    search_whole c.in_ok-table.table.width c.args.width rows none
    (attributes c.full-all.result) _ _ _ c.in_ok-table.ensures.table.width (same_at c.empty-none.ensures.members) c.full-all.ensures.members
    (ap dependencies_of c.new-found.ensures.items)
    (c.in_ok-add_minimal.ensures.found rows (led c.deref.result.now c.deref.ensures.value))
    (c.in_ok-search_above.ensures.found rows (led c.deref-2.result.now c.deref-2.ensures.value))

pub returns-clause-minimal : goal.returns-clause-minimal
returns-clause-minimal c = all_minimal c.args.width c.args.rows.now (dependencies_of c.search_above.new.found.items) (found (goal.at.returns-clause-minimal c).In_ok-search_above)

pub returns-clause-implied : goal.returns-clause-implied
returns-clause-implied c = implied_by_rows c.args.width c.args.rows.now (dependencies_of c.search_above.new.found.items) (found (goal.at.returns-clause-implied c).In_ok-search_above) c.requires.over

pub returns-clause-within : goal.returns-clause-within
returns-clause-within c =
    let minimal = returns-clause-minimal c in
    dependencies_all-to (IsWithin (below c.args.width)) c.search_above.new.found.items
    (all_within c.args.width c.args.rows.now (dependencies_of c.search_above.new.found.items) minimal)
