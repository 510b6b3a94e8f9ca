-- What the loop of `refine_leaders` keeps: `latest_size`, `finer_size`, `latest_in` and `refines`.
use Rattle.std.proofs.Common.{◌≡◌, ◌<◌, ℕ, length}
use Rattle.attr_sets.specs.Attributes.{Attributes, only}
use Rattle.dep_model.specs.Tuples.{Relation}
use Rattle.row_groups.specs.Numberings.{AreGroups, number_at}
use Rattle.fd_discovery.specs.Leaders.{AreLeadersOn, IsOrderOf}
use Rattle.fd_discovery.proofs.LeaderLemmas.{Refines}
use Rattle.fd_discovery.proofs.leaders.refine_leaders.Given as goal

-- the rows so far have their new leaders
abbrev pub invariant-loop-next : goal.invariant-loop-next
invariant-loop-next l = record {
  latest_size : length l.latest.items ≡ length l.leaders;
  finer_size : length l.finer.items ≡ length l.leaders;
  latest_in : (i : ℕ) → i < length l.leaders → number_at l.latest.items i < length l.leaders;
  refines : (r : Relation) (x : Attributes) (k : ℕ) → AreLeadersOn r x l.leaders → AreGroups r (only k) l.codes
      → IsOrderOf l.codes l.order
      → Refines (length l.leaders) (length l.order) (number_at l.leaders) (number_at l.codes)
      (number_at l.order) l.next-index
      (number_at l.latest.items) (number_at l.finer.items);
}
