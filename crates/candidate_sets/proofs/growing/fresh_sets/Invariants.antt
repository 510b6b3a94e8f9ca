-- What the loop of `fresh_sets` keeps: `fresh`, `within_limit`.
use Rattle.std.proofs.Common.{◌+◌, ◌≤◌, length, take}
use Rattle.attr_sets.specs.Sets.{attributes}
use Rattle.candidate_sets.specs.Growing.{AreFresh}
use Rattle.candidate_sets.specs.declared.refusal.TheConstants.{MOST_CANDIDATES}
use Rattle.candidate_sets.proofs.growing.fresh_sets.Given as goal

-- the hit sets so far are grown
abbrev pub invariant-loop-hit : goal.invariant-loop-hit
invariant-loop-hit l = record {
  fresh : AreFresh l.kept (attributes l.columns) (take l.hit-index l.hits) l.width l.new.items;
  within_limit : length l.kept + length l.new.items ≤ MOST_CANDIDATES;
}
