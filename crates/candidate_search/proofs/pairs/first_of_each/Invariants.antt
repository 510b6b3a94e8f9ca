-- What the loop of `first_of_each` keeps: `so_far`.
use Rattle.std.proofs.Common.{◌≡◌, map, take}
use Rattle.row_groups.specs.Interning.{firsts_of, groups_of}
use Rattle.row_groups.specs.Numberings.{number_at}
use Rattle.candidate_search.proofs.pairs.first_of_each.Given as goal

-- the first rows so far
abbrev pub invariant-loop-group : goal.invariant-loop-group
invariant-loop-group l = record {
  so_far : l.firsts.items ≡ map (number_at (firsts_of l.groups)) (take l.group-index (groups_of l.groups));
}
