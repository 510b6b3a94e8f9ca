-- What the loop of `group_parts` keeps: the groups so far.
use Rattle.std.proofs.Common.{◌≡◌, map}
use Rattle.dep_model.specs.Projections.{members_below}
use Rattle.legality.specs.Parts.{flag_at}
use Rattle.row_measures.specs.ByPart.{group_by}
use Rattle.row_measures.proofs.listing.group_parts.Given as goal

abbrev pub invariant-loop-group : goal.invariant-loop-group
invariant-loop-group l = record { parts : l.parts.items ≡ map (group_by l.sorted) (members_below l.group (flag_at l.sorted.broken.items)) }
