-- What the loop of `first_sharing` keeps, in terms of `put_first`.
use Rattle.std.proofs.Common.{◌≡◌, take, drop, [], not}
use Rattle.attr_sets.specs.Sets.{attributes, is_disjoint}
use Rattle.dep_model.specs.JoinOrders.{put_first}
use Rattle.sql_scripts.proofs.ordering.first_sharing.Given as goal

-- none of those before shares an attribute
abbrev pub invariant-loop-i : goal.invariant-loop-i
invariant-loop-i l =
    put_first (λ t. not (is_disjoint (attributes l.seen) (attributes t.scheme))) (take l.i l.tables) (drop l.i l.tables)
    ≡ put_first (λ t. not (is_disjoint (attributes l.seen) (attributes t.scheme))) [] l.tables
