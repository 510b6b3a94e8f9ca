use Rattle.std.proofs.Common.{◌≡◌, [], length}
use Rattle.std.specs.Prelude.{All}
use Rattle.tableau_chase.proofs.row_groups.no_followers.Given as goal

abbrev pub invariant-loop-i : goal.invariant-loop-i
invariant-loop-i l = record { count : length l.groups.items ≡ l._i; none : All (λ group. group ≡ []) l.groups.items }
