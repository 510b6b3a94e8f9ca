-- What the loop of `replace` keeps, in terms of `replace_in_row`.
use Rattle.std.proofs.Common.{◌≡◌, ◌++◌, map, take, drop}
use Rattle.chase_laws.specs.Steps.{replace_in_row}
use Rattle.tableau_chase.proofs.equating.replace.Given as goal

abbrev pub invariant-loop-i : goal.invariant-loop-i
invariant-loop-i l = l.rows ≡ map (replace_in_row l.a l.former l.later) (take l.i l.initial.rows) ++ drop l.i l.initial.rows
