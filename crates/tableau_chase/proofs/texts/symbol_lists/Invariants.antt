use Rattle.std.proofs.Common.{◌≡◌, ℕ, map, take, Vec, Global}
use Rattle.tableau_chase.proofs.texts.symbol_lists.Given as goal

abbrev pub invariant-loop-i : goal.invariant-loop-i
invariant-loop-i l = map (λ (list : Vec ℕ Global). list.items) l.lists.items ≡ take l.i l.rows
