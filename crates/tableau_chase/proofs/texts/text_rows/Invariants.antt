use Rattle.std.proofs.Common.{◌≡◌, ℕ, map, take, Vec, Global}
use Rattle.std.specs.Prelude.{decimal}
use Rattle.tableau_chase.proofs.texts.text_rows.Given as goal

abbrev pub invariant-loop-i : goal.invariant-loop-i
invariant-loop-i l = l.texts.items ≡ map (λ (list : Vec ℕ Global). map decimal list.items) (take l.i l.lists)
