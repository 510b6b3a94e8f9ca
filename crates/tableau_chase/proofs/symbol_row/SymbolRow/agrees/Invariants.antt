-- What the loop of `SymbolRow::agrees` keeps.
use Rattle.std.proofs.Common.{◌≡◌, map, take}
use Rattle.chase_laws.specs.Tableaux.{symbol_at}
use Rattle.tableau_chase.proofs.symbol_row.SymbolRow.agrees.Given as goal

abbrev pub invariant-loop-k : goal.invariant-loop-k
invariant-loop-k l = map (symbol_at l.self) (take l.k l.listed) ≡ map (symbol_at l.other) (take l.k l.listed)
