-- What the loop of `SymbolRow::symbols_at` keeps.
use Rattle.std.proofs.Common.{◌≡◌, map, take}
use Rattle.chase_laws.specs.Tableaux.{symbol_at}
use Rattle.tableau_chase.proofs.symbol_row.SymbolRow.symbols_at.Given as goal

abbrev pub invariant-loop-a : goal.invariant-loop-a
invariant-loop-a l = l.symbols.items ≡ map (symbol_at l.self) (take l.a-index l.listed)
