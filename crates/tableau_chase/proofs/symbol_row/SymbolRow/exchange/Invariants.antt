-- What the loop of `SymbolRow::exchange` keeps.
use Rattle.std.proofs.Common.{◌≡◌}
use Rattle.attr_sets.specs.Sets.{attributes}
use Rattle.chase_laws.specs.Steps.{exchange_rows}
use Rattle.tableau_chase.proofs.symbol_row.SymbolRow.exchange.Given as goal

abbrev pub invariant-loop-a : goal.invariant-loop-a
invariant-loop-a l = l.symbols.items ≡ exchange_rows l.a (attributes l.on) l.self l.other
