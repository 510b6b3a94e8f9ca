-- What the loop of `SymbolRow::of_scheme` keeps.
use Rattle.std.proofs.Common.{◌≡◌}
use Rattle.attr_sets.specs.Sets.{attributes}
use Rattle.chase_laws.specs.Tableaux.{scheme_row}
use Rattle.tableau_chase.proofs.symbol_row.SymbolRow.of_scheme.Given as goal

abbrev pub invariant-loop-a : goal.invariant-loop-a
invariant-loop-a l = l.symbols.items ≡ scheme_row l.a (attributes l.scheme) l.number
