-- What the loop of `leaders` keeps: `numbered` and `are`.
use Rattle.std.proofs.Common.{map, take}
use Rattle.attr_sets.specs.Sets.{attributes}
use Rattle.tableau_chase.specs.Groups.{AreSymbolLeaders}
use Rattle.tableau_chase.specs.Numbers.{IsNumbering}
use Rattle.tableau_chase.proofs.RowLemmas.{key_on}
use Rattle.tableau_chase.proofs.row_groups.leaders.Given as goal

abbrev pub invariant-loop-i : goal.invariant-loop-i
invariant-loop-i l = record {
  numbered : IsNumbering (map (key_on l.width (attributes l.fn.on)) (take l.i l.rows)) l.numbers;
  are : AreSymbolLeaders (attributes l.fn.on) (take l.i l.rows) l.leaders.items;
}
