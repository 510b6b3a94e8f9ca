-- What the loop of `rests_beside` keeps: `count` and `beside`.
use Rattle.std.proofs.Common.{◌≡◌, length}
use Rattle.legality.specs.Parts.{AreBeside}
use Rattle.legality.proofs.multivalued.rests_beside.Given as goal

-- the rests of the rows so far are marked
abbrev pub invariant-loop-row : goal.invariant-loop-row
invariant-loop-row l = record {
  count : length l.beside.items ≡ l.count;
  beside : AreBeside l.lefts l.rests l.first l.row l.beside.items;
}
