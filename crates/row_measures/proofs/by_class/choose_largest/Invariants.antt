-- What the loop of `choose_largest` keeps: the largest of the classes so far.
use Rattle.std.proofs.Common.{◌≡◌, length}
use Rattle.row_measures.specs.ByClass.{AreLargestBelow}
use Rattle.row_measures.proofs.by_class.choose_largest.Given as goal

abbrev pub invariant-loop-class : goal.invariant-loop-class
invariant-loop-class l = record {
  count : length l.chosen.items ≡ length l.fn.chosen.items;
  largest : AreLargestBelow l.class l.owners l.sizes l.chosen.items;
}
