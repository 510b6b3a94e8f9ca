-- What is left to prove of `class_part`: that the group of the class has a number and a chosen class.
use Rattle.std.proofs.Common.{◌<◌, length, sym, ◌∙◌, arith}
use Rattle.row_groups.specs.Interning.{firsts_of}
use Rattle.row_groups.specs.Numberings.{number_at}
use Rattle.row_measures.proofs.OrderLemmas.{owners_below}
use Rattle.row_measures.proofs.listing.class_part.Goals as goal

pub bounds-numbers-group : goal.bounds-numbers-group
bounds-numbers-group c =
    let are = c.requires.sorted.3 in
    let low : number_at c.args.owners.now c.args.class < length (firsts_of c.args.sorted.now.groups) =
    owners_below _ _ _ _ _ c.requires.owners are.group_rows are.class_rows (are.by_left.one_each ∙ sym are.by_both.one_each) c.args.class c.requires.class in
    omega (arith, low, are.flags.one_each, c.requires.numbers.one_each)

pub index-requires-2 : goal.index-requires-2
index-requires-2 c =
    let are = c.requires.sorted.3 in
    let low : number_at c.args.owners.now c.args.class < length (firsts_of c.args.sorted.now.groups) =
    owners_below _ _ _ _ _ c.requires.owners are.group_rows are.class_rows (are.by_left.one_each ∙ sym are.by_both.one_each) c.args.class c.requires.class in
    omega (arith, low, are.largest.one_each, c.args.sorted.now.chosen.ok.0)
