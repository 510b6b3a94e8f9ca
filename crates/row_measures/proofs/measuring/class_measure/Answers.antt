-- What is left to prove of `class_measure`: its clause `measure` and what its callees require, by
-- `SortedLemmas`.
use Rattle.std.proofs.Common.{ℕ, List, ap, ◌∙◌}
use Rattle.row_groups.specs.Interning.{groups_of}
use Rattle.row_measures.specs.Broken.{flagged_groups, flagged_rows, rows_outside}
use Rattle.row_measures.proofs.SortedLemmas.{even, few_flags, groups_below, measure_is}
use Rattle.row_measures.proofs.measuring.class_measure.Goals as goal

pub count_groups-groups-requires : goal.count_groups-groups-requires
count_groups-groups-requires c =
    let are = c.requires.sorted.3 in
    record { fits_u32 = few_flags _ _ _ _ _ are.group_rows are.flags.one_each c.deref.ensures.value c.requires.fits_u32 }

pub count_rows-rows-requires-clause-groups : goal.count_rows-rows-requires-clause-groups
count_rows-rows-requires-clause-groups c =
    let are = c.requires.sorted.3 in
    groups_below _ _ _ _ _ are.group_rows are.flags.one_each c.numbers-numbers.ensures.numbers c.deref-2.ensures.value

pub count_outside-amount-requires-clause-same_length : goal.count_outside-amount-requires-clause-same_length
count_outside-amount-requires-clause-same_length c =
    even _ _ _ _ _ _ c.requires.sorted.3 c.numbers.ensures.numbers c.numbers-numbers.ensures.numbers

pub count_outside-amount-requires-clause-groups : goal.count_outside-amount-requires-clause-groups
count_outside-amount-requires-clause-groups c =
    let are = c.requires.sorted.3 in
    groups_below _ _ _ _ _ are.group_rows are.largest.one_each c.numbers-numbers.ensures.numbers c.deref-3.ensures.value

pub returns : goal.returns
returns c = record {
  measure = λ x y r are.
      measure_is _ _ _ _ _ _
      (c.count_groups-groups.ensures.count ∙ ap flagged_groups c.deref.ensures.value)
      (c.count_rows-rows.ensures.count ∙ ap (λ (l : List ℕ). flagged_rows l c.deref-2.result.now) c.numbers-numbers.ensures.numbers
      ∙ ap (flagged_rows (groups_of c.args.sorted.now.groups)) c.deref-2.ensures.value)
      (c.count_outside-amount.ensures.count
      ∙ ap (λ (l : List ℕ). rows_outside l c.numbers.result.now c.deref-3.result.now) c.numbers-numbers.ensures.numbers
      ∙ ap (λ (l : List ℕ). rows_outside (groups_of c.args.sorted.now.groups) l c.deref-3.result.now) c.numbers.ensures.numbers
      ∙ ap (rows_outside (groups_of c.args.sorted.now.groups) (groups_of c.args.sorted.now.classes)) c.deref-3.ensures.value);
}
