-- What is left to prove of `part_measure`: its clause `measure` and what its callees require, by
-- `SortedLemmas`.
use Rattle.std.proofs.Common.{ℕ, List, ap, ◌∙◌}
use Rattle.row_measures.specs.Broken.{flagged_groups, flagged_rows}
use Rattle.row_measures.proofs.SortedLemmas.{few_flags, groups_below, measure_is, part_firsts, part_flags}
use Rattle.row_measures.proofs.measuring.part_measure.Goals as goal

pub count_groups-groups-requires : goal.count_groups-groups-requires
count_groups-groups-requires c =
    let are = c.requires.sorted.4 in
    record { fits_u32 = few_flags _ _ _ _ _ (part_firsts _ _ _ _ _ are) (part_flags _ _ _ _ _ are) c.deref.ensures.value c.requires.fits_u32 }

pub count_rows-rows-requires-clause-groups : goal.count_rows-rows-requires-clause-groups
count_rows-rows-requires-clause-groups c =
    let are = c.requires.sorted.4 in
    groups_below _ _ _ _ _ (part_firsts _ _ _ _ _ are) (part_flags _ _ _ _ _ are) c.numbers.ensures.numbers c.deref-2.ensures.value

pub returns : goal.returns
returns c = record {
  measure = λ n x y r are.
      measure_is _ _ _ _ _ _
      (c.count_groups-groups.ensures.count ∙ ap flagged_groups (c.deref.ensures.value ∙ are.broken))
      (c.count_rows-rows.ensures.count ∙ ap (λ (l : List ℕ). flagged_rows l c.deref-2.result.now) (c.numbers.ensures.numbers ∙ are.groups)
      ∙ ap (flagged_rows are.parts.groups) (c.deref-2.ensures.value ∙ are.broken))
      are.missing;
}
