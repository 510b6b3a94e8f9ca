-- What is left to prove of `part_counts`: that the invariant of its loop holds at first and stays, and that its sums
-- fit, by `PartLemmas`.
use Rattle.std.proofs.Common.{arith, ◌≡◌, ◌<◌, ◌≤◌, ◌+◌, ◌==◌, ℕ, List, length, slice_index_or, slice_set, ap, subst, sym, ◌∙◌}
use Rattle.std.proofs.lemmas.List.{length-set, length-replicate}
use Rattle.attr_sets.specs.Attributes.{count_below}
use Rattle.attr_sets.proofs.AttributesLemmas.{count_below-le}
use Rattle.row_groups.specs.Interning.{groups_of, firsts_of}
use Rattle.row_groups.specs.Numberings.{number_at}
use Rattle.dep_model.proofs.ListLemmas.{same_default}
use Rattle.legality.proofs.PartLemmas.{no_parts, group_of, group_within, part_counted}
use Rattle.legality.proofs.counting.part_counts.Goals as goal
use Rattle.legality.proofs.counting.part_counts.Goals.{After-index_mut}

pub loop-row-init : goal.loop-row-init
loop-row-init c = record {
  one_each = ap length c.in_ok-counts.ensures.zeros ∙ length-replicate (length c.firsts.result.now) 0 ∙ ap length c.firsts.ensures.firsts;
  count = λ h l. no_parts (λ g. number_at (groups_of c.args.groups.now) (number_at (firsts_of c.args.parts.now) g)) (length c.firsts.result.now) h
      c.in_ok-counts.counts.items c.in_ok-counts.ensures.zeros;
}

-- the group of a part
abbrev group : After-index_mut → ℕ → ℕ
group c g = number_at (groups_of c.args.groups.now) (number_at (firsts_of c.args.parts.now) g)

-- that of the next part is computed, and has a count, which is looked up
computed : (c : After-index_mut) → number_at c.numbers-numbers.result.now (number_at c.firsts-row-items.result.now c.loop-row.row-index) ≡ group c c.loop-row.row-index
computed c =
    group_of (groups_of c.args.groups.now) (firsts_of c.args.parts.now) c.numbers-numbers.result.now c.firsts-row-items.result.now c.loop-row.row-index
    c.numbers-numbers.ensures.numbers c.firsts-row-items.ensures.firsts

in_firsts : (c : After-index_mut) → c.loop-row.row-index < length (firsts_of c.args.parts.now)
in_firsts c = subst (λ (xs : List ℕ). c.loop-row.row-index < length xs) c.firsts-row-items.ensures.firsts c.loop-row-test.true

within : (c : After-index_mut) → group c c.loop-row.row-index < length c.loop-row.counts.items
within c =
    subst (λ (m : ℕ). group c c.loop-row.row-index < m) (sym c.loop-row.invariant.one_each)
    (group_within _ _ _ _ c.loop-row.row-index c.requires.groups c.requires.parts c.requires.same_length (in_firsts c))

looked_up : (c : After-index_mut) → c.index_mut.result.now ≡ number_at c.loop-row.counts.items (group c c.loop-row.row-index)
looked_up c =
    c.index_mut.ensures.value ∙ ap (λ (m : ℕ). slice_index_or c.loop-row.counts.items m c.index_mut.result.now) (computed c)
    ∙ same_default c.loop-row.counts.items (group c c.loop-row.row-index) c.index_mut.result.now 0 (within c)

pub overflow_add-index_mut : goal.overflow_add-index_mut
overflow_add-index_mut c =
    let i : ℕ = c.loop-row.row-index in
    let at = (goal.at.overflow_add-index_mut c).After-index_mut in
    let count : c.index_mut.result.now ≡ count_below (λ g. group at g == group at i) i = looked_up at ∙ c.loop-row.invariant.count (group at i) (within at) in
    let within_limit : count_below (λ g. group at g == group at i) i ≤ i = count_below-le i (λ g. group at g == group at i) in
    omega (arith, count, within_limit, in_firsts at, c.requires.fits_u32)

pub loop-row-preserved : goal.loop-row-preserved
loop-row-preserved c =
    let i : ℕ = c.loop-row.row-index in
    let at = (goal.at.loop-row-preserved c).After-index_mut in
    let new : slice_set c.loop-row.counts.items (slice_index_or c.numbers-numbers.result.now (slice_index_or c.firsts-row-items.result.now i 0) 0) (c.index_mut.result.now + 1)
    ≡ slice_set c.loop-row.counts.items (group at i) (number_at c.loop-row.counts.items (group at i) + 1) =
    ap (λ (m : ℕ). slice_set c.loop-row.counts.items m (c.index_mut.result.now + 1)) (computed at)
    ∙ ap (λ (m : ℕ). slice_set c.loop-row.counts.items (group at i) (m + 1)) (looked_up at) in
    record {
      one_each = length-set c.loop-row.counts.items _ _ ∙ c.loop-row.invariant.one_each;
      count = part_counted (group at) c.loop-row.counts.items _ i (within at) new c.loop-row.invariant.count;
    }
