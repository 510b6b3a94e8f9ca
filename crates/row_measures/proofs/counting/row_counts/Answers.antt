-- What is left to prove of `row_counts`: that the invariant of its loop holds at first and stays and that its
-- sums fit, by the lemmas of parts.
use Rattle.std.proofs.Common.{◌≡◌, ◌<◌, ◌≤◌, ◌+◌, ◌==◌, ℕ, List, length, slice_set, ap, ◌∙◌, arith}
use Rattle.std.proofs.lemmas.List.{length-set, length-replicate}
use Rattle.attr_sets.specs.Attributes.{count_below}
use Rattle.attr_sets.proofs.AttributesLemmas.{count_below-le}
use Rattle.row_groups.specs.Numberings.{number_at}
use Rattle.dep_model.proofs.ListLemmas.{same_default}
use Rattle.legality.proofs.PartLemmas.{no_parts, part_counted}
use Rattle.row_measures.proofs.counting.row_counts.Goals as goal
use Rattle.row_measures.proofs.counting.row_counts.Goals.{After-index_mut}

pub loop-number-init : goal.loop-number-init
loop-number-init c = record {
  one_each = ap length c.in_ok-counts.ensures.zeros ∙ length-replicate c.args.count 0;
  each = λ h low. no_parts (number_at c.args.numbers.now) c.args.count h c.in_ok-counts.counts.items c.in_ok-counts.ensures.zeros;
}

-- the number that is counted, and its count so far
abbrev number : After-index_mut → ℕ
number c = number_at c.args.numbers.now c.loop-number.number-index

within : (c : After-index_mut) → number c < length c.loop-number.counts.items
within c = omega (arith, c.requires.numbers c.loop-number.number-index c.loop-number-test.true, c.loop-number.invariant.one_each)

looked_up : (c : After-index_mut) → c.index_mut.result.now ≡ number_at c.loop-number.counts.items (number c)
looked_up c = c.index_mut.ensures.value ∙ same_default c.loop-number.counts.items (number c) c.index_mut.result.now 0 (within c)

pub overflow_add-index_mut : goal.overflow_add-index_mut
overflow_add-index_mut c =
    let at = (goal.at.overflow_add-index_mut c).After-index_mut in
    let i : ℕ = c.loop-number.number-index in
    let count : c.index_mut.result.now ≡ count_below (λ k. number_at c.args.numbers.now k == number at) i =
    looked_up at ∙ c.loop-number.invariant.each (number at) (within at) in
    let within_limit : count_below (λ k. number_at c.args.numbers.now k == number at) i ≤ i =
    count_below-le i (λ k. number_at c.args.numbers.now k == number at) in
    let end : i < length c.args.numbers.now = c.loop-number-test.true in
    omega (arith, count, within_limit, end, c.requires.fits_u32)

pub loop-number-preserved : goal.loop-number-preserved
loop-number-preserved c =
    let at = (goal.at.loop-number-preserved c).After-index_mut in
    let counts : List ℕ = c.loop-number.counts.items in
    let new : slice_set counts (number at) (c.index_mut.result.now + 1) ≡ slice_set counts (number at) (number_at counts (number at) + 1) =
    ap (λ (m : ℕ). slice_set counts (number at) (m + 1)) (looked_up at) in
    record {
      one_each = length-set counts _ _ ∙ c.loop-number.invariant.one_each;
      each = part_counted (number_at c.args.numbers.now) counts _ c.loop-number.number-index (within at) new c.loop-number.invariant.each;
    }
