-- What is left to prove of `count_rows`: that the invariant of its loop holds at first and stays, and that its
-- sums fit.
use Rattle.std.proofs.Common.{◌+◌, ℕ, sym, ap, ◌∙◌, arith}
use Rattle.attr_sets.specs.Attributes.{Attributes}
use Rattle.attr_sets.proofs.AttributesLemmas.{count_below-le, count_below-member, count_below-outside}
use Rattle.row_groups.specs.Numberings.{number_at}
use Rattle.dep_model.proofs.SchemeLemmas.{count_below-start}
use Rattle.legality.specs.Parts.{flag_at}
use Rattle.row_measures.proofs.counting.count_rows.Goals as goal
use Rattle.row_measures.proofs.counting.count_rows.Goals.{then-flags-group, else-flags-group}

pub loop-group-init : goal.loop-group-init
loop-group-init c = record { count = sym (count_below-start (λ i. flag_at c.args.flags.now (number_at c.args.groups.now i))) }

pub overflow_add-count : goal.overflow_add-count
overflow_add-count c =
    let inside : Attributes = λ i. flag_at c.args.flags.now (number_at c.args.groups.now i) in
    omega (arith, c.loop-group.invariant.count, count_below-le c.loop-group.group-index inside, c.loop-group-test.true, c.requires.fits_u32)

pub loop-group-preserved : goal.loop-group-preserved
loop-group-preserved c =
    let inside : Attributes = λ i. flag_at c.args.flags.now (number_at c.args.groups.now i) in
    let i : ℕ = c.loop-group.group-index in
    elim c.if-flags-group.branch [
      | then-flags-group w ↦ record {
        count = rw w.count-is (ap (λ (m : ℕ). m + 1) c.loop-group.invariant.count ∙ sym (count_below-member i inside w.if-flags-group.true));
      }
      | else-flags-group w ↦ record {
        count = rw w.count-is (c.loop-group.invariant.count ∙ sym (count_below-outside i inside w.if-flags-group.false));
      }
    ]
