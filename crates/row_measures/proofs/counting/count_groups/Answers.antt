-- What is left to prove of `count_groups`: that the invariant of its loop holds at first and stays, and that
-- its sums fit.
use Rattle.std.proofs.Common.{◌+◌, ℕ, sym, ap, ◌∙◌, arith}
use Rattle.attr_sets.specs.Attributes.{Attributes}
use Rattle.attr_sets.proofs.AttributesLemmas.{count_below-le, count_below-member, count_below-outside}
use Rattle.dep_model.proofs.SchemeLemmas.{count_below-start}
use Rattle.legality.specs.Parts.{flag_at}
use Rattle.row_measures.proofs.counting.count_groups.Goals as goal
use Rattle.row_measures.proofs.counting.count_groups.Goals.{then-flag, else-flag}

pub loop-flag-init : goal.loop-flag-init
loop-flag-init c = record { count = sym (count_below-start (flag_at c.args.flags.now)) }

pub overflow_add-count : goal.overflow_add-count
overflow_add-count c =
    omega (arith, c.loop-flag.invariant.count, count_below-le c.loop-flag.flag-index (flag_at c.args.flags.now), c.loop-flag-test.true, c.requires.fits_u32)

pub loop-flag-preserved : goal.loop-flag-preserved
loop-flag-preserved c =
    let set : Attributes = flag_at c.args.flags.now in
    let h : ℕ = c.loop-flag.flag-index in
    elim c.if-flag.branch [
      | then-flag w ↦ record {
        count = rw w.count-is (ap (λ (m : ℕ). m + 1) c.loop-flag.invariant.count ∙ sym (count_below-member h set w.if-flag.true));
      }
      | else-flag w ↦ record { count = rw w.count-is (c.loop-flag.invariant.count ∙ sym (count_below-outside h set w.if-flag.false)) }
    ]
