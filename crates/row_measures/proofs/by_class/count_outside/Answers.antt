-- What is left to prove of `count_outside`: that the invariant of its loop holds at first and stays, and that
-- its sums fit.
use Rattle.std.proofs.Common.{◌+◌, not, ℕ, sym, ap, ◌∙◌, arith}
use Rattle.attr_sets.specs.Attributes.{Attributes}
use Rattle.attr_sets.proofs.AttributesLemmas.{count_below-le, count_below-member, count_below-outside}
use Rattle.std.proofs.lemmas.Bool.{eq-eqb}
use Rattle.dep_model.proofs.SchemeLemmas.{count_below-start}
use Rattle.legality.proofs.CountLemmas.{other_number}
use Rattle.removal_laws.specs.Classes.{in_chosen}
use Rattle.row_measures.proofs.by_class.count_outside.Goals as goal
use Rattle.row_measures.proofs.by_class.count_outside.Goals.{then-classes-row, else-classes-row}

pub loop-row-init : goal.loop-row-init
loop-row-init c = record { count = sym (count_below-start (λ i. not (in_chosen c.args.groups.now c.args.classes.now c.args.chosen.now i))) }

pub overflow_add-count : goal.overflow_add-count
overflow_add-count c =
    let outside : Attributes = λ i. not (in_chosen c.args.groups.now c.args.classes.now c.args.chosen.now i) in
    omega (arith, c.loop-row.invariant.count, count_below-le c.loop-row.row outside, c.loop-row-test.true, c.requires.fits_u32)

pub loop-row-preserved : goal.loop-row-preserved
loop-row-preserved c =
    let outside : Attributes = λ i. not (in_chosen c.args.groups.now c.args.classes.now c.args.chosen.now i) in
    let i : ℕ = c.loop-row.row in
    elim c.if-classes-row.branch [
      | then-classes-row w ↦ record {
        count = rw w.count-is (ap (λ (m : ℕ). m + 1) c.loop-row.invariant.count ∙ sym (count_below-member i outside (ap not (other_number _ _ w.if-classes-row.true))));
      }
      | else-classes-row w ↦ record {
        count = rw w.count-is (c.loop-row.invariant.count ∙ sym (count_below-outside i outside (ap not (eq-eqb _ _ w.if-classes-row.false))));
      }
    ]
