-- What is left to prove of `narrowed`: that the invariant of its loop holds at first and stays, and its clause, by
-- `NarrowingLemmas`.
use Rattle.std.proofs.Common.{◌≡◌, ℕ, ◌+◌, Bool, true, false, refl, sym, ◌∙◌, arith}
use Rattle.std.proofs.lemmas.Bool.{and_parts, false≢true}
use Rattle.attr_sets.specs.Attributes.{Attributes, intersection}
use Rattle.attr_sets.specs.Sets.{attributes}
use Rattle.attr_sets.specs.declared.narrowing.Direction.{Direction}
use Rattle.attr_sets.specs.declared.narrowing.Direction.TheVariants.{Ascending, Descending}
use Rattle.attr_sets.specs.declared.set.TheConstants.{MOST_ATTRIBUTES}
use Rattle.attr_sets.proofs.AttributesLemmas.{attributes_below, same_at}
use Rattle.attr_sets.proofs.NarrowingLemmas.{IsAt, tried_none, tried_passed, tried_kept, tried_left_out, tried_all}
use Rattle.attr_sets.proofs.narrowing.narrowed.Goals.{then-passes, else-passes}
use Rattle.attr_sets.proofs.narrowing.narrowed.Goals as goal

pub loop-step-init : goal.loop-step-init
loop-step-init g c =
    tried_none c.args.direction _ (attributes c.args.tried) (attributes c.args.start) (attributes_below c.args.start)

-- the attribute is the one of its step
is_at : (d : Direction) (step i : ℕ) → (d ≡ Ascending → i ≡ step) → (d ≡ Descending → i + step + 1 ≡ MOST_ATTRIBUTES)
    → IsAt d MOST_ATTRIBUTES step i
is_at Ascending step i up down = up refl
is_at Descending step i up down = down refl

-- the attribute is there and is to be tried
is_there : (kept tried both : Attributes) (i : ℕ) (contains : Bool) → both ≡ intersection kept tried → contains ≡ both i
    → contains ≡ true → (kept i ≡ true) × (tried i ≡ true)
is_there kept tried both i contains is says true_now = and_parts (kept i) (tried i) (sym (same_at is i) ∙ sym says ∙ true_now)

is_not_there : (kept tried both : Attributes) (i : ℕ) (contains : Bool) → both ≡ intersection kept tried → contains ≡ both i
    → contains ≡ false → kept i ≡ true → tried i ≡ true → ⊥
is_not_there kept tried both i contains is says false_now member was = false≢true (grind (arith, same_at is i, says, false_now, member, was))

pub loop-step-preserved-then-not-contains : goal.loop-step-preserved-then-not-contains
loop-step-preserved-then-not-contains g c =
    let d = c.args.direction in
    let i = c.attribute_at-attribute.result in
    let kept = attributes c.loop-step.kept in
    let tried = attributes c.args.tried in
    let at = is_at d c.loop-step.step i c.attribute_at-attribute.ensures.ascending c.attribute_at-attribute.ensures.descending in
    tried_passed d _ tried (attributes c.args.start) c.loop-step.step i kept at c.loop-step.invariant
    (is_not_there kept tried (attributes c.intersection.result) i c.contains.result c.intersection.ensures.members c.contains.ensures.member c.if-not-contains.true)

pub loop-step-preserved : goal.loop-step-preserved
loop-step-preserved g c =
    let d = c.args.direction in
    let i = c.attribute_at-attribute.result in
    let kept = attributes c.loop-step.kept in
    let tried = attributes c.args.tried in
    let rest = c.without-rest.result in
    let at = is_at d c.loop-step.step i c.attribute_at-attribute.ensures.ascending c.attribute_at-attribute.ensures.descending in
    let there = is_there kept tried (attributes c.intersection.result) i c.contains.result c.intersection.ensures.members c.contains.ensures.member c.if-not-contains.false in
    elim c.if-passes.branch [
      | then-passes w ↦
          rw w.kept-is (tried_left_out d _ tried (attributes c.args.start) c.loop-step.step i kept at c.loop-step.invariant rest (omega arith)
          c.without-rest.ensures.members there.1 w.if-passes.ensures)
      | else-passes w ↦
          rw w.kept-is (tried_kept d _ tried (attributes c.args.start) c.loop-step.step i kept at c.loop-step.invariant rest (omega arith)
          c.without-rest.ensures.members there.0 w.if-passes.ensures)
    ]

pub returns : goal.returns
returns g c =
    let last : c.loop-step.step ≡ MOST_ATTRIBUTES = omega arith in
    record { narrowed = tried_all c.args.direction _ (attributes c.args.tried) (attributes c.args.start) (attributes c.loop-step.kept) (attributes_below c.args.start) (rw last at c.loop-step.invariant) }
