-- What is left to prove of `class_parts`: its clause `parts` and what its callees require, by `ChosenLemmas`
-- and `SortedLemmas`.
use Rattle.std.proofs.Common.{◌≡◌, ◌<◌, ℕ, Bool, List, length, map, take_all, sym, ap, subst, ◌∙◌, arith}
use Rattle.std.proofs.lemmas.List.{length-map}
use Rattle.std.specs.Prelude.{All}
use Rattle.row_groups.specs.Interning.{firsts_of, groups_of}
use Rattle.row_groups.specs.Numberings.{AreFirsts, number_at}
use Rattle.row_measures.specs.Broken.{in_flagged}
use Rattle.row_measures.specs.ByClass.{part_by}
use Rattle.row_measures.proofs.ChosenLemmas.{leaders_are_firsts}
use Rattle.legality.proofs.CountLemmas.{few_firsts}
use Rattle.row_measures.proofs.OrderLemmas.{firsts_in, mapped}
use Rattle.row_measures.proofs.SortedLemmas.{few_flags}
use Rattle.row_measures.proofs.listing.class_parts.Goals as goal
use Rattle.row_measures.proofs.listing.class_parts.Goals.{In_ok-owners, In_ok-leaders}

owners_are : (c : In_ok-owners) → c.in_ok-owners.owners.items ≡ map (number_at (groups_of c.args.sorted.now.groups)) (firsts_of c.args.sorted.now.classes)
owners_are c = mapped _ _ _ _ _ c.in_ok-owners.ensures.numbers c.numbers.ensures.numbers c.firsts.ensures.firsts

leaders_are : (c : In_ok-leaders) → c.in_ok-leaders.leaders.items ≡ map (number_at (groups_of c.args.sorted.now.classes)) (firsts_of c.args.sorted.now.groups)
leaders_are c = mapped _ _ _ _ _ c.in_ok-leaders.ensures.numbers c.numbers-2.ensures.numbers c.firsts-2.ensures.firsts

pub numbers_of-requires : goal.numbers_of-requires
numbers_of-requires c =
    let are = c.requires.sorted.3 in
    record {
      rows = subst (λ (numbers : List ℕ). All (λ row. row < length numbers) c.firsts.result.now) (sym c.numbers.ensures.numbers)
          (subst (λ (firsts : List ℕ). All (λ row. row < length (groups_of c.args.sorted.now.groups)) firsts) (sym c.firsts.ensures.firsts)
          (firsts_in (groups_of c.args.sorted.now.groups) (groups_of c.args.sorted.now.classes) (firsts_of c.args.sorted.now.classes) are.class_rows (are.by_left.one_each ∙ sym are.by_both.one_each)));
    }

pub numbers_of-requires-2 : goal.numbers_of-requires-2
numbers_of-requires-2 c =
    let are = c.requires.sorted.3 in
    record {
      rows = subst (λ (numbers : List ℕ). All (λ row. row < length numbers) c.firsts-2.result.now) (sym c.numbers-2.ensures.numbers)
          (subst (λ (firsts : List ℕ). All (λ row. row < length (groups_of c.args.sorted.now.classes)) firsts) (sym c.firsts-2.ensures.firsts)
          (firsts_in (groups_of c.args.sorted.now.classes) (groups_of c.args.sorted.now.groups) (firsts_of c.args.sorted.now.groups) are.group_rows (are.by_both.one_each ∙ sym are.by_left.one_each)));
    }

pub ordinals-requires : goal.ordinals-requires
ordinals-requires c =
    let are = c.requires.sorted.3 in
    record { fits_u32 = few_flags _ _ _ _ _ are.group_rows are.flags.one_each c.deref.ensures.value c.requires.fits_u32 }

pub in_order-requires-clause-fits_u32 : goal.in_order-requires-clause-fits_u32
in_order-requires-clause-fits_u32 c =
    let are = c.requires.sorted.3 in
    let at = (goal.at.in_order-requires-clause-fits_u32 c).In_ok-owners in
    omega (
      arith,
      ap length (c.deref-2.ensures.value ∙ owners_are at),
      length-map (firsts_of c.args.sorted.now.classes) (number_at (groups_of c.args.sorted.now.groups)),
      few_firsts _ _ are.class_rows,
      are.by_both.one_each,
      are.by_left.one_each,
      c.requires.fits_u32,
    )

pub in_order-requires-clause-firsts : goal.in_order-requires-clause-firsts
in_order-requires-clause-firsts c =
    let are = c.requires.sorted.3 in
    let at = (goal.at.in_order-requires-clause-firsts c).In_ok-owners in
    let then_at = (goal.at.in_order-requires-clause-firsts c).In_ok-leaders in
    subst (λ (l : List ℕ). AreFirsts l c.deref-3.result.now) (sym (c.deref-2.ensures.value ∙ owners_are at))
    (subst (λ (l : List ℕ). AreFirsts (map (number_at (groups_of c.args.sorted.now.groups)) (firsts_of c.args.sorted.now.classes)) l) (sym (c.deref-3.ensures.value ∙ leaders_are then_at))
    (leaders_are_firsts _ _ _ _ _ _ _ are.by_left are.group_rows are.by_both are.class_rows))

pub in_order-requires-clause-flags : goal.in_order-requires-clause-flags
in_order-requires-clause-flags c =
    let are = c.requires.sorted.3 in
    let then_at = (goal.at.in_order-requires-clause-flags c).In_ok-leaders in
    ap length c.deref-4.ensures.value ∙ are.flags.one_each
    ∙ sym (ap length (c.deref-3.ensures.value ∙ leaders_are then_at) ∙ length-map (firsts_of c.args.sorted.now.groups) (number_at (groups_of c.args.sorted.now.classes)))

pub returns : goal.returns
returns c =
    let at = (goal.at.returns c).In_ok-owners in
    let owners : List ℕ = map (number_at (groups_of c.args.sorted.now.groups)) (firsts_of c.args.sorted.now.classes) in
    let broken : List Bool = c.args.sorted.now.broken.items in
    let listed : c.in_ok-classes.classes.items ≡ in_flagged owners broken (length broken) =
    c.in_ok-classes.ensures.positions
    ∙ ap (λ (l : List ℕ). in_flagged l c.deref-4.result.now (length c.deref-4.result.now)) (c.deref-2.ensures.value ∙ owners_are at)
    ∙ ap (λ (l : List Bool). in_flagged owners l (length l)) c.deref-4.ensures.value in
    record {
      parts = λ x y r are.
          c.loop-class.invariant.parts
          ∙ ap (map (part_by c.args.sorted.now)) (take_all c.loop-class.class-index c.deref-class-items.result.now c.loop-class-test.false ∙ c.deref-class-items.ensures.value ∙ listed);
    }
