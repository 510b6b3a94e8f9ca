-- What is left to prove of `group_rows`: its clause `rows` and what its callees require, by `SortedLemmas`.
use Rattle.std.proofs.Common.{◌≡◌, ℕ, Bool, List, length, map, take_all, sym, ap, subst, ◌∙◌}
use Rattle.row_groups.specs.Interning.{groups_of}
use Rattle.row_groups.specs.Numberings.{AreFirsts}
use Rattle.row_measures.specs.Broken.{in_flagged}
use Rattle.row_measures.specs.ByPart.{group_row_by}
use Rattle.row_measures.proofs.SortedLemmas.{few_flags, group_rows_are, part_firsts, part_flags}
use Rattle.row_measures.proofs.listing.group_rows.Goals as goal

pub ordinals-requires : goal.ordinals-requires
ordinals-requires c =
    let are = c.requires.sorted.4 in
    record { fits_u32 = few_flags _ _ _ _ _ (part_firsts _ _ _ _ _ are) (part_flags _ _ _ _ _ are) c.deref.ensures.value c.requires.fits_u32 }

pub in_order-requires-clause-firsts : goal.in_order-requires-clause-firsts
in_order-requires-clause-firsts c =
    let are = c.requires.sorted.4 in
    subst (λ (l : List ℕ). AreFirsts l c.firsts.result.now) (sym c.numbers.ensures.numbers)
    (subst (AreFirsts (groups_of c.args.sorted.now.groups)) (sym c.firsts.ensures.firsts) (part_firsts _ _ _ _ _ are))

pub in_order-requires-clause-flags : goal.in_order-requires-clause-flags
in_order-requires-clause-flags c =
    let are = c.requires.sorted.4 in
    ap length c.deref-2.ensures.value ∙ part_flags _ _ _ _ _ are ∙ sym (ap length c.firsts.ensures.firsts)

pub returns : goal.returns
returns c =
    let groups : List ℕ = groups_of c.args.sorted.now.groups in
    let broken : List Bool = c.args.sorted.now.broken.items in
    let listed : c.in_ok-rows.rows.items ≡ in_flagged groups broken (length broken) =
    c.in_ok-rows.ensures.positions
    ∙ ap (λ (l : List ℕ). in_flagged l c.deref-2.result.now (length c.deref-2.result.now)) c.numbers.ensures.numbers
    ∙ ap (λ (l : List Bool). in_flagged groups l (length l)) c.deref-2.ensures.value in
    record {
      rows = λ n x y r are.
          c.loop-row.invariant.marked
          ∙ ap (map (group_row_by c.args.sorted.now)) (take_all c.loop-row.row-index c.deref-row-items.result.now c.loop-row-test.false ∙ c.deref-row-items.ensures.value ∙ listed)
          ∙ group_rows_are n x y r c.args.sorted.now are;
    }
