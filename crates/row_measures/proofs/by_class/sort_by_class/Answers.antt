-- What is left to prove of `sort_by_class`: its clause `sorted` and what its callees require, by
-- `ChosenLemmas`.
use Rattle.std.proofs.Common.{◌≡◌, ◌<◌, ℕ, List, length, map, sym, ap, subst, ◌∙◌, arith}
use Rattle.std.proofs.lemmas.List.{length-map}
use Rattle.std.specs.Prelude.{All}
use Rattle.attr_sets.specs.Attributes.{Attributes, IsSubset, below, union}
use Rattle.attr_sets.specs.Sets.{attributes}
use Rattle.row_groups.specs.Interning.{firsts_of, groups_of, width_of_rows}
use Rattle.row_groups.specs.Numberings.{AreFirsts, AreGroups, number_at}
use Rattle.row_groups.proofs.NumberingLemmas.{difference_within, same_groups, union-difference}
use Rattle.legality.specs.Parts.{AreBelow}
use Rattle.row_measures.specs.ByClass.{AreLargestBelow, AreOutside}
use Rattle.row_measures.proofs.ChosenLemmas.{are_chosen, leaders_first, two_classes}
use Rattle.legality.proofs.CountLemmas.{few_firsts}
use Rattle.row_measures.proofs.OrderLemmas.{counts_known, firsts_in, mapped, owners_below}
use Rattle.row_measures.proofs.by_class.sort_by_class.Goals as goal
use Rattle.row_measures.proofs.by_class.sort_by_class.Goals.{In_ok-classes, In_ok-chosen}

-- ---- the rows by their groups and classes
by_left : (c : In_ok-classes) → AreGroups c.args.rows.now (attributes c.args.lhs) (groups_of c.in_ok-groups.groups)
by_left c = c.in_ok-groups.ensures.groups c.args.width c.args.rows.now c.requires.codes

group_rows : (c : In_ok-classes) → AreFirsts (groups_of c.in_ok-groups.groups) (firsts_of c.in_ok-groups.groups)
group_rows c = c.in_ok-groups.ensures.firsts c.args.width c.args.rows.now c.requires.codes

by_both : (c : In_ok-classes) → AreGroups c.args.rows.now (union (attributes c.args.lhs) (attributes c.args.rhs)) (groups_of c.in_ok-classes.classes)
by_both c =
    same_groups c.args.rows.now (union (attributes c.args.lhs) (attributes c.difference-own.result)) (union (attributes c.args.lhs) (attributes c.args.rhs)) _
    (ap (union (attributes c.args.lhs)) c.difference-own.ensures.members ∙ union-difference (attributes c.args.lhs) (attributes c.args.rhs))
    (c.in_ok-classes.ensures.groups c.args.width c.args.rows.now (attributes c.args.lhs) c.requires.codes (by_left c))

class_rows : (c : In_ok-classes) → AreFirsts (groups_of c.in_ok-classes.classes) (firsts_of c.in_ok-classes.classes)
class_rows c = c.in_ok-classes.ensures.firsts c.args.width c.args.rows.now (attributes c.args.lhs) c.requires.codes (by_left c)

pub refined-requires-clause-within : goal.refined-requires-clause-within
refined-requires-clause-within c =
    subst (λ (s : Attributes). IsSubset s (below (width_of_rows c.args.codes.now))) (sym c.difference-own.ensures.members)
    (difference_within (width_of_rows c.args.codes.now) (attributes c.args.lhs) (attributes c.args.rhs) (subst (λ (m : ℕ). IsSubset (attributes c.args.rhs) (below m)) (sym c.requires.codes.width) c.requires.rhs))

pub refined-requires-clause-same_length : goal.refined-requires-clause-same_length
refined-requires-clause-same_length c =
    (c.in_ok-groups.ensures.groups c.args.width c.args.rows.now c.requires.codes).one_each ∙ sym c.requires.codes.count

one_each : (c : In_ok-classes) → length (groups_of c.in_ok-groups.groups) ≡ length (groups_of c.in_ok-classes.classes)
one_each c = (by_left c).one_each ∙ sym (by_both c).one_each

-- ---- what was computed of them
owners_are : (c : In_ok-chosen) → c.in_ok-owners.owners.items ≡ map (number_at (groups_of c.in_ok-groups.groups)) (firsts_of c.in_ok-classes.classes)
owners_are c = mapped _ _ _ _ _ c.in_ok-owners.ensures.numbers c.numbers-2.ensures.numbers c.firsts-2.ensures.firsts

chosen_are : (c : In_ok-chosen) → c.in_ok-chosen.chosen.items ≡ map (number_at (groups_of c.in_ok-classes.classes)) (firsts_of c.in_ok-groups.groups)
chosen_are c = mapped _ _ _ _ _ c.in_ok-chosen.ensures.numbers c.numbers-3.ensures.numbers c.firsts-3.ensures.firsts

chosen_count : (c : In_ok-chosen) → length c.in_ok-chosen.chosen.items ≡ length (firsts_of c.in_ok-groups.groups)
chosen_count c = ap length (chosen_are c) ∙ length-map (firsts_of c.in_ok-groups.groups) (number_at (groups_of c.in_ok-classes.classes))

pub row_counts-requires-clause-numbers : goal.row_counts-requires-clause-numbers
row_counts-requires-clause-numbers c =
    let low = (goal.at.row_counts-requires-clause-numbers c).In_ok-classes in
    λ i within.
    let inside : i < length (groups_of c.in_ok-classes.classes) = omega (arith, within, ap length c.numbers.ensures.numbers) in
    omega (arith, ap (λ (l : List ℕ). number_at l i) c.numbers.ensures.numbers, (class_rows low).each i inside, ap length c.firsts.ensures.firsts)

pub row_counts-requires-clause-fits_u32 : goal.row_counts-requires-clause-fits_u32
row_counts-requires-clause-fits_u32 c =
    let low = (goal.at.row_counts-requires-clause-fits_u32 c).In_ok-classes in
    omega (arith, ap length c.numbers.ensures.numbers, (by_both low).one_each, c.requires.codes.count, c.args.codes.now.fits_u32)

pub numbers_of-requires : goal.numbers_of-requires
numbers_of-requires c =
    let at = (goal.at.numbers_of-requires c).In_ok-classes in
    record {
      rows = subst (λ (numbers : List ℕ). All (λ row. row < length numbers) c.firsts-2.result.now) (sym c.numbers-2.ensures.numbers)
          (subst (λ (firsts : List ℕ). All (λ row. row < length (groups_of c.in_ok-groups.groups)) firsts) (sym c.firsts-2.ensures.firsts)
          (firsts_in (groups_of c.in_ok-groups.groups) (groups_of c.in_ok-classes.classes) (firsts_of c.in_ok-classes.classes) (class_rows at) (one_each at)));
    }

pub numbers_of-requires-2 : goal.numbers_of-requires-2
numbers_of-requires-2 c =
    let at = (goal.at.numbers_of-requires-2 c).In_ok-classes in
    record {
      rows = subst (λ (numbers : List ℕ). All (λ row. row < length numbers) c.firsts-3.result.now) (sym c.numbers-3.ensures.numbers)
          (subst (λ (firsts : List ℕ). All (λ row. row < length (groups_of c.in_ok-classes.classes)) firsts) (sym c.firsts-3.ensures.firsts)
          (firsts_in (groups_of c.in_ok-classes.classes) (groups_of c.in_ok-groups.groups) (firsts_of c.in_ok-groups.groups) (group_rows at) (sym (one_each at))));
    }

pub choose_largest-requires-clause-owners : goal.choose_largest-requires-clause-owners
choose_largest-requires-clause-owners c =
    let at = (goal.at.choose_largest-requires-clause-owners c).In_ok-chosen in
    let low = (goal.at.choose_largest-requires-clause-owners c).In_ok-classes in
    subst (λ (m : ℕ). AreBelow c.deref.result.now m) (sym (chosen_count at))
    (owners_below (groups_of c.in_ok-groups.groups) (firsts_of c.in_ok-groups.groups) (groups_of c.in_ok-classes.classes) (firsts_of c.in_ok-classes.classes) c.deref.result.now
    (c.deref.ensures.value ∙ owners_are at) (group_rows low) (class_rows low) (one_each low))

pub choose_largest-requires-clause-fits_u32 : goal.choose_largest-requires-clause-fits_u32
choose_largest-requires-clause-fits_u32 c =
    let at = (goal.at.choose_largest-requires-clause-fits_u32 c).In_ok-chosen in
    let low = (goal.at.choose_largest-requires-clause-fits_u32 c).In_ok-classes in
    omega (
      arith,
      ap length (c.deref.ensures.value ∙ owners_are at),
      length-map (firsts_of c.in_ok-classes.classes) (number_at (groups_of c.in_ok-groups.groups)),
      few_firsts _ _ (class_rows low),
      (by_both low).one_each,
      c.requires.codes.count,
      c.args.codes.now.fits_u32,
    )

pub choose_largest-requires-clause-least : goal.choose_largest-requires-clause-least
choose_largest-requires-clause-least c =
    let at = (goal.at.choose_largest-requires-clause-least c).In_ok-chosen in
    let low = (goal.at.choose_largest-requires-clause-least c).In_ok-classes in
    subst (λ (l : List ℕ). AreLargestBelow 0 l c.deref-2.result.now c.in_ok-chosen.chosen.items) (sym (c.deref.ensures.value ∙ owners_are at))
    (subst (λ (l : List ℕ). AreLargestBelow 0 (map (number_at (groups_of c.in_ok-groups.groups)) (firsts_of c.in_ok-classes.classes)) c.deref-2.result.now l) (sym (chosen_are at))
    (leaders_first (attributes c.args.lhs) (attributes c.args.rhs) c.args.rows.now _ _ _ _ (by_left low) (group_rows low) (by_both low) (class_rows low) c.deref-2.result.now))

pub broken_groups-requires-clause-same_length : goal.broken_groups-requires-clause-same_length
broken_groups-requires-clause-same_length c =
    ap length c.numbers-5.ensures.numbers ∙ sym (one_each (goal.at.broken_groups-requires-clause-same_length c).In_ok-classes)
    ∙ sym (ap length c.numbers-4.ensures.numbers)

pub broken_groups-requires-clause-groups : goal.broken_groups-requires-clause-groups
broken_groups-requires-clause-groups c =
    let at = (goal.at.broken_groups-requires-clause-groups c).In_ok-chosen in
    let low = (goal.at.broken_groups-requires-clause-groups c).In_ok-classes in
    λ i within.
    let inside : i < length (groups_of c.in_ok-groups.groups) = omega (arith, within, ap length c.numbers-4.ensures.numbers) in
    omega (arith, ap (λ (l : List ℕ). number_at l i) c.numbers-4.ensures.numbers, (group_rows low).each i inside, ap length c.deref-3.ensures.value, c.choose_largest.ensures.count, chosen_count at)

pub returns : goal.returns
returns c =
    let at = (goal.at.returns c).In_ok-chosen in
    let low = (goal.at.returns c).In_ok-classes in
    let owners : List ℕ = map (number_at (groups_of c.in_ok-groups.groups)) (firsts_of c.in_ok-classes.classes) in
    let chosen : List ℕ = c.choose_largest.new.chosen.items in
    let counted = counts_known (groups_of c.in_ok-classes.classes) _ c.in_ok-sizes.sizes.items (length (firsts_of c.in_ok-classes.classes)) _ c.numbers.ensures.numbers (ap length c.firsts.ensures.firsts) c.in_ok-sizes.ensures.counts in
    let count : length chosen ≡ length (firsts_of c.in_ok-groups.groups) = c.choose_largest.ensures.count ∙ chosen_count at in
    let largest : AreLargestBelow (length owners) owners c.in_ok-sizes.sizes.items chosen =
    subst (λ (l : List ℕ). AreLargestBelow (length owners) owners l chosen) c.deref-2.ensures.value
    (subst (λ (l : List ℕ). AreLargestBelow (length l) l c.deref-2.result.now chosen) (c.deref.ensures.value ∙ owners_are at) c.choose_largest.ensures.largest) in
    let are = are_chosen (attributes c.args.lhs) (attributes c.args.rhs) c.args.rows.now _ _ _ _ (by_left low) (group_rows low) (by_both low) (class_rows low) c.in_ok-sizes.sizes.items chosen counted count largest in
    let outside : AreOutside (groups_of c.in_ok-groups.groups) (groups_of c.in_ok-classes.classes) chosen (length (groups_of c.in_ok-groups.groups)) c.in_ok-broken.broken.items =
    subst (λ (l : List ℕ). AreOutside (groups_of c.in_ok-groups.groups) (groups_of c.in_ok-classes.classes) l (length (groups_of c.in_ok-groups.groups)) c.in_ok-broken.broken.items) c.deref-3.ensures.value
    (subst (λ (l : List ℕ). AreOutside (groups_of c.in_ok-groups.groups) l c.deref-3.result.now (length (groups_of c.in_ok-groups.groups)) c.in_ok-broken.broken.items) c.numbers-5.ensures.numbers
    (subst (λ (l : List ℕ). AreOutside l c.numbers-5.result.now c.deref-3.result.now (length l) c.in_ok-broken.broken.items) c.numbers-4.ensures.numbers c.in_ok-broken.ensures.broken)) in
    record {
      sorted = record {
        by_left = by_left low;
        group_rows = group_rows low;
        by_both = by_both low;
        class_rows = class_rows low;
        sizes = counted;
        largest = are;
        flags = two_classes _ _ _ chosen _ are (c.in_ok-broken.ensures.count ∙ ap length c.deref-3.ensures.value) outside;
      };
    }
