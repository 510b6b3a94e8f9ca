-- What is left to prove of `error_within`: its clause `error` and what its callees require, by `ChosenLemmas`.
use Rattle.std.proofs.Common.{◌≡◌, ◌<◌, not, ℕ, true, List, length, map, sym, ap, subst, ◌∙◌, arith}
use Rattle.std.proofs.lemmas.Bool.{eqb-true, lt-ltb}
use Rattle.std.proofs.lemmas.List.{length-map}
use Rattle.std.specs.Prelude.{All}
use Rattle.attr_sets.specs.Attributes.{Attributes, count_below, only, union}
use Rattle.attr_sets.specs.Sets.{attributes}
use Rattle.attr_sets.proofs.AttributesLemmas.{same_at}
use Rattle.row_groups.specs.Interning.{IsInterned, firsts_of, groups_of, width_of_rows}
use Rattle.row_groups.specs.Numberings.{AreFirsts, AreGroups, number_at}
use Rattle.row_groups.proofs.NumberingLemmas.{same_groups}
use Rattle.dep_model.specs.Dependencies.{fd}
use Rattle.dep_model.specs.Tuples.{Relation}
use Rattle.legality.specs.Parts.{AreBelow}
use Rattle.removal_laws.proofs.LargestLemmas.{least}
use Rattle.removal_laws.proofs.StayingLemmas.{count_staying}
use Rattle.removal_laws.specs.Classes.{in_chosen}
use Rattle.removal_laws.specs.Errors.{IsError}
use Rattle.removal_laws.specs.Removals.{Positions}
use Rattle.row_measures.specs.Broken.{AreChosen, rows_outside}
use Rattle.row_measures.specs.ByClass.{AreLargestBelow}
use Rattle.row_measures.proofs.ChosenLemmas.{are_chosen, leaders_first}
use Rattle.row_measures.proofs.LawLemmas.{count_all}
use Rattle.legality.proofs.CountLemmas.{few_firsts}
use Rattle.row_measures.proofs.OrderLemmas.{counts_known, firsts_in, mapped, owners_below}
use Rattle.row_measures.proofs.within.error_within.Goals as goal
use Rattle.row_measures.proofs.within.error_within.Goals.{In_ok-classes, In_ok-chosen}

-- rows that are grouped by what they have on a set
record IsGrouped (c : In_ok-classes) (n : ℕ) (r : Relation) (x : Attributes) : Type 0 where
  interned : IsInterned n r c.args.codes.now
  by_left : AreGroups r x (groups_of c.args.groups.now)
  group_rows : AreFirsts (groups_of c.args.groups.now) (firsts_of c.args.groups.now)

grouped : (c : In_ok-classes) → (n : ℕ) × (r : Relation) × (x : Attributes) × IsGrouped c n r x
grouped c =
    let (n, r, x, interned, by_left, group_rows) = c.requires.rows in
    (n, r, x, record { interned = interned; by_left = by_left; group_rows = group_rows })

-- ---- the rows by their groups and classes
module _ (c : In_ok-classes) (n : ℕ) (r : Relation) (x : Attributes) (are : IsGrouped c n r x) where
  by_both : AreGroups r (union x (only c.args.right)) (groups_of c.in_ok-classes.classes)
  by_both =
      same_groups r (union x (attributes c.single.result)) (union x (only c.args.right)) _ (ap (union x) c.single.ensures.members)
      (c.in_ok-classes.ensures.groups n r x are.interned are.by_left)

  class_rows : AreFirsts (groups_of c.in_ok-classes.classes) (firsts_of c.in_ok-classes.classes)
  class_rows = c.in_ok-classes.ensures.firsts n r x are.interned are.by_left

  one_each : length (groups_of c.args.groups.now) ≡ length (groups_of c.in_ok-classes.classes)
  one_each = are.by_left.one_each ∙ sym by_both.one_each

  few_rows : length r < 4294967296
  few_rows = omega (arith, are.interned.count, c.args.codes.now.fits_u32)

pub refined-requires-clause-within : goal.refined-requires-clause-within
refined-requires-clause-within c k m =
    let at : only c.args.right k ≡ true = sym (same_at c.single.ensures.members k) ∙ m in
    lt-ltb k (width_of_rows c.args.codes.now) (omega (arith, eqb-true k c.args.right at, c.requires.right))

pub refined-requires-clause-same_length : goal.refined-requires-clause-same_length
refined-requires-clause-same_length c =
    let (n, r, x, interned, by_left, group_rows) = c.requires.rows in
    by_left.one_each ∙ sym interned.count

-- ---- what was computed of them
owners_are : (c : In_ok-chosen) → c.in_ok-owners.owners.items ≡ map (number_at (groups_of c.args.groups.now)) (firsts_of c.in_ok-classes.classes)
owners_are c = mapped _ _ _ _ _ c.in_ok-owners.ensures.numbers c.numbers-2.ensures.numbers c.firsts-2.ensures.firsts

chosen_are : (c : In_ok-chosen) → c.in_ok-chosen.chosen.items ≡ map (number_at (groups_of c.in_ok-classes.classes)) (firsts_of c.args.groups.now)
chosen_are c = mapped _ _ _ _ _ c.in_ok-chosen.ensures.numbers c.numbers-3.ensures.numbers c.firsts-3.ensures.firsts

chosen_count : (c : In_ok-chosen) → length c.in_ok-chosen.chosen.items ≡ length (firsts_of c.args.groups.now)
chosen_count c = ap length (chosen_are c) ∙ length-map (firsts_of c.args.groups.now) (number_at (groups_of c.in_ok-classes.classes))

pub row_counts-requires-clause-numbers : goal.row_counts-requires-clause-numbers
row_counts-requires-clause-numbers c =
    let low = (goal.at.row_counts-requires-clause-numbers c).In_ok-classes in
    let (n, r, x, are) = grouped low in
    λ i within.
    let inside : i < length (groups_of c.in_ok-classes.classes) = omega (arith, within, ap length c.numbers.ensures.numbers) in
    omega (arith, ap (λ (l : List ℕ). number_at l i) c.numbers.ensures.numbers, (class_rows low n r x are).each i inside, ap length c.firsts.ensures.firsts)

pub row_counts-requires-clause-fits_u32 : goal.row_counts-requires-clause-fits_u32
row_counts-requires-clause-fits_u32 c =
    let low = (goal.at.row_counts-requires-clause-fits_u32 c).In_ok-classes in
    let (n, r, x, are) = grouped low in
    omega (arith, ap length c.numbers.ensures.numbers, (by_both low n r x are).one_each, are.interned.count, c.args.codes.now.fits_u32)

pub numbers_of-requires : goal.numbers_of-requires
numbers_of-requires c =
    let at = (goal.at.numbers_of-requires c).In_ok-classes in
    let (n, r, x, are) = grouped at in
    record {
      rows = subst (λ (numbers : List ℕ). All (λ row. row < length numbers) c.firsts-2.result.now) (sym c.numbers-2.ensures.numbers)
          (subst (λ (firsts : List ℕ). All (λ row. row < length (groups_of c.args.groups.now)) firsts) (sym c.firsts-2.ensures.firsts)
          (firsts_in (groups_of c.args.groups.now) (groups_of c.in_ok-classes.classes) (firsts_of c.in_ok-classes.classes) (class_rows at n r x are) (one_each at n r x are)));
    }

pub numbers_of-requires-2 : goal.numbers_of-requires-2
numbers_of-requires-2 c =
    let at = (goal.at.numbers_of-requires-2 c).In_ok-classes in
    let (n, r, x, are) = grouped at in
    record {
      rows = subst (λ (numbers : List ℕ). All (λ row. row < length numbers) c.firsts-3.result.now) (sym c.numbers-3.ensures.numbers)
          (subst (λ (firsts : List ℕ). All (λ row. row < length (groups_of c.in_ok-classes.classes)) firsts) (sym c.firsts-3.ensures.firsts)
          (firsts_in (groups_of c.in_ok-classes.classes) (groups_of c.args.groups.now) (firsts_of c.args.groups.now) are.group_rows (sym (one_each at n r x are))));
    }

pub choose_largest-requires-clause-owners : goal.choose_largest-requires-clause-owners
choose_largest-requires-clause-owners c =
    let at = (goal.at.choose_largest-requires-clause-owners c).In_ok-chosen in
    let low = (goal.at.choose_largest-requires-clause-owners c).In_ok-classes in
    let (n, r, x, are) = grouped low in
    subst (λ (m : ℕ). AreBelow c.deref.result.now m) (sym (chosen_count at))
    (owners_below (groups_of c.args.groups.now) (firsts_of c.args.groups.now) (groups_of c.in_ok-classes.classes) (firsts_of c.in_ok-classes.classes) c.deref.result.now
    (c.deref.ensures.value ∙ owners_are at) are.group_rows (class_rows low n r x are) (one_each low n r x are))

pub choose_largest-requires-clause-fits_u32 : goal.choose_largest-requires-clause-fits_u32
choose_largest-requires-clause-fits_u32 c =
    let at = (goal.at.choose_largest-requires-clause-fits_u32 c).In_ok-chosen in
    let low = (goal.at.choose_largest-requires-clause-fits_u32 c).In_ok-classes in
    let (n, r, x, are) = grouped low in
    omega (
      arith,
      ap length (c.deref.ensures.value ∙ owners_are at),
      length-map (firsts_of c.in_ok-classes.classes) (number_at (groups_of c.args.groups.now)),
      few_firsts _ _ (class_rows low n r x are),
      (by_both low n r x are).one_each,
      are.interned.count,
      c.args.codes.now.fits_u32,
    )

pub choose_largest-requires-clause-least : goal.choose_largest-requires-clause-least
choose_largest-requires-clause-least c =
    let at = (goal.at.choose_largest-requires-clause-least c).In_ok-chosen in
    let low = (goal.at.choose_largest-requires-clause-least c).In_ok-classes in
    let (n, r, x, are) = grouped low in
    subst (λ (l : List ℕ). AreLargestBelow 0 l c.deref-2.result.now c.in_ok-chosen.chosen.items) (sym (c.deref.ensures.value ∙ owners_are at))
    (subst (λ (l : List ℕ). AreLargestBelow 0 (map (number_at (groups_of c.args.groups.now)) (firsts_of c.in_ok-classes.classes)) c.deref-2.result.now l) (sym (chosen_are at))
    (leaders_first x (only c.args.right) r _ _ _ _ are.by_left are.group_rows (by_both low n r x are) (class_rows low n r x are) c.deref-2.result.now))

pub count_outside-requires-clause-same_length : goal.count_outside-requires-clause-same_length
count_outside-requires-clause-same_length c =
    let low = (goal.at.count_outside-requires-clause-same_length c).In_ok-classes in
    let (n, r, x, are) = grouped low in
    ap length c.numbers-5.ensures.numbers ∙ sym (one_each low n r x are) ∙ sym (ap length c.numbers-4.ensures.numbers)

pub count_outside-requires-clause-groups : goal.count_outside-requires-clause-groups
count_outside-requires-clause-groups c =
    let at = (goal.at.count_outside-requires-clause-groups c).In_ok-chosen in
    let low = (goal.at.count_outside-requires-clause-groups c).In_ok-classes in
    let (n, r, x, are) = grouped low in
    λ i within.
    let inside : i < length (groups_of c.args.groups.now) = omega (arith, within, ap length c.numbers-4.ensures.numbers) in
    omega (arith, ap (λ (l : List ℕ). number_at l i) c.numbers-4.ensures.numbers, are.group_rows.each i inside, ap length c.deref-3.ensures.value, c.choose_largest.ensures.count, chosen_count at)

pub count_outside-requires-clause-fits_u32 : goal.count_outside-requires-clause-fits_u32
count_outside-requires-clause-fits_u32 c =
    let low = (goal.at.count_outside-requires-clause-fits_u32 c).In_ok-classes in
    let (n, r, x, are) = grouped low in
    omega (arith, ap length c.numbers-4.ensures.numbers, are.by_left.one_each, are.interned.count, c.args.codes.now.fits_u32)

-- the rows outside a largest class of their group are as many as must go
error_of : (n : ℕ) (x y : Attributes) (r : Relation) (groups classes chosen firsts : List ℕ) → AreGroups r x groups → AreGroups r (union x y) classes
    → AreChosen groups firsts classes chosen → IsError n r (fd x y) (rows_outside groups classes chosen)
error_of n x y r groups classes chosen firsts by_left by_both are =
    let stays : Positions = in_chosen groups classes chosen in
    record {
      stays = stays;
      least = least x y r groups classes chosen by_left by_both are.largest n;
      others = omega (
        arith,
        ap (count_below (λ i. not (stays i))) by_left.one_each,
        count_staying stays r,
        count_all stays (length r),
      );
    }

pub returns : goal.returns
returns c =
    let at = (goal.at.returns c).In_ok-chosen in
    let low = (goal.at.returns c).In_ok-classes in
    record {
      error = λ n r x interned by_left group_rows.
          let are : IsGrouped low n r x = record { interned = interned; by_left = by_left; group_rows = group_rows } in
          let owners : List ℕ = map (number_at (groups_of c.args.groups.now)) (firsts_of c.in_ok-classes.classes) in
          let chosen : List ℕ = c.choose_largest.new.chosen.items in
          let counted = counts_known (groups_of c.in_ok-classes.classes) _ c.in_ok-sizes.sizes.items (length (firsts_of c.in_ok-classes.classes)) _ c.numbers.ensures.numbers (ap length c.firsts.ensures.firsts) c.in_ok-sizes.ensures.counts in
          let count : length chosen ≡ length (firsts_of c.args.groups.now) = c.choose_largest.ensures.count ∙ chosen_count at in
          let largest : AreLargestBelow (length owners) owners c.in_ok-sizes.sizes.items chosen =
          subst (λ (l : List ℕ). AreLargestBelow (length owners) owners l chosen) c.deref-2.ensures.value
          (subst (λ (l : List ℕ). AreLargestBelow (length l) l c.deref-2.result.now chosen) (c.deref.ensures.value ∙ owners_are at) c.choose_largest.ensures.largest) in
          let chose = are_chosen x (only c.args.right) r _ _ _ _ by_left group_rows (by_both low n r x are) (class_rows low n r x are) c.in_ok-sizes.sizes.items chosen counted count largest in
          let amount : c.count_outside.result ≡ rows_outside (groups_of c.args.groups.now) (groups_of c.in_ok-classes.classes) chosen =
          c.count_outside.ensures.count
          ∙ ap (λ (l : List ℕ). rows_outside l c.numbers-5.result.now c.deref-3.result.now) c.numbers-4.ensures.numbers
          ∙ ap (λ (l : List ℕ). rows_outside (groups_of c.args.groups.now) l c.deref-3.result.now) c.numbers-5.ensures.numbers
          ∙ ap (rows_outside (groups_of c.args.groups.now) (groups_of c.in_ok-classes.classes)) c.deref-3.ensures.value in
          subst (IsError n r (fd x (only c.args.right))) (sym amount)
          (error_of n x (only c.args.right) r _ _ chosen _ by_left (by_both low n r x are) chose);
    }
