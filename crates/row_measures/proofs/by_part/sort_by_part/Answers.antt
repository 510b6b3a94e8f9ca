-- What is left to prove of `sort_by_part`: its clause `sorted` and what its callees require, by
-- `MissingLemmas`.
use Rattle.std.proofs.Common.{◌≡◌, ◌<◌, ◌≤◌, ℕ, List, length, map, refl, sym, ap, subst, ◌∙◌, arith}
use Rattle.std.proofs.lemmas.List.{length-map}
use Rattle.std.specs.Prelude.{All}
use Rattle.attr_sets.specs.Attributes.{Attributes, IsSubset, below, difference, union}
use Rattle.attr_sets.specs.Sets.{attributes}
use Rattle.attr_sets.proofs.AttributesLemmas.{IsSubset-same, union_within}
use Rattle.row_groups.proofs.NumberingLemmas.{difference_within, same_groups, union-difference, union-rest}
use Rattle.row_groups.specs.Interning.{firsts_of, groups_of, width_of_rows}
use Rattle.row_groups.specs.Numberings.{AreGroups, number_at}
use Rattle.legality.specs.Parts.{AreBelow}
use Rattle.dep_model.specs.Tuples.{Relation}
use Rattle.legality.proofs.PartLemmas.{Grouping, grouping}
use Rattle.row_measures.specs.ByPart.{AreShort, shortage}
use Rattle.row_measures.proofs.MissingLemmas.{enough, lacking_groups, missing_known}
use Rattle.legality.proofs.CountLemmas.{few_firsts}
use Rattle.row_measures.proofs.OrderLemmas.{firsts_in, mapped, owners_below}
use Rattle.row_measures.proofs.by_part.sort_by_part.Goals as goal
use Rattle.row_measures.proofs.by_part.sort_by_part.Goals.{In_ok-all, In_ok-groups, In_ok-left_groups, In_ok-lefts}

-- the rows by what they have on the left side, and on both sides
by_left : (c : In_ok-groups) → AreGroups c.args.rows.now (attributes c.args.lhs) (groups_of c.in_ok-groups.groups)
by_left c = c.in_ok-groups.ensures.groups c.args.width c.args.rows.now c.requires.codes

-- the groups of a set that is made of a left side and what a right side adds
both_of : (r : Relation) (x y own sides : Attributes) (numbers : List ℕ) → own ≡ difference y x → sides ≡ union x y
    → AreGroups r (union x own) numbers → AreGroups r sides numbers
both_of r x y own sides numbers is_own is_sides groups =
    same_groups r (union x own) sides numbers (ap (union x) is_own ∙ union-difference x y ∙ sym is_sides) groups

by_both : (c : In_ok-lefts) → AreGroups c.args.rows.now (attributes c.union-sides.result) (groups_of c.in_ok-lefts.lefts)
by_both c =
    both_of c.args.rows.now (attributes c.args.lhs) (attributes c.args.rhs) (attributes c.difference-own.result) (attributes c.union-sides.result)
    (groups_of c.in_ok-lefts.lefts) c.difference-own.ensures.members c.union-sides.ensures.members
    (c.in_ok-lefts.ensures.groups c.args.width c.args.rows.now (attributes c.args.lhs) c.requires.codes
    (c.in_ok-groups.ensures.groups c.args.width c.args.rows.now c.requires.codes))

-- both sides and what is outside are all attributes
all_sides : (c : In_ok-all) → union (attributes c.union-sides.result) (attributes c.difference-outside.result) ≡ attributes c.full-universe.result
all_sides c =
    let both : Attributes = attributes c.union-sides.result in
    ap (union both) (c.difference-outside.ensures.members ∙ ap (λ (all : Attributes). difference all both) c.full-universe.ensures.members)
    ∙ union-rest c.args.width both
    (subst (λ (s : Attributes). IsSubset s (below c.args.width)) (sym c.union-sides.ensures.members)
    (union_within c.args.width (attributes c.args.lhs) (attributes c.args.rhs) c.requires.lhs c.requires.rhs))
    ∙ sym c.full-universe.ensures.members

-- and on the left side and the rest, and on all attributes
grouped : (c : In_ok-all) → Grouping c.args.width c.args.rows.now (attributes c.args.lhs) (attributes c.args.rhs)
    (groups_of c.in_ok-groups.groups) (firsts_of c.in_ok-groups.groups) (groups_of c.in_ok-lefts.lefts) (firsts_of c.in_ok-lefts.lefts)
    (groups_of c.in_ok-rests.rests) (firsts_of c.in_ok-rests.rests) (groups_of c.in_ok-all.all) (firsts_of c.in_ok-all.all)
grouped c =
    let n : ℕ = c.args.width in
    let r : Relation = c.args.rows.now in
    let x : Attributes = attributes c.args.lhs in
    let sides : Attributes = attributes c.union-sides.result in
    let outside : Attributes = attributes c.difference-outside.result in
    let left = c.in_ok-groups.ensures.groups n r c.requires.codes in
    let both = both_of r x (attributes c.args.rhs) (attributes c.difference-own.result) sides (groups_of c.in_ok-lefts.lefts)
    c.difference-own.ensures.members c.union-sides.ensures.members (c.in_ok-lefts.ensures.groups n r x c.requires.codes left) in
    grouping n r x (attributes c.args.rhs) (attributes c.full-universe.result) sides outside (union x outside)
    _ _ _ _ _ _ _ _
    c.full-universe.ensures.members c.union-sides.ensures.members c.difference-outside.ensures.members refl c.requires.lhs c.requires.rhs
    left (c.in_ok-groups.ensures.firsts n r c.requires.codes)
    both (c.in_ok-lefts.ensures.firsts n r x c.requires.codes left)
    (c.in_ok-rests.ensures.groups n r x c.requires.codes left) (c.in_ok-rests.ensures.firsts n r x c.requires.codes left)
    (same_groups r (union sides outside) (attributes c.full-universe.result) _ (all_sides c) (c.in_ok-all.ensures.groups n r sides c.requires.codes both))
    (c.in_ok-all.ensures.firsts n r sides c.requires.codes both)

-- sets within the attributes of the rows
own_within : (c : In_ok-groups) → IsSubset (attributes c.difference-own.result) (below (width_of_rows c.args.codes.now))
own_within c =
    subst (λ (m : ℕ). IsSubset (attributes c.difference-own.result) (below m)) (sym c.requires.codes.width)
    (subst (λ (s : Attributes). IsSubset s (below c.args.width)) (sym c.difference-own.ensures.members)
    (difference_within c.args.width (attributes c.args.lhs) (attributes c.args.rhs) c.requires.rhs))

outside_within : (c : In_ok-groups) → IsSubset (attributes c.difference-outside.result) (below (width_of_rows c.args.codes.now))
outside_within c =
    subst (λ (m : ℕ). IsSubset (attributes c.difference-outside.result) (below m)) (sym c.requires.codes.width)
    (subst (λ (s : Attributes). IsSubset s (below c.args.width)) (sym c.difference-outside.ensures.members)
    (difference_within c.args.width (attributes c.union-sides.result) (attributes c.full-universe.result) (IsSubset-same _ _ c.full-universe.ensures.members)))

pub refined-requires-clause-within : goal.refined-requires-clause-within
refined-requires-clause-within c = own_within (goal.at.refined-requires-clause-within c).In_ok-groups

pub refined-requires-clause-same_length : goal.refined-requires-clause-same_length
refined-requires-clause-same_length c = (by_left (goal.at.refined-requires-clause-same_length c).In_ok-groups).one_each ∙ sym c.requires.codes.count

pub refined-requires-2-clause-within : goal.refined-requires-2-clause-within
refined-requires-2-clause-within c = outside_within (goal.at.refined-requires-2-clause-within c).In_ok-groups

pub refined-requires-2-clause-same_length : goal.refined-requires-2-clause-same_length
refined-requires-2-clause-same_length c = (by_left (goal.at.refined-requires-2-clause-same_length c).In_ok-groups).one_each ∙ sym c.requires.codes.count

pub refined-requires-3-clause-within : goal.refined-requires-3-clause-within
refined-requires-3-clause-within c = outside_within (goal.at.refined-requires-3-clause-within c).In_ok-groups

pub refined-requires-3-clause-same_length : goal.refined-requires-3-clause-same_length
refined-requires-3-clause-same_length c = (by_both (goal.at.refined-requires-3-clause-same_length c).In_ok-lefts).one_each ∙ sym c.requires.codes.count

-- the group of each left part
left_groups_are : (c : In_ok-left_groups) → c.in_ok-left_groups.left_groups.items ≡ map (number_at (groups_of c.in_ok-groups.groups)) (firsts_of c.in_ok-lefts.lefts)
left_groups_are c = mapped _ _ _ _ _ c.in_ok-left_groups.ensures.numbers c.numbers.ensures.numbers c.firsts.ensures.firsts

pub part_counts-requires-clause-same_length : goal.part_counts-requires-clause-same_length
part_counts-requires-clause-same_length c =
    let k = grouped (goal.at.part_counts-requires-clause-same_length c).In_ok-all in
    k.left.one_each ∙ sym k.rest.one_each

pub part_counts-requires-clause-parts : goal.part_counts-requires-clause-parts
part_counts-requires-clause-parts c = (grouped (goal.at.part_counts-requires-clause-parts c).In_ok-all).rest_firsts

pub part_counts-requires-2-clause-groups : goal.part_counts-requires-2-clause-groups
part_counts-requires-2-clause-groups c = (grouped (goal.at.part_counts-requires-2-clause-groups c).In_ok-all).both_firsts

pub part_counts-requires-2-clause-parts : goal.part_counts-requires-2-clause-parts
part_counts-requires-2-clause-parts c = (grouped (goal.at.part_counts-requires-2-clause-parts c).In_ok-all).all_firsts

pub part_counts-requires-clause-fits_u32 : goal.part_counts-requires-clause-fits_u32
part_counts-requires-clause-fits_u32 c =
    let k = grouped (goal.at.part_counts-requires-clause-fits_u32 c).In_ok-all in
    omega (arith, few_firsts _ _ k.rest_firsts, k.rest.one_each, c.requires.codes.count, c.args.codes.now.fits_u32)

pub part_counts-requires-2-clause-same_length : goal.part_counts-requires-2-clause-same_length
part_counts-requires-2-clause-same_length c =
    let k = grouped (goal.at.part_counts-requires-2-clause-same_length c).In_ok-all in
    k.both.one_each ∙ sym k.all.one_each

pub part_counts-requires-2-clause-fits_u32 : goal.part_counts-requires-2-clause-fits_u32
part_counts-requires-2-clause-fits_u32 c =
    let k = grouped (goal.at.part_counts-requires-2-clause-fits_u32 c).In_ok-all in
    omega (arith, few_firsts _ _ k.all_firsts, k.all.one_each, c.requires.codes.count, c.args.codes.now.fits_u32)

pub numbers_of-requires : goal.numbers_of-requires
numbers_of-requires c =
    let k = grouped (goal.at.numbers_of-requires c).In_ok-all in
    record {
      rows = subst (λ (numbers : List ℕ). All (λ row. row < length numbers) c.firsts.result.now) (sym c.numbers.ensures.numbers)
          (subst (λ (firsts : List ℕ). All (λ row. row < length (groups_of c.in_ok-groups.groups)) firsts) (sym c.firsts.ensures.firsts)
          (firsts_in (groups_of c.in_ok-groups.groups) (groups_of c.in_ok-lefts.lefts) (firsts_of c.in_ok-lefts.lefts) k.both_firsts (k.left.one_each ∙ sym k.both.one_each)));
    }

pub short_groups-requires-clause-wanted : goal.short_groups-requires-clause-wanted
short_groups-requires-clause-wanted c =
    let k = grouped (goal.at.short_groups-requires-clause-wanted c).In_ok-all in
    let at = (goal.at.short_groups-requires-clause-wanted c).In_ok-left_groups in
    subst (λ (m : ℕ). AreBelow c.deref.result.now m) (sym (ap length c.deref-2.ensures.value ∙ c.in_ok-wanted.ensures.counts.one_each))
    (owners_below _ _ _ _ c.deref.result.now (c.deref.ensures.value ∙ left_groups_are at) k.left_firsts k.both_firsts (k.left.one_each ∙ sym k.both.one_each))

pub short_groups-requires-clause-present : goal.short_groups-requires-clause-present
short_groups-requires-clause-present c =
    let at = (goal.at.short_groups-requires-clause-present c).In_ok-left_groups in
    ap length c.deref-3.ensures.value ∙ c.in_ok-present.ensures.counts.one_each
    ∙ sym (ap length (c.deref.ensures.value ∙ left_groups_are at) ∙ length-map _ _)

pub count_missing-missing-requires-clause-wanted : goal.count_missing-missing-requires-clause-wanted
count_missing-missing-requires-clause-wanted c =
    let k = grouped (goal.at.count_missing-missing-requires-clause-wanted c).In_ok-all in
    let at = (goal.at.count_missing-missing-requires-clause-wanted c).In_ok-left_groups in
    subst (λ (m : ℕ). AreBelow c.deref-4.result.now m) (sym (ap length c.deref-5.ensures.value ∙ c.in_ok-wanted.ensures.counts.one_each))
    (owners_below _ _ _ _ c.deref-4.result.now (c.deref-4.ensures.value ∙ left_groups_are at) k.left_firsts k.both_firsts (k.left.one_each ∙ sym k.both.one_each))

pub count_missing-missing-requires-clause-present : goal.count_missing-missing-requires-clause-present
count_missing-missing-requires-clause-present c =
    let at = (goal.at.count_missing-missing-requires-clause-present c).In_ok-left_groups in
    ap length c.deref-6.ensures.value ∙ c.in_ok-present.ensures.counts.one_each
    ∙ sym (ap length (c.deref-4.ensures.value ∙ left_groups_are at) ∙ length-map _ _)

pub count_missing-missing-requires-clause-fits_u32 : goal.count_missing-missing-requires-clause-fits_u32
count_missing-missing-requires-clause-fits_u32 c =
    let k = grouped (goal.at.count_missing-missing-requires-clause-fits_u32 c).In_ok-all in
    let at = (goal.at.count_missing-missing-requires-clause-fits_u32 c).In_ok-left_groups in
    let size : length c.deref-4.result.now ≡ length (firsts_of c.in_ok-lefts.lefts) = ap length (c.deref-4.ensures.value ∙ left_groups_are at) ∙ length-map _ _ in
    omega (arith, size, few_firsts _ _ k.both_firsts, k.both.one_each, c.requires.codes.count, c.args.codes.now.fits_u32)

-- a fact of the three lists, of what was read of them
moved : (P : List ℕ → List ℕ → List ℕ → Type 0) (a b d p q s : List ℕ) → p ≡ a → q ≡ b → s ≡ d → P a b d → P p q s
moved P a b d p q s e f g h =
    subst (λ (l : List ℕ). P l q s) (sym e) (subst (λ (l : List ℕ). P a l s) (sym f) (subst (λ (l : List ℕ). P a b l) (sym g) h))

pub count_missing-missing-requires-clause-enough : goal.count_missing-missing-requires-clause-enough
count_missing-missing-requires-clause-enough c =
    let k = grouped (goal.at.count_missing-missing-requires-clause-enough c).In_ok-all in
    let at = (goal.at.count_missing-missing-requires-clause-enough c).In_ok-left_groups in
    moved (λ lefts wanted present. (a : ℕ) → a < length lefts → number_at present a ≤ number_at wanted (number_at lefts a)) _ _ _ _ _ _
    (c.deref-4.ensures.value ∙ left_groups_are at) c.deref-5.ensures.value c.deref-6.ensures.value
    (enough _ _ _ _ _ _ _ _ _ _ _ _ k _ _ c.in_ok-wanted.ensures.counts c.in_ok-present.ensures.counts)

pub returns : goal.returns
returns c =
    let k = grouped (goal.at.returns c).In_ok-all in
    let at = (goal.at.returns c).In_ok-left_groups in
    let left_groups = left_groups_are at in
    let wanted = c.in_ok-wanted.ensures.counts in
    let present = c.in_ok-present.ensures.counts in
    let short : AreShort (map (number_at (groups_of c.in_ok-groups.groups)) (firsts_of c.in_ok-lefts.lefts)) c.in_ok-wanted.wanted.items c.in_ok-present.present.items
    (length (map (number_at (groups_of c.in_ok-groups.groups)) (firsts_of c.in_ok-lefts.lefts))) c.in_ok-broken.broken.items =
    moved (λ lefts more there. AreShort lefts more there (length lefts) c.in_ok-broken.broken.items) _ _ _ _ _ _
    (sym (c.deref.ensures.value ∙ left_groups)) (sym c.deref-2.ensures.value) (sym c.deref-3.ensures.value) c.in_ok-broken.ensures.short in
    let size : length c.in_ok-broken.broken.items ≡ length c.in_ok-wanted.wanted.items = c.in_ok-broken.ensures.count ∙ ap length c.deref-2.ensures.value in
    let missing : shortage (map (number_at (groups_of c.in_ok-groups.groups)) (firsts_of c.in_ok-lefts.lefts)) c.in_ok-wanted.wanted.items c.in_ok-present.present.items
    ≡ c.count_missing-missing.result =
    moved (λ lefts more there. shortage lefts more there ≡ c.count_missing-missing.result) _ _ _ _ _ _
    (sym (c.deref-4.ensures.value ∙ left_groups)) (sym c.deref-5.ensures.value) (sym c.deref-6.ensures.value) (sym c.count_missing-missing.ensures.missing) in
    record {
      sorted = record {
        parts = record {
          groups = groups_of c.in_ok-groups.groups;
          firsts = firsts_of c.in_ok-groups.groups;
          lefts = groups_of c.in_ok-lefts.lefts;
          left_firsts = firsts_of c.in_ok-lefts.lefts;
          rests = groups_of c.in_ok-rests.rests;
          rest_firsts = firsts_of c.in_ok-rests.rests;
          broken = c.in_ok-broken.broken.items;
          by_left = k.left;
          group_rows = k.left_firsts;
          by_both = k.both;
          left_rows = k.both_firsts;
          by_rest = k.rest;
          rest_rows = k.rest_firsts;
          flags = lacking_groups _ _ _ _ _ _ _ _ _ _ _ _ k _ _ wanted present c.in_ok-broken.broken.items size short;
        };
        groups = refl;
        firsts = refl;
        broken = refl;
        missing = sym missing ∙ missing_known _ _ _ _ _ _ _ _ _ _ _ _ k _ _ wanted present;
      };
    }
