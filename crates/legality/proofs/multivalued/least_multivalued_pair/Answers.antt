-- What is left to prove of `least_multivalued_pair`: its clause `pair` and what `part_counts`, `rests_beside`
-- and `first_missing` require, by `PartLemmas`.
use Rattle.std.proofs.Common.{◌≡◌, ◌<◌, ◌^◌, ℕ, List, Some, None, length, ap, subst, sym, ◌∙◌, arith}
use Rattle.attr_sets.specs.Sets.{attributes}
use Rattle.dep_model.specs.Tuples.{Relation}
use Rattle.row_groups.specs.Interning.{IsInterned, groups_of, firsts_of}
use Rattle.row_groups.specs.Numberings.{AreFirsts, number_at}
use Rattle.legality.proofs.CountLemmas.{few_firsts}
use Rattle.legality.proofs.PartLemmas.{Grouping, grouping, none_short, first_short, below_firsts, short_known, beside_known, missing_known}
use Rattle.legality.proofs.multivalued.least_multivalued_pair.Goals as goal
use Rattle.legality.proofs.multivalued.least_multivalued_pair.Goals.{In_ok-all}

-- there are fewer than 2 ^ 32 rows, so as few parts
few_parts : (r : Relation) (numbers firsts : List ℕ) (count : ℕ) → length numbers ≡ length r → count ≡ length r → count < 2 ^ 32
    → AreFirsts numbers firsts → length firsts < 2 ^ 32
few_parts r numbers firsts count one_each all few are = omega (arith, few_firsts numbers firsts are, one_each, all, few)

pub part_counts-requires-clause-fits_u32 : goal.part_counts-requires-clause-fits_u32
part_counts-requires-clause-fits_u32 c =
    few_parts c.requires.codes.0 _ _ _ (c.in_ok-rests.ensures.groups c.args.width c.requires.codes.0 c.requires.codes.1).one_each
    c.requires.codes.1.count c.args.codes.now.fits_u32 (c.in_ok-rests.ensures.firsts c.args.width c.requires.codes.0 c.requires.codes.1)

pub part_counts-requires-2-clause-fits_u32 : goal.part_counts-requires-2-clause-fits_u32
part_counts-requires-2-clause-fits_u32 c =
    few_parts c.requires.codes.0 _ _ _ (c.in_ok-all.ensures.groups c.args.width c.requires.codes.0 c.requires.codes.1).one_each
    c.requires.codes.1.count c.args.codes.now.fits_u32 (c.in_ok-all.ensures.firsts c.args.width c.requires.codes.0 c.requires.codes.1)

pub part_counts-requires-2-clause-same_length : goal.part_counts-requires-2-clause-same_length
part_counts-requires-2-clause-same_length c =
    (c.in_ok-lefts.ensures.groups c.args.width c.requires.codes.0 c.requires.codes.1).one_each
    ∙ sym (c.in_ok-all.ensures.groups c.args.width c.requires.codes.0 c.requires.codes.1).one_each

pub rests_beside-requires-clause-same_length : goal.rests_beside-requires-clause-same_length
rests_beside-requires-clause-same_length c =
    ap length c.numbers-in-Some-2.ensures.numbers ∙ (c.in_ok-rests.ensures.groups c.args.width c.requires.codes.0 c.requires.codes.1).one_each
    ∙ sym (c.in_ok-lefts.ensures.groups c.args.width c.requires.codes.0 c.requires.codes.1).one_each ∙ sym (ap length c.numbers-in-Some.ensures.numbers)

pub rests_beside-requires-clause-count : goal.rests_beside-requires-clause-count
rests_beside-requires-clause-count c =
    below_firsts _ _ _ _ c.numbers-in-Some-2.ensures.numbers c.firsts-count.ensures.firsts (c.in_ok-rests.ensures.firsts c.args.width c.requires.codes.0 c.requires.codes.1)

pub first_missing-least-requires-clause-same_length : goal.first_missing-least-requires-clause-same_length
first_missing-least-requires-clause-same_length c =
    ap length c.numbers-in-Some-4.ensures.numbers ∙ (c.in_ok-rests.ensures.groups c.args.width c.requires.codes.0 c.requires.codes.1).one_each
    ∙ sym (c.in_ok-groups.ensures.groups c.args.width c.requires.codes.0 c.requires.codes.1).one_each ∙ sym (ap length c.numbers-in-Some-3.ensures.numbers)

pub first_missing-least-requires-clause-beside : goal.first_missing-least-requires-clause-beside
first_missing-least-requires-clause-beside c = λ i l.
    let size : length c.deref-in-Some.result.now ≡ length c.firsts-count.result.now = ap length c.deref-in-Some.ensures.value ∙ c.in_ok-beside-in-Some.ensures.count in
    subst (λ (m : ℕ). number_at c.numbers-in-Some-4.result.now i < m) (sym size)
    (below_firsts _ _ _ _ c.numbers-in-Some-4.ensures.numbers c.firsts-count.ensures.firsts (c.in_ok-rests.ensures.firsts c.args.width c.requires.codes.0 c.requires.codes.1) i l)

-- the rows by what they have on the left side, on both sides, on it and the rest, and on all attributes
grouped : (c : In_ok-all) (r : Relation) → IsInterned c.args.width r c.args.codes.now → Grouping c.args.width r (attributes c.args.lhs) (attributes c.args.rhs)
    (groups_of c.in_ok-groups.groups) (firsts_of c.in_ok-groups.groups) (groups_of c.in_ok-lefts.lefts) (firsts_of c.in_ok-lefts.lefts)
    (groups_of c.in_ok-rests.rests) (firsts_of c.in_ok-rests.rests) (groups_of c.in_ok-all.all) (firsts_of c.in_ok-all.all)
grouped c r is =
    let n : ℕ = c.args.width in
    grouping n r (attributes c.args.lhs) (attributes c.args.rhs) (attributes c.full-universe.result) (attributes c.union-sides.result) (attributes c.difference-outside.result) (attributes c.union-others.result)
    _ _ _ _ _ _ _ _
    c.full-universe.ensures.members c.union-sides.ensures.members c.difference-outside.ensures.members c.union-others.ensures.members c.requires.lhs c.requires.rhs
    (c.in_ok-groups.ensures.groups n r is) (c.in_ok-groups.ensures.firsts n r is)
    (c.in_ok-lefts.ensures.groups n r is) (c.in_ok-lefts.ensures.firsts n r is)
    (c.in_ok-rests.ensures.groups n r is) (c.in_ok-rests.ensures.firsts n r is)
    (c.in_ok-all.ensures.groups n r is) (c.in_ok-all.ensures.firsts n r is)

pub returns-in-Some : goal.returns-in-Some
returns-in-Some c = record {
  pair = λ r is. first_short c.args.width r (attributes c.args.lhs) (attributes c.args.rhs) _ _ _ _ _ _ _ _ (grouped (goal.at.returns-in-Some c).In_ok-all r is)
      c.in_ok-wanted.wanted.items c.in_ok-present.present.items
      c.in_ok-beside-in-Some.beside.items c.in-Some.first c.first_missing-least.result c.in_ok-wanted.ensures.counts c.in_ok-present.ensures.counts
      (short_known _ _ _ _ _ _ _ _ (Some c.in-Some.first) c.numbers.ensures.numbers c.deref.ensures.value c.numbers-2.ensures.numbers c.deref-2.ensures.value c.in-Some.ensures.first)
      (beside_known _ _ _ _ _ _ c.numbers-in-Some.ensures.numbers c.numbers-in-Some-2.ensures.numbers c.in_ok-beside-in-Some.ensures.beside)
      (missing_known _ _ _ _ _ _ _ _ c.numbers-in-Some-3.ensures.numbers c.numbers-in-Some-4.ensures.numbers c.deref-in-Some.ensures.value c.first_missing-least.ensures.missing);
}

pub returns : goal.returns
returns c = record {
  pair = λ r is. none_short c.args.width r (attributes c.args.lhs) (attributes c.args.rhs) _ _ _ _ _ _ _ _ (grouped (goal.at.returns c).In_ok-all r is)
      c.in_ok-wanted.wanted.items c.in_ok-present.present.items
      c.in_ok-wanted.ensures.counts c.in_ok-present.ensures.counts
      (short_known _ _ _ _ _ _ _ _ None c.numbers.ensures.numbers c.deref.ensures.value c.numbers-2.ensures.numbers c.deref-2.ensures.value c.in-None.ensures.first);
}
