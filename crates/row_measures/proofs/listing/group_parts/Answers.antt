-- What is left to prove of `group_parts`: its clause `parts`, that the invariant of its loop holds at first and
-- stays, and what its callees require, by `SortedLemmas`.
use Rattle.std.proofs.Common.{◌≡◌, ◌<◌, ◌+◌, ◌++◌, ℕ, false, List, [], ◌∷◌, length, map, refl, sym, ap, ◌∙◌, arith}
use Rattle.std.proofs.lemmas.List.{get_or_default, map-append}
use Rattle.attr_sets.specs.Attributes.{Attributes}
use Rattle.row_groups.specs.Interning.{firsts_of}
use Rattle.dep_model.specs.Projections.{members_below}
use Rattle.dep_model.proofs.SchemeLemmas.{members_below-no_more, members_below-none, members_below-one_more}
use Rattle.legality.specs.Parts.{flag_at}
use Rattle.row_measures.specs.ByPart.{group_by}
use Rattle.row_measures.specs.declared.breach.BrokenPart.{BrokenPart}
use Rattle.row_measures.proofs.SortedLemmas.{few_flags, group_parts_are, groups_below, part_firsts, part_flags}
use Rattle.row_measures.proofs.listing.group_parts.Goals as goal
use Rattle.row_measures.proofs.listing.group_parts.Goals.{then-index+in_ok-push, else-index}

pub row_counts-requires-clause-numbers : goal.row_counts-requires-clause-numbers
row_counts-requires-clause-numbers c =
    let are = c.requires.sorted.4 in
    groups_below _ _ _ (firsts_of c.args.sorted.now.groups) _ (part_firsts _ _ _ _ _ are) refl c.numbers.ensures.numbers c.firsts.ensures.firsts

pub ordinals-requires : goal.ordinals-requires
ordinals-requires c =
    let are = c.requires.sorted.4 in
    record { fits_u32 = few_flags _ _ _ _ _ (part_firsts _ _ _ _ _ are) (part_flags _ _ _ _ _ are) c.deref.ensures.value c.requires.fits_u32 }

pub loop-group-init : goal.loop-group-init
loop-group-init c = record {
  parts = c.new-parts.ensures.items ∙ ap (map (group_by c.args.sorted.now)) (sym (members_below-none (flag_at c.args.sorted.now.broken.items)));
}

pub loop-group-preserved : goal.loop-group-preserved
loop-group-preserved c =
    let h : ℕ = c.loop-group.group in
    let by : ℕ → BrokenPart = group_by c.args.sorted.now in
    let set : Attributes = flag_at c.args.sorted.now.broken.items in
    let before = c.loop-group.invariant.parts in
    let low : h < length c.args.sorted.now.broken.items = omega (arith, c.loop-group-test.true, c.args.sorted.now.broken.ok.0) in
    let flag : c.index.result.now ≡ set h = c.index.ensures ∙ get_or_default c.args.sorted.now.broken.items h c.index.result.now false low in
    elim c.if-index.branch [
      | then-index+in_ok-push w ↦ record {
        parts = rw w.parts-is
            (w.in_ok-push.ensures.items ∙ ap (λ (l : List BrokenPart). l ++ w.group_part.result ∷ []) before
            ∙ ap (λ (q : BrokenPart). map by (members_below h set) ++ q ∷ []) w.group_part.ensures.part
            ∙ sym (map-append by (members_below h set) (h ∷ []))
            ∙ ap (map by) (sym (members_below-one_more h (h + 1) set refl (sym flag ∙ w.if-index.true))));
      }
      | else-index w ↦ record {
        parts = rw w.parts-is (before ∙ ap (map by) (sym (members_below-no_more h (h + 1) set refl (sym flag ∙ w.if-index.false))));
      }
    ]

pub returns : goal.returns
returns c =
    let end : c.loop-group.group ≡ length c.args.sorted.now.broken.items = omega (arith, c.loop-group-test.false, c.loop-group.auto.group-end) in
    record {
      parts = λ n x y r are.
          c.loop-group.invariant.parts
          ∙ ap (λ (m : ℕ). map (group_by c.args.sorted.now) (members_below m (flag_at c.args.sorted.now.broken.items))) end
          ∙ group_parts_are n x y r c.args.sorted.now are;
    }
