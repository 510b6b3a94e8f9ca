-- What is left to prove of `rows_for`: its clause `rows` and that the invariant of its loop holds
-- at first and stays, by `zeros_numbered` and `tuples_more`.
use Rattle.std.proofs.Common.{◌≡◌, ℕ, ◌+◌, List, ◌∙◌, ◌++◌, [], ◌∷◌, length, take, get_or, sym, ap, take_all, arith}
use Rattle.std.proofs.lemmas.List.{take_more, map-append, length-map, length-take-le}
use Rattle.attr_sets.specs.declared.set.AttrSet.{AttrSet}
use Rattle.attr_sets.specs.Attributes.{Attributes}
use Rattle.attr_sets.specs.Sets.{attributes}
use Rattle.dep_model.specs.Plans.{schemes_of}
use Rattle.dep_model.specs.Tuples.{Tuple, Relation}
use Rattle.dep_model.specs.TwoTuples.{all_zeros}
use Rattle.armstrong_rel.specs.Exhibits.{numbered_tuple, tuples_for}
use Rattle.armstrong_rel.proofs.TupleLemmas.{zeros_numbered, tuples_more}
use Rattle.armstrong_rel.proofs.rows.rows_for.Goals as goal

pub loop-k-init : goal.loop-k-init
loop-k-init c =
    let n = c.args.width in
    let row : Tuple = c.in_ok-numbered_row.field-0 in
    let first : row ≡ all_zeros n =
    c.in_ok-numbered_row.ensures.row
    ∙ ap (λ (x : Attributes). numbered_tuple n 0 x)
    c.full.ensures.members ∙ sym (zeros_numbered n) in
    c.in_ok-push.ensures.items ∙ ap (λ (r : Relation). r ++ row ∷ []) c.new-rows.ensures.items
    ∙ ap (λ (t : Tuple). t ∷ []) first

pub loop-k-preserved : goal.loop-k-preserved
loop-k-preserved c =
    let n = c.args.width in
    let k = c.loop-k.k in
    let sets = c.args.sets.now in
    let first : AttrSet = record { 0 = 0 } in
    let set : AttrSet = get_or sets k first in
    let before = schemes_of (take k sets) in
    let row : Tuple = c.in_ok-numbered_row-2.field-0 in
    let count : length before ≡ k = length-map (take k sets) attributes
    ∙ length-take-le k sets (omega (arith, c.loop-k-test.true)) in
    let next : tuples_for n before ++ row ∷ [] ≡ tuples_for n (before ++ attributes set ∷ []) =
    ap (λ (t : Tuple). tuples_for n before ++ t ∷ [])
    (c.in_ok-numbered_row-2.ensures.row ∙ ap (λ (m : ℕ). numbered_tuple n (m + 1) (attributes set)) (sym count))
    ∙ sym (tuples_more n before (attributes set)) in
    let more : before ++ attributes set ∷ [] ≡ schemes_of (take (k + 1) sets) =
    sym (map-append attributes (take k sets) (set ∷ []))
    ∙ ap (λ (xs : List AttrSet). schemes_of xs) (sym (take_more sets k first c.loop-k-test.true)) in
    c.in_ok-push-2.ensures.items ∙ ap (λ (r : Relation). r ++ row ∷ []) c.loop-k.invariant ∙ next
    ∙ ap (λ (xs : List Attributes). tuples_for n xs) more

pub returns : goal.returns
returns c = record {
  rows = c.loop-k.invariant
      ∙ ap (λ (xs : List AttrSet). tuples_for c.args.width (schemes_of xs))
      (take_all c.loop-k.k c.args.sets.now c.loop-k-test.false);
}
