-- What is left to prove of `choose_largest`: that a round of its loop keeps the invariant, by `class_kept` and
-- `class_replaced`.
use Rattle.std.proofs.Common.{◌≡◌, ◌<◌, ℕ, List, length, ap, ◌∙◌, arith}
use Rattle.std.proofs.lemmas.List.{length-set}
use Rattle.row_groups.specs.Numberings.{number_at}
use Rattle.dep_model.proofs.ListLemmas.{same_default}
use Rattle.row_measures.proofs.ChosenLemmas.{class_kept, class_replaced}
use Rattle.row_measures.proofs.by_class.choose_largest.Goals as goal
use Rattle.row_measures.proofs.by_class.choose_largest.Goals.{then-sizes-class, else-sizes-class}

pub loop-class-preserved : goal.loop-class-preserved
loop-class-preserved c =
    let n : ℕ = c.loop-class.class in
    let owners : List ℕ = c.args.owners.now in
    let sizes : List ℕ = c.args.sizes.now in
    let chosen : List ℕ = c.loop-class.chosen.items in
    let low : n < length owners = c.loop-class-test.true in
    let old = c.loop-class.invariant in
    let group_in : number_at owners n < length chosen = omega (arith, c.requires.owners n low, old.count) in
    let best : c.index.result.now ≡ number_at chosen (number_at owners n) =
    c.index.ensures ∙ same_default chosen (number_at owners n) c.index.result.now 0 group_in in
    elim c.if-sizes-class.branch [
      | then-sizes-class w ↦ record {
        count = rw w.chosen-is (length-set chosen (number_at owners n) n ∙ old.count);
        largest = rw w.chosen-is
            (class_replaced n owners sizes chosen old.largest (omega (arith, w.if-sizes-class.true, ap (number_at sizes) best)) low group_in);
      }
      | else-sizes-class w ↦ record {
        count = rw w.chosen-is old.count;
        largest = rw w.chosen-is
            (class_kept n owners sizes chosen old.largest (omega (arith, w.if-sizes-class.false, ap (number_at sizes) best)) low);
      }
    ]
