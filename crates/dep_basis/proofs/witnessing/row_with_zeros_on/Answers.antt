-- What is left to prove of `row_with_zeros_on`: that the invariant of its loop holds at first and
-- stays, by `zeros_on-none` and `zeros_on-more`.
use Rattle.std.proofs.Common.{◌≡◌, ℕ, Bool, cond, List, ◌∙◌, ◌++◌, [], ◌∷◌, sym, ap}
use Rattle.attr_sets.specs.Sets.{attributes}
use Rattle.dep_model.specs.Tuples.{Tuple}
use Rattle.dep_model.specs.TwoTuples.{zero_text, one_text, zeros_on}
use Rattle.dep_basis.proofs.WitnessLemmas.{zeros_on-none, zeros_on-more}
use Rattle.dep_basis.proofs.witnessing.row_with_zeros_on.Goals as goal

pub loop-i-init : goal.loop-i-init
loop-i-init c = c.in_ok-values.ensures.items ∙ sym (zeros_on-none (attributes c.args.zeros))

pub loop-i-preserved : goal.loop-i-preserved
loop-i-preserved c =
    let i = c.loop-i.i in
    let zeros = attributes c.args.zeros in
    let text : c.in_ok-digit.field-0 ≡ cond (zeros i) zero_text one_text = c.in_ok-digit.ensures.value ∙ ap (λ (b : Bool). cond b zero_text one_text) c.contains.ensures.member in
    c.in_ok-push.ensures.items
    ∙ ap (λ (row : Tuple). row ++ c.in_ok-digit.field-0 ∷ []) c.loop-i.invariant
    ∙ ap (λ (value : List ℕ). zeros_on i zeros ++ value ∷ []) text
    ∙ sym (zeros_on-more i zeros)
