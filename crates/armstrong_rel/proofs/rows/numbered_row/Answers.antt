-- What is left to prove of `numbered_row`: that a round of its loop keeps the invariant, by
-- `numbered_tuple-more`.
use Rattle.std.proofs.Common.{◌≡◌, ℕ, Bool, cond, List, ◌∙◌, ◌++◌, [], ◌∷◌, sym, ap}
use Rattle.std.specs.Fmt.{decimal}
use Rattle.attr_sets.specs.Sets.{attributes}
use Rattle.dep_model.specs.Tuples.{Tuple}
use Rattle.dep_model.specs.TwoTuples.{zero_text}
use Rattle.armstrong_rel.specs.Exhibits.{numbered_tuple}
use Rattle.armstrong_rel.proofs.TupleLemmas.{numbered_tuple-more}
use Rattle.armstrong_rel.proofs.rows.numbered_row.Goals as goal

pub loop-i-preserved : goal.loop-i-preserved
loop-i-preserved c =
    let i = c.loop-i.i in
    let number = c.args.number in
    let zeros = attributes c.args.zeros in
    let text : c.in_ok-digits.field-0 ≡ cond (zeros i) zero_text (decimal number) = c.in_ok-digits.ensures.value
    ∙ ap (λ (b : Bool). cond b zero_text (decimal number)) c.contains.ensures.member in
    c.in_ok-push.ensures.items
    ∙ ap (λ (row : Tuple). row ++ c.in_ok-digits.field-0 ∷ []) c.loop-i.invariant
    ∙ ap (λ (value : List ℕ). numbered_tuple i number zeros ++ value ∷ []) text
    ∙ sym (numbered_tuple-more i number zeros)
