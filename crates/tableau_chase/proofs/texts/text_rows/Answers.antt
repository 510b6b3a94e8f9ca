-- What is left to prove of `text_rows`: its clause `texts` and that a round of its loop keeps the
-- invariant.
use Rattle.std.proofs.Common.{◌≡◌, ℕ, ◌∙◌, ◌++◌, [], ◌∷◌, map, take, sym, ap, take_all, Vec, Global}
use Rattle.std.proofs.lemmas.List.{take_more, map-append}
use Rattle.std.specs.Prelude.{decimal}
use Rattle.dep_model.specs.Tuples.{Tuple, Relation}
use Rattle.tableau_chase.proofs.texts.text_rows.Goals as goal

pub loop-i-preserved : goal.loop-i-preserved
loop-i-preserved c =
    let text : Vec ℕ Global → Tuple = λ (list : Vec ℕ Global). map decimal list.items in
    let i = c.loop-i.i in
    let lists = c.args.lists.now in
    let list : Vec ℕ Global = c.index-lists-i.result in
    let row : Tuple = c.in_ok-text_row.field-0 in
    let is : row ≡ text list = c.in_ok-text_row.ensures.row ∙ ap (map decimal) c.deref.ensures.value in
    c.in_ok-push.ensures.items ∙ ap (λ (r : Relation). r ++ row ∷ []) c.loop-i.invariant ∙ ap (λ (t : Tuple). map text (take i lists) ++ t ∷ []) is
    ∙ sym (map-append text (take i lists) (list ∷ [])) ∙ ap (map text) (ap (λ (v : Vec ℕ Global). take i lists ++ v ∷ []) c.index-lists-i.is ∙ sym (take_more lists i list c.loop-i-test.true))

pub returns : goal.returns
returns c =
    let text : Vec ℕ Global → Tuple = λ (list : Vec ℕ Global). map decimal list.items in
    record { texts = c.loop-i.invariant ∙ ap (map text) (take_all c.loop-i.i c.args.lists.now c.loop-i-test.false) }
