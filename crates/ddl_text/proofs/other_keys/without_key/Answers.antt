-- What is left to prove of `without_key`: that a round of its loop keeps the invariant, by `filter_more`.
use Rattle.std.proofs.Common.{◌≡◌, ◌∙◌, ◌+◌, Bool, cond, List, [], ◌∷◌, ◌++◌, take, get_or, sym, ap, append-nil}
use Rattle.std.specs.Prelude.{not}
use Rattle.std.proofs.lemmas.List.Elements.{filter_more}
use Rattle.attr_sets.specs.declared.set.AttrSet.{AttrSet}
use Rattle.attr_sets.specs.Sets.{attributes, is_same}
use Rattle.ddl_text.specs.Designs.{without_key}
use Rattle.ddl_text.proofs.other_keys.without_key.Goals as goal
use Rattle.ddl_text.proofs.other_keys.without_key.Goals.{then-not-is_the_key+in_ok-push, else-not-is_the_key}

pub loop-other-preserved : goal.loop-other-preserved
loop-other-preserved c =
    let keys = c.args.keys.now in
    let i = c.loop-other.other-index in
    let d : AttrSet = record { 0 = 0 } in
    let test = λ (k : AttrSet). not (is_same (attributes k) (attributes c.args.key)) in
    let more : without_key (attributes c.args.key) (take (i + 1) keys)
    ≡ without_key (attributes c.args.key) (take i keys) ++ cond (test (get_or keys i d)) (get_or keys i d ∷ []) [] =
    filter_more test keys i d c.loop-other-test.true in
    let is = c.eq-is_the_key.ensures.test in
    let so_far = without_key (attributes c.args.key) (take i keys) in
    elim c.if-not-is_the_key.branch [
      | then-not-is_the_key+in_ok-push w ↦ rw w.others-is
          (w.in_ok-push.ensures.items
          ∙ ap (λ (others : List AttrSet). others ++ get_or keys i d ∷ []) c.loop-other.invariant
          ∙ ap (λ (b : Bool). so_far ++ cond (not b) (get_or keys i d ∷ []) []) (sym w.if-not-is_the_key.true ∙ is)
          ∙ sym more)
      | else-not-is_the_key w ↦ rw w.others-is
          (c.loop-other.invariant ∙ sym (append-nil so_far)
          ∙ ap (λ (b : Bool). so_far ++ cond (not b) (get_or keys i d ∷ []) []) (sym w.if-not-is_the_key.false ∙ is)
          ∙ sym more)
    ]
