-- What is left to prove of `names_in`: that its loop begins with no name, and a round keeps the
-- invariant.
use Rattle.std.proofs.Common.{◌≡◌, ◌+◌, List, ℕ, [], ◌++◌, ◌∷◌, sym, ap, subst, ◌∙◌, arith}
use Rattle.std.proofs.lemmas.Option.{get_or_from_slice_get}
use Rattle.attr_sets.specs.Sets.{attributes}
use Rattle.schema_model.specs.Schemas.{names_of, width_of}
use Rattle.schema_printer.specs.Parts.{chosen}
use Rattle.schema_printer.proofs.ChosenLemmas.{chosen_none, chosen_more, chosen_skip}
use Rattle.schema_printer.proofs.parts.names_in.Goals as goal
use Rattle.schema_printer.proofs.parts.names_in.Goals.{then-contains+in_ok-push, else-contains}

pub loop-attribute-init : goal.loop-attribute-init
loop-attribute-init c = c.new-names.ensures.items ∙ chosen_none (names_of c.args.schema.now) [] (attributes c.args.set)

pub loop-attribute-preserved : goal.loop-attribute-preserved
loop-attribute-preserved c =
    let names = names_of c.args.schema.now in
    let x = attributes c.args.set in
    let m = c.loop-attribute.attribute in
    elim c.if-contains.branch [
      | then-contains+in_ok-push w ↦
          let pushed = ap (λ v. v.items) w.names-is ∙ w.in_ok-push.ensures.items in
          let named = get_or_from_slice_get names m _ [] w.name.ensures.name in
          pushed ∙ ap (λ (ys : List (List ℕ)). ys ++ w.name.result.now ∷ []) c.loop-attribute.invariant
          ∙ ap (λ (y : List ℕ). chosen names [] m x ++ y ∷ []) (sym named)
          ∙ sym (chosen_more names [] x m (sym c.contains.ensures.member ∙ w.if-contains.true))
      | else-contains w ↦
          ap (λ v. v.items) w.names-is ∙ c.loop-attribute.invariant
          ∙ sym (chosen_skip names [] x m (sym c.contains.ensures.member ∙ w.if-contains.false))
    ]

pub returns : goal.returns
returns c =
    let end : c.loop-attribute.attribute ≡ width_of c.args.schema.now = omega (arith, c.loop-attribute-test.false, c.loop-attribute.auto, c.width-attribute-end.ensures.count) in
    record {
      names = c.loop-attribute.invariant ∙ ap (λ (n : ℕ). chosen (names_of c.args.schema.now) [] n (attributes c.args.set)) end;
    }
