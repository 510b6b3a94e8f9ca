-- What is left to prove of `push_names`: that a round of its loop keeps the invariant.
use Rattle.std.proofs.Common.{List, ℕ, ◌++◌, ◌∷◌, [], take, ap, sym, ◌∙◌}
use Rattle.std.proofs.lemmas.List.{append_assoc}
use Rattle.dep_model.proofs.ListLemmas.{take_next}
use Rattle.schema_model.specs.Schemas.{names_of}
use Rattle.dep_model.specs.Tuples.{Tuple}
use Rattle.desk_measures.proofs.fields.push_names.Goals as goal

pub loop-attribute-preserved : goal.loop-attribute-preserved
loop-attribute-preserved c =
    let names = names_of c.args.schema.now in
    let k = c.loop-attribute.attribute in
    let name = c.bytes.result.now in
    c.in_ok-push.ensures.values
    ∙ ap (λ (f : Tuple). f ++ name ∷ []) c.loop-attribute.invariant
    ∙ append_assoc c.args.fields.now (take k names) (name ∷ [])
    ∙ ap (λ (f : Tuple). c.args.fields.now ++ f)
    (ap (λ (n : List ℕ). take k names ++ n ∷ []) c.bytes.ensures.value ∙ sym (take_next names k _ c.name.ensures.name))
