-- What is left to prove of `push_values`: that its loop begins with no value, and a round keeps the invariant.
use Rattle.std.proofs.Common.{List, ℕ, ◌++◌, ◌∷◌, [], ap, sym, ◌∙◌, append-nil}
use Rattle.std.proofs.lemmas.List.{append_assoc}
use Rattle.attr_sets.specs.Sets.{attributes}
use Rattle.dep_model.specs.Tuples.{Tuple, value_at}
use Rattle.row_store.specs.Rows.{row_at}
use Rattle.std.specs.Prelude.{Bool, if◌then◌else◌}
use Rattle.desk_measures.specs.Offences.{values_below}
use Rattle.desk_measures.proofs.FieldLemmas.{no_values, value_next}
use Rattle.desk_measures.proofs.fields.push_values.Goals as goal

pub loop-attribute-init : goal.loop-attribute-init
loop-attribute-init c =
    sym (append-nil c.args.fields.now)
    ∙ ap (λ (t : Tuple). c.args.fields.now ++ t)
    (sym (no_values (attributes c.args.shown) (row_at c.args.rows.now c.args.row)))

pub loop-attribute-preserved : goal.loop-attribute-preserved
loop-attribute-preserved c =
    let k = c.loop-attribute.attribute in
    let t = row_at c.args.rows.now c.args.row in
    let x = attributes c.args.shown in
    c.in_ok-push.ensures.values
    ∙ ap (λ (f : Tuple). f ++ c.shown_value.result.now ∷ []) c.loop-attribute.invariant
    ∙ append_assoc c.args.fields.now (values_below k x t) (c.shown_value.result.now ∷ [])
    ∙ ap (λ (v : List ℕ). c.args.fields.now ++ (values_below k x t ++ v ∷ []))
    (c.shown_value.ensures.value
    ∙ ap (λ (b : Bool). if b then value_at t k else []) c.contains-is_shown.ensures.member)
    ∙ ap (λ (f : Tuple). c.args.fields.now ++ f) (sym (value_next k x t))
