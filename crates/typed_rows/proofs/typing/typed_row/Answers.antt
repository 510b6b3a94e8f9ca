-- What is left to prove of `typed_row`: that a round of its loop keeps the invariant, by `typed_more`.
use Rattle.std.proofs.Common.{◌≡◌, ◌<◌, ℕ, List, [], ◌∷◌, ◌++◌, length, take, add-one, sym, ap, ◌∙◌, arith}
use Rattle.std.specs.Str.Parse.{digits_value}
use Rattle.schema_model.specs.Schemas.{types_of}
use Rattle.dep_model.specs.Tuples.{Tuple, value_at}
use Rattle.column_values.specs.MadeUp.{made_up}
use Rattle.typed_rows.specs.Typed.{typed_tuple}
use Rattle.typed_rows.proofs.TypedLemmas.{typed_more}
use Rattle.typed_rows.proofs.typing.typed_row.Goals as goal

pub loop-i-preserved : goal.loop-i-preserved
loop-i-preserved c =
    let columns = types_of c.args.schema.now in
    let t : Tuple = c.args.row.now in
    let i : ℕ = c.loop-i.i in
    let short : i < length t = omega (arith, c.loop-i-test.true, c.width-i-end.ensures.count, c.requires.over) in
    let value : c.in_ok-typed_value.field-0 ≡ made_up c.column.result (digits_value 10 (value_at t i)) =
    c.in_ok-typed_value.ensures.value ∙ ap (λ (v : List ℕ). made_up c.column.result (digits_value 10 v)) c.value.ensures.value in
    c.in_ok-push.ensures.items
    ∙ ap (λ (values : Tuple). values ++ c.in_ok-typed_value.field-0 ∷ []) c.loop-i.invariant
    ∙ ap (λ (v : List ℕ). typed_tuple (take i columns) (take i t) ++ v ∷ []) value
    ∙ sym (rw add-one (typed_more columns t i c.column.result c.column.ensures.column short))
