-- What is left to prove of `print_made_up`: what `print_rows` requires.
use Rattle.std.proofs.Common.{◌≡◌, ℕ, length, subst, sym, ◌∙◌}
use Rattle.schema_model.specs.Schemas.{types_of, width_of}
use Rattle.dep_model.specs.Tuples.{Relation, IsOver}
use Rattle.typed_rows.proofs.RelationLemmas.{over-typed}
use Rattle.typed_rows.specs.Typed.{typed_relation}
use Rattle.typed_rows.proofs.printing.print_made_up.Goals as goal

pub print_rows-requires : goal.print_rows-requires
print_rows-requires c =
    let s = c.args.schema.now in
    let r = c.args.rows.now in
    let columns = types_of s in
    let one_each : length columns ≡ width_of s = s.typed.one_each in
    let over : IsOver (length columns) (typed_relation columns r) =
    over-typed columns r (subst (λ (n : ℕ). IsOver n r) (sym one_each) c.requires.over) in
    let typed = c.in_ok-of.ensures.rows ∙ c.deref.ensures.value ∙ c.in_ok-typed.ensures.rows in
    record {
      over = subst (λ (rows : Relation). IsOver (width_of s) rows) (sym typed)
          (subst (λ (n : ℕ). IsOver n (typed_relation columns r)) one_each over);
    }
