-- What is left to prove of `columns_in`: that its loop begins with no type, and a round keeps the
-- invariant.
use Rattle.std.proofs.Common.{◌≡◌, ◌+◌, List, ℕ, [], ◌++◌, ◌∷◌, sym, ap, subst, ◌∙◌, arith}
use Rattle.std.proofs.lemmas.Option.{get_or_from_slice_get}
use Rattle.std.proofs.lemmas.List.Elements.{All-nil, All-push}
use Rattle.std.specs.Prelude.{All, IsTrue}
use Rattle.attr_sets.specs.Sets.{attributes}
use Rattle.schema_model.specs.declared.column_type.ColumnType.{ColumnType}
use Rattle.schema_model.specs.declared.column_type.ColumnType.TheVariants.{Text}
use Rattle.schema_model.specs.Columns.{is_column_type}
use Rattle.schema_model.specs.Schemas.{types_of, width_of}
use Rattle.schema_printer.specs.Parts.{chosen}
use Rattle.schema_printer.proofs.ChosenLemmas.{chosen_none, chosen_more, chosen_skip}
use Rattle.schema_printer.proofs.parts.columns_in.Goals as goal
use Rattle.schema_printer.proofs.parts.columns_in.Goals.{then-contains+in_ok-push, else-contains}

abbrev IsType : ColumnType → Type 0
IsType column = IsTrue (is_column_type column)

pub loop-attribute-init : goal.loop-attribute-init
loop-attribute-init c = record {
  chosen_types = c.new-columns.ensures.items ∙ chosen_none (types_of c.args.schema.now) Text (attributes c.args.set);
  each = subst (λ (ys : List ColumnType). All IsType ys) (sym c.new-columns.ensures.items) (All-nil IsType);
}

pub loop-attribute-preserved : goal.loop-attribute-preserved
loop-attribute-preserved c =
    let types = types_of c.args.schema.now in
    let x = attributes c.args.set in
    let m = c.loop-attribute.attribute in
    elim c.if-contains.branch [
      | then-contains+in_ok-push w ↦
          let pushed = ap (λ v. v.items) w.columns-is ∙ w.in_ok-push.ensures.items in
          let typed = get_or_from_slice_get types m _ Text w.column.ensures.column in
          record {
            chosen_types = pushed ∙ ap (λ (ys : List ColumnType). ys ++ w.column.result ∷ []) c.loop-attribute.invariant.chosen_types
                ∙ ap (λ (y : ColumnType). chosen types Text m x ++ y ∷ []) (sym typed)
                ∙ sym (chosen_more types Text x m (sym c.contains.ensures.member ∙ w.if-contains.true));
            each = subst (λ (ys : List ColumnType). All IsType ys) (sym pushed) (All-push IsType c.loop-attribute.columns.items w.column.result c.loop-attribute.invariant.each w.column.ensures.valid);
          }
      | else-contains w ↦ record {
        chosen_types = ap (λ v. v.items) w.columns-is ∙ c.loop-attribute.invariant.chosen_types
            ∙ sym (chosen_skip types Text x m (sym c.contains.ensures.member ∙ w.if-contains.false));
        each = subst (λ (ys : List ColumnType). All IsType ys) (sym (ap (λ v. v.items) w.columns-is)) c.loop-attribute.invariant.each;
      }
    ]

pub returns-clause-columns : goal.returns-clause-columns
returns-clause-columns c =
    let end : c.loop-attribute.attribute ≡ width_of c.args.schema.now = omega (arith, c.loop-attribute-test.false, c.loop-attribute.auto, c.width-attribute-end.ensures.count) in
    c.loop-attribute.invariant.chosen_types ∙ ap (λ (n : ℕ). chosen (types_of c.args.schema.now) Text n (attributes c.args.set)) end
