-- What is left to prove of `columns_of`: that the invariant of its loop holds at first and stays.
use Rattle.std.proofs.Common.{ap, sym, refl, ◌∙◌, ◌++◌, ◌∷◌, [], List, ℕ}
use Rattle.attr_sets.specs.Sets.{attributes}
use Rattle.dep_model.proofs.SchemeLemmas.{members_below-no_more, members_below-none, members_below-one_more}
use Rattle.file_references.proofs.column_sets.columns_of.Goals as goal
use Rattle.file_references.proofs.column_sets.columns_of.Goals.{then-contains+in_ok-push, else-contains}

pub loop-attribute-init : goal.loop-attribute-init
loop-attribute-init c = record { columns = c.new-columns.ensures.items ∙ sym (members_below-none (attributes c.args.set)) }

pub loop-attribute-preserved : goal.loop-attribute-preserved
loop-attribute-preserved c =
    let a = c.loop-attribute.attribute in
    let x = attributes c.args.set in
    record {
      columns = elim c.if-contains.branch [
        | then-contains+in_ok-push w ↦
            ap (λ v. v.items) w.columns-is ∙ w.in_ok-push.ensures.items ∙ ap (λ (l : List ℕ). l ++ a ∷ []) c.loop-attribute.invariant.columns
            ∙ sym (members_below-one_more a _ x refl (sym c.contains.ensures.member ∙ w.if-contains.true))
        | else-contains w ↦
            ap (λ v. v.items) w.columns-is ∙ c.loop-attribute.invariant.columns
            ∙ sym (members_below-no_more a _ x refl (sym c.contains.ensures.member ∙ w.if-contains.false))
      ];
    }
