-- What is left to prove of `missing_query`: its clause `text`.
use Rattle.std.proofs.Common.{◌≡◌, ℕ, List, false, subst, ap, ◌∙◌}
use Rattle.std.specs.Prelude.{IfOk, codes}
use Rattle.attr_sets.specs.Attributes.{Attributes, below}
use Rattle.schema_model.specs.Schemas.{universe_of}
use Rattle.sql_syntax.specs.Names.{comma_list}
use Rattle.sql_syntax.specs.Printing.{selected_text, item_text}
use Rattle.sql_check.specs.Columns.{items_on}
use Rattle.sql_scripts.proofs.missing.missing_query.Goals as goal

pub returns : goal.returns
returns c =
    let s = c.args.schema.now in
    let t = c.args.table.now in
    let items = comma_list item_text (items_on s (codes "r") (universe_of s)) in
    record {
      text = subst (λ (text : List ℕ). IfOk c.selected_text.result (λ query. query.items ≡ text))
          (ap (λ (i : List ℕ). selected_text false i t (codes "r") c.deref-2.result.now)
          (c.deref.ensures.value ∙ c.in_ok-items.ensures.text
          ∙ ap (λ (x : Attributes). comma_list item_text (items_on s (codes "r") x)) (c.full.ensures.members ∙ ap below c.width.ensures.count))
          ∙ ap (selected_text false items t (codes "r")) (c.deref-2.ensures.value ∙ c.in_ok-clause.ensures.text))
          c.selected_text.ensures.text;
    }
