-- What is left to prove of `groups_of_several`: its clause `text`, by `group_not_empty`.
use Rattle.std.proofs.Common.{◌≡◌, ◌++◌, ℕ, List, ◌∷◌, false, subst, ap, ◌∙◌}
use Rattle.std.specs.Prelude.{IfOk, codes}
use Rattle.std.specs.Fmt.{decimal}
use Rattle.attr_sets.specs.Sets.{attributes}
use Rattle.dep_model.specs.Projections.{members_below}
use Rattle.schema_model.specs.Schemas.{width_of}
use Rattle.sql_syntax.specs.Names.{comma_list}
use Rattle.sql_syntax.specs.Printing.{selected_text, item_text}
use Rattle.sql_syntax.specs.Syntax.{own}
use Rattle.sql_check.specs.Columns.{column_at, items_on}
use Rattle.sql_check.specs.Checks.{line_item}
use Rattle.sql_scripts.proofs.ListingLemmas.{group_not_empty, after_line_printed, not_empty-map}
use Rattle.sql_scripts.proofs.several.groups_of_several.Goals as goal

pub returns : goal.returns
returns c =
    let s = c.args.schema.now in
    let x = attributes c.args.lhs in
    let items = comma_list item_text (line_item c.args.line ∷ items_on s (codes "d") x) in
    let having = codes " HAVING COUNT(*) > 1" in
    record {
      text = subst (λ (t : List ℕ). IfOk c.selected_text.result (λ text. text.items ≡ t))
          (ap (λ (i : List ℕ). selected_text false i c.args.source.now (codes "d") c.deref-4.result.now)
          (c.deref-3.ensures.value ∙ c.in_ok-items.ensures.text
          ∙ ap (λ (t : List ℕ). decimal c.args.line ++ codes " AS line, " ++ t) (c.deref.ensures.value ∙ c.in_ok-columns.ensures.text)
          ∙ after_line_printed c.args.line (items_on s (codes "d") x) (not_empty-map (λ (k : ℕ). own (column_at s (codes "d") k)) (members_below (width_of s) x) ∙ c.requires.members))
          ∙ ap (selected_text false items c.args.source.now (codes "d"))
          (c.deref-4.ensures.value ∙ c.in_ok-clause.ensures.text
          ∙ ap (λ (t : List ℕ). codes " GROUP BY " ++ t ++ having) (c.deref-2.ensures.value ∙ c.in_ok-columns.ensures.text)
          ∙ ap (λ (t : List ℕ). t ++ having) (group_not_empty (column_at s (codes "d")) (members_below (width_of s) x) c.requires.members)))
          c.selected_text.ensures.text;
    }
