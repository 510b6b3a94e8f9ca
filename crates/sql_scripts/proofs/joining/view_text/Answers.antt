-- What is left to prove of `view_text`: its clause `text`.
use Rattle.std.proofs.Common.{◌≡◌, ◌∙◌, List, ap, subst}
use Rattle.std.specs.Prelude.{IfOk}
use Rattle.sql_syntax.specs.Printing.{query_text}
use Rattle.sql_migrate.specs.declared.joining.JoinedTable.{JoinedTable}
use Rattle.sql_migrate.specs.Script.{join_of, looked_up_tables, view_order, view_query}
use Rattle.sql_scripts.proofs.joining.view_text.Goals as goal

pub returns : goal.returns
unfolding view_query
returns c =
    let s = c.args.schema.now in
    let designs = c.args.designs.now in
    let looked_up = looked_up_tables s designs in
    record {
      text = subst (λ (tables : List JoinedTable). IfOk c.join_text.result (λ text. text.items ≡ query_text (join_of s tables looked_up)))
          (c.deref.ensures.value ∙ c.in_ok-tables.ensures.order ∙ ap view_order c.in_ok-filled_tables.ensures.tables)
          (c.join_text.ensures.text looked_up (c.deref-2.ensures.value ∙ c.in_ok-look_ups.ensures.text));
    }
