-- What is left to prove of `add_table`: its clause `added`, by `table_added`.
use Rattle.ddl_text.proofs.TextLemmas.{table_added}
use Rattle.ddl_text.proofs.printing.add_table.Goals as goal

pub returns : goal.returns
returns c = record {
  added = table_added c.add-3.result c.args.schema.now c.args.tables.now c.args.table.now c.args.text.now.items
      c.add_comment.new.text.items c.add.new.text.items
      c.add_quoted.new.text.items c.add-2.new.text.items c.add_elements.new.text.items c.add-3.new.text.items
      c.in_ok-add_comment.ensures.added
      c.in_ok-add.ensures.added c.in_ok-add_quoted.ensures.added
      c.in_ok-add-2.ensures.added c.in_ok-add_elements.ensures.added
      c.add-3.ensures.added;
}
