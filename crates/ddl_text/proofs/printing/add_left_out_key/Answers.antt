-- What is left to prove of `add_left_out_key`: its clause `added`, by `left_out_added`.
use Rattle.attr_sets.specs.Sets.{attributes}
use Rattle.ddl_text.proofs.TextLemmas.{left_out_added}
use Rattle.ddl_text.proofs.printing.add_left_out_key.Goals as goal

pub returns : goal.returns
returns c = record {
  added = left_out_added c.add-2.result c.args.schema.now (attributes c.args.key) c.args.text.now.items
      c.add.new.text.items c.add_name_list.new.text.items c.add-2.new.text.items
      c.in_ok-add.ensures.added c.in_ok-add_name_list.ensures.added c.add-2.ensures.added;
}
