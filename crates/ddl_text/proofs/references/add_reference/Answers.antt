-- What is left to prove of `add_reference`: its clause `added`, by `reference_added`.
use Rattle.ddl_text.proofs.TextLemmas.{reference_added}
use Rattle.ddl_text.proofs.references.add_reference.Goals as goal

pub returns : goal.returns
returns c = record {
  added = reference_added c.add-4.result c.args.schema.now c.args.other.now c.args.text.now.items
      c.add.new.text.items c.add_name_list.new.text.items c.add-2.new.text.items
      c.add_quoted.new.text.items c.add-3.new.text.items c.add_name_list-2.new.text.items c.add-4.new.text.items
      c.in_ok-add.ensures.added c.in_ok-add_name_list.ensures.added c.in_ok-add-2.ensures.added
      c.in_ok-add_quoted.ensures.added c.in_ok-add-3.ensures.added
      c.in_ok-add_name_list-2.ensures.added c.add-4.ensures.added;
}
