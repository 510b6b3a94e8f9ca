-- What is left to prove of `add_missing`: its clause `added`, by `missing_added`.
use Rattle.missing_values.proofs.PrintingLemmas.{missing_added}
use Rattle.missing_values.proofs.printing.add_missing.Goals as goal

pub returns : goal.returns
returns c = record {
  added = missing_added c.add-2.result c.args.schema.now c.args.attribute c.naming.result c.name.result.now
      c.args.text.now.items c.add.new.text.items c.add_name.new.text.items c.add-2.new.text.items
      c.naming.ensures.naming c.name.ensures.name c.in_ok-add.ensures.added c.in_ok-add_name.ensures.added
      c.add-2.ensures.added;
}
