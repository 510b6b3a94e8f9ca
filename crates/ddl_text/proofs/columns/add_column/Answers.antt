-- What is left to prove of `add_column`: its clause `added`, by `column_added`.
use Rattle.attr_sets.specs.Sets.{attributes}
use Rattle.ddl_text.proofs.TextLemmas.{column_added}
use Rattle.ddl_text.proofs.columns.add_column.Goals as goal

pub returns : goal.returns
returns c = record {
  added = column_added c.add_type.result c.args.schema.now (attributes c.args.nullable) c.args.attribute c.name.result.now
      c.column-column.result c.contains.result c.args.text.now.items c.add_quoted.new.text.items c.add_type.new.text.items
      c.name.ensures.name c.column-column.ensures.column c.contains.ensures.member c.in_ok-add_quoted.ensures.added
      c.add_type.ensures.added;
}
