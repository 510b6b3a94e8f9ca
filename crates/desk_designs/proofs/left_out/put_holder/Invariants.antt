-- What the loop of `put_holder` keeps: no text is added, and what is to be added is that of the schemes still
-- to come.
use Rattle.std.proofs.Common.{◌≡◌, drop}
use Rattle.schema_printer.specs.Spelling.{printed_names_of}
use Rattle.desk_designs.specs.LeftOut.{holder_text}
use Rattle.desk_designs.proofs.left_out.put_holder.Given as goal

abbrev pub invariant-loop-other : goal.invariant-loop-other
invariant-loop-other l = record {
  same : l.text.items ≡ l.fn.text.items;
  rest : holder_text (printed_names_of l.schema) l.scheme l.kept ≡ holder_text (printed_names_of l.schema) l.scheme (drop l.other-index l.kept);
}
