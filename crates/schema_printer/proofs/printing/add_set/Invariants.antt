-- What the loop of `add_set` keeps: `PrintsSet`.
use Rattle.attr_sets.specs.Sets.{attributes}
use Rattle.schema_printer.specs.Spelling.{printed_names_of}
use Rattle.schema_printer.proofs.PrintLemmas.{PrintsSet}
use Rattle.schema_printer.proofs.printing.add_set.Given as goal

abbrev pub invariant-loop-attribute : goal.invariant-loop-attribute
invariant-loop-attribute l = PrintsSet (printed_names_of l.schema) (attributes l.set) l.fn.text.items l.text.items l.any_written l.attribute
