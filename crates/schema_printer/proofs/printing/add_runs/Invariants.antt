-- What the loop of `add_runs` keeps: `PrintsRuns`.
use Rattle.std.proofs.Common.{◌-◌, ◌<◌, get_or}
use Rattle.schema_model.specs.Schemas.{types_of}
use Rattle.schema_model.specs.declared.column_type.ColumnType.TheVariants.{Text}
use Rattle.schema_printer.specs.Spelling.{printed_names_of}
use Rattle.schema_printer.proofs.PrintLemmas.{PrintsRuns}
use Rattle.schema_printer.proofs.printing.add_runs.Given as goal

abbrev pub invariant-loop-attribute : goal.invariant-loop-attribute
invariant-loop-attribute l = PrintsRuns (types_of l.schema) (printed_names_of l.schema) l.fn.text.items l.text.items (get_or (types_of l.schema) (l.attribute - 1) Text) l.attribute
