-- What the loop of `put_blocks` keeps, in terms of `blocks_text` and `printed_names_of`.
use Rattle.std.proofs.Common.{◌≡◌, ◌++◌, take}
use Rattle.desk_implication.specs.Bases.{blocks_text}
use Rattle.desk_implication.proofs.bases.put_blocks.Given as goal
use Rattle.schema_printer.specs.Spelling.{printed_names_of}

abbrev pub invariant-loop-block : goal.invariant-loop-block
invariant-loop-block l = l.text.items ≡ l.fn.text.items ++ blocks_text (printed_names_of l.schema) (take l.block-index l.blocks)
