-- What the loop of `key_lines` keeps.
use Rattle.std.proofs.Common.{◌≡◌, flat_map, take}
use Rattle.attr_sets.specs.Sets.{attributes}
use Rattle.schema_printer.specs.Printing.{set_text}
use Rattle.schema_printer.specs.Spelling.{printed_names_of}
use Rattle.desk_texts.specs.Texts.{line}
use Rattle.desk_discovery.proofs.keys.key_lines.Given as goal

-- the lines so far
abbrev pub invariant-loop-key : goal.invariant-loop-key
invariant-loop-key l =
    l.text.items ≡ flat_map (λ key. line (set_text (printed_names_of l.schema) (attributes key))) (take l.key-index l.keys)
