-- What the loop of `mistaken_line_texts` keeps, in terms of `mistaken_lines_text`.
use Rattle.std.proofs.Common.{◌≡◌, take}
use Rattle.schema_printer.specs.Spelling.{printed_names_of}
use Rattle.derivation_mistakes.specs.Views.{mistaken_lines_of}
use Rattle.desk_implication.specs.MistakeTexts.{mistaken_lines_text}
use Rattle.desk_implication.proofs.mistakes.mistaken_line_texts.Given as goal

abbrev pub invariant-loop-mistaken : goal.invariant-loop-mistaken
invariant-loop-mistaken l =
    l.text.items ≡ mistaken_lines_text (printed_names_of l.schema) (mistaken_lines_of (take l.mistaken-index l.found))
