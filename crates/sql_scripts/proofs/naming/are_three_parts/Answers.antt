-- What is left to prove of `are_three_parts`: its clause `parts`, by `NamingLemmas`.
use Rattle.std.proofs.Common.{[], ◌∷◌, sym, ◌∙◌}
use Rattle.table_words.specs.Parts.{part_of}
use Rattle.sql_scripts.proofs.NamingLemmas.{more_parts, no_parts}
use Rattle.sql_scripts.proofs.naming.are_three_parts.Goals as goal

pub returns-then-is_part : goal.returns-then-is_part
returns-then-is_part c = record {
  parts = c.are_two_parts.ensures.parts
      ∙ sym (more_parts (part_of c.args.first.now) (part_of c.args.second.now) (part_of c.args.last.now ∷ []) (sym c.if-is_part.ensures.part));
}

pub returns-else-is_part : goal.returns-else-is_part
returns-else-is_part c = record {
  parts = c.if-is_part.false
      ∙ sym (no_parts (part_of c.args.first.now) (part_of c.args.second.now ∷ part_of c.args.last.now ∷ []) (sym c.if-is_part.ensures.part));
}
