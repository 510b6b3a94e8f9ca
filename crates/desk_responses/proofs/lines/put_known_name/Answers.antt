-- What is left to prove of `put_known_name`: its clause `added`, by `printed_is`.
use Rattle.std.proofs.Common.{ap, sym, ◌∙◌}
use Rattle.schema_printer.specs.Spelling.{spelling}
use Rattle.schema_printer.proofs.PrintLemmas.{added_as}
use Rattle.schema_printer.proofs.SpellingLemmas.{printed_is}
use Rattle.desk_responses.proofs.lines.put_known_name.Goals as goal

pub returns : goal.returns
returns c = record {
  added = added_as _ c.args.text.now.items _ _ _
      (ap (λ n. spelling n c.name.result.now) c.naming.ensures.naming
      ∙ sym (printed_is c.args.schema.now c.args.attribute _ c.name.ensures.name)) c.add_name.ensures.added;
}
