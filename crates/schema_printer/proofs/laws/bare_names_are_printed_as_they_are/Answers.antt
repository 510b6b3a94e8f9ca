-- What is left to prove of `bare_names_are_printed_as_they_are`: its clauses `names` and `text`, by
-- `printed_bare` and `schema_bare`.
use Rattle.schema_printer.proofs.SpellingLemmas.{printed_bare, schema_bare}
use Rattle.schema_printer.proofs.laws.bare_names_are_printed_as_they_are.Goals as goal

pub returns : goal.returns
returns c = record { names = printed_bare; text = schema_bare }
