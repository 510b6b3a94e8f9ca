-- What is left to prove of `name_of`: its clause `name`, by the test of names.
use Rattle.lexer.specs.Quotes.{is_name}
use Rattle.lexer.proofs.Quoting.{name_test}
use Rattle.sql_definitions.proofs.NameLemmas.{name_by_test}
use Rattle.sql_definitions.proofs.lists.name_of.Goals as goal

pub returns : goal.returns
returns c = record { name = name_by_test _ (is_name c.args.bytes.now) c.args.bytes.now c.new.ensures.name (name_test c.args.bytes.now) c.new.ensures.value }
