-- The law `tables_have_different_names`, by `NameLemmas`.
use Rattle.plan_printer.proofs.NameLemmas.{tables_named_apart}
use Rattle.plan_printer.proofs.laws.tables_have_different_names.Goals as goal

pub returns : goal.returns
returns c = record { law = tables_named_apart }
