-- The law `declared_names`, by `declared_are_names`.
use Rattle.schema_grammar.proofs.DeclaredNames.{declared_are_names}
use Rattle.schema_grammar.proofs.laws.declared_names.Goals as goal

pub returns : goal.returns
returns c = record { law = declared_are_names }
