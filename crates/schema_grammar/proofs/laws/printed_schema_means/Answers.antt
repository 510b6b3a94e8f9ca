-- The law `printed_schema_means`, by `printed-schema-law`.
use Rattle.schema_grammar.proofs.PrintedSchemas.{printed-schema-law}
use Rattle.schema_grammar.proofs.laws.printed_schema_means.Goals as goal

pub returns : goal.returns
returns c = record { law = printed-schema-law }
