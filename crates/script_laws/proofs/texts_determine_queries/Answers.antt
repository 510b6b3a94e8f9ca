-- The law `texts_determine_queries`, by `one_query`.
use Rattle.script_laws.proofs.Asked.{one_query}
use Rattle.script_laws.proofs.texts_determine_queries.Goals as goal

pub returns : goal.returns
returns c = record { law = one_query }
