-- What is left to prove of `the_empty_value_is_missing`: what it ensures, by `empty_is_missing`.
use Rattle.lookup_laws.proofs.MissingLemmas.{empty_is_missing}
use Rattle.lookup_laws.proofs.the_empty_value_is_missing.Goals as goal

pub returns : goal.returns
returns c = record { law = empty_is_missing }
