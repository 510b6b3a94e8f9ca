-- The law `all_keys_by_exchange`, by `all_keys`.
use Rattle.std.proofs.Common.{get_or}
use Rattle.std.proofs.lemmas.List.Elements.{Contains-get_or}
use Rattle.attr_sets.specs.Attributes.{below}
use Rattle.fd_closure.proofs.AllKeys.{all_keys}
use Rattle.fd_closure.proofs.laws.all_keys_by_exchange.Goals as goal

pub returns : goal.returns
returns c = record { law = λ n ds keys within same not_empty are_keys exchanged. all_keys n ds keys within same (get_or keys 0 (below n)) (Contains-get_or keys 0 (below n) not_empty) are_keys exchanged }
