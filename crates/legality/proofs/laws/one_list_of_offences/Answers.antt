-- The law `one_list_of_offences`, by `one_list`.
use Rattle.legality.proofs.OffenceLaws.{one_list}
use Rattle.legality.proofs.laws.one_list_of_offences.Goals as goal

pub returns : goal.returns
returns c = record { law = λ n ds r one other p q. one_list n r 0 ds one other p q }
