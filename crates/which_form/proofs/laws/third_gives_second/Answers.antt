-- The law `third_gives_second`, by `third_second`.
use Rattle.which_form.proofs.SecondLemmas.{third_second}
use Rattle.which_form.proofs.laws.third_gives_second.Goals as goal

pub returns : goal.returns
returns c = record { law = third_second }
