-- What is left to prove of `looked_up_rows_are_read_back`: its law, by `rows_are_read_back`.
use Rattle.rejoin_laws.proofs.ReadBackLemmas.{rows_are_read_back}
use Rattle.rejoin_laws.proofs.looked_up_rows_are_read_back.Goals as goal

pub returns : goal.returns
returns c = record {
  law = λ n limit nullable filled optional tables others rows each each_other covers over over_others are_filled are_optional by are.
      rows_are_read_back n limit nullable filled optional tables others rows each each_other covers over over_others are_filled
      are_optional by are;
}
