-- The laws `one_account_of_a_split`, clause by clause.
use Rattle.split_forms.proofs.LeadLemmas.{steps_finish, one_account}
use Rattle.split_forms.proofs.laws.one_account_of_a_split.Goals as goal

pub returns : goal.returns
returns c = record {
  finished = λ n ds form cuts schemes steps. steps_finish n ds form cuts schemes steps;
  cuts = λ n ds form cuts others schemes rest not_empty split first second.
      let same = one_account n ds form not_empty split cuts others schemes rest first second in
      same.0;
  schemes = λ n ds form cuts others schemes rest not_empty split first second.
      let same = one_account n ds form not_empty split cuts others schemes rest first second in
      same.1;
}
