-- The laws `one_account_of_a_cover`, clause by clause.
use Rattle.cover_accounts.proofs.MemberLemmas.{steps_cover, one_account_members, one_account_gone}
use Rattle.cover_accounts.proofs.step_laws.one_account_of_a_cover.Goals as goal

pub returns : goal.returns
returns c = record {
  cover = steps_cover;
  members = one_account_members;
  gone = one_account_gone;
}
