-- The law `covers_have_no_diagnostic`, by `no_diagnostic`.
use Rattle.cover_accounts.proofs.CoverLemmas.{no_diagnostic}
use Rattle.cover_accounts.proofs.checking_laws.covers_have_no_diagnostic.Goals as goal

pub returns : goal.returns
returns c = record { law = no_diagnostic }
