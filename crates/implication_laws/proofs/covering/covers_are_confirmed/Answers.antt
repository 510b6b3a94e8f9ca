-- The laws `covers_are_confirmed`, clause by clause.
use Rattle.cover_accounts.specs.declared.diagnostic.CoverForm.TheVariants.{Minimal, Canonical}
use Rattle.implication_laws.proofs.ConfirmedLaws.{said_of_none, said_yes}
use Rattle.implication_laws.proofs.MinimalLaws.{minimal_of_functional}
use Rattle.implication_laws.proofs.CanonicalLaws.{canonical_of_functional}
use Rattle.implication_laws.proofs.CoverLaws.{canonical_merged}
use Rattle.implication_laws.proofs.covering.covers_are_confirmed.Goals as goal

pub returns : goal.returns
returns c = record {
  minimal_silent = said_of_none Minimal;
  minimal_yes = said_yes Minimal;
  minimal_functional = minimal_of_functional;
  canonical_silent = said_of_none Canonical;
  canonical_yes = said_yes Canonical;
  canonical_functional = canonical_of_functional;
  merged = canonical_merged;
}
