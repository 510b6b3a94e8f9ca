-- The diagnostics that come before a place: for the functions below `diagnostics`. `Desk` does not cite
-- it.
use Rattle.std.specs.Prelude.{ℕ, List, AllPairs, Contains}
use Rattle.dep_model.specs.Dependencies.{Dependency}
use Rattle.cover_accounts.specs.declared.diagnostic.CoverDiagnostic.{CoverDiagnostic}
use Rattle.cover_accounts.specs.declared.diagnostic.CoverForm.{CoverForm}
use Rattle.cover_accounts.specs.CoverDiagnostics.{IsCoverDiagnostic, IsBeforePlace, position_of, rank_of}

-- exactly the diagnostics of a list that come before a place, in their order
pub record AreCoverDiagnosticsBefore (form : CoverForm) (n : ℕ) (ds : List Dependency) (k rank : ℕ)
    (found : List CoverDiagnostic) : Type 0 where
  pub each : (one : CoverDiagnostic) → Contains found one → IsCoverDiagnostic form n ds one
  pub earlier : (one : CoverDiagnostic) → Contains found one → IsBeforePlace k rank one
  pub all : (one : CoverDiagnostic) → IsCoverDiagnostic form n ds one → IsBeforePlace k rank one
      → Contains found one
  pub ordered : AllPairs (λ one other. IsBeforePlace (position_of other) (rank_of other) one) found
