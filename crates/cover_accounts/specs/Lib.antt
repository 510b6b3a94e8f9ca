-- The definitions of cover_accounts: what keeps a schema from being a minimal or a canonical cover, how that is
-- gathered, and how a cover comes about.
pub mod CoverDiagnostics
pub mod CheckGathering
pub mod Steps
pub mod Gathering
