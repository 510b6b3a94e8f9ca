-- The definitions of basis_proofs: derivations that come about with a dependency basis.
-- trace, decisions, and the proofs that are printed.
pub mod CutProofs
pub mod Leads
pub mod JoinedProofs
pub mod Proofs
