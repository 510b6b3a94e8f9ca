-- The definitions of dep_basis, in reading order: refining blocks, the dependency basis and its
-- trace, decisions, and the proofs that are printed.
pub mod Refining
pub mod Pieces
pub mod Parts
pub mod Traces
pub mod Bases
pub mod Firsts
pub mod Breaking
pub mod Decisions
pub mod Cuts
