-- The definitions of normal_forms, in reading order: what violates a form, the violation that is
-- chosen, the parts of the test, and what its searches pass over.
pub mod Violations
pub mod Chosen
pub mod Cuts
pub mod Breaking
pub mod Adding
pub mod Primes
pub mod Passing
pub mod Beginning
