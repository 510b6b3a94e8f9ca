-- The definitions of derivation_mistakes, in reading order: why a rule does not apply, what is wrong with a
-- line, the laws of both, what values of the code stand for, and which reason a fault stands for.
pub mod Misuses
pub mod Mistakes
pub mod Laws
pub mod Views
pub mod FaultReasons
