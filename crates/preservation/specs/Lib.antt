-- The definitions of preservation, in reading order: closures inside schemes, what a plan keeps or
-- loses, and sets closed inside a scheme.
pub mod SchemeClosures
pub mod Keeping
pub mod FunctionallyClosed
