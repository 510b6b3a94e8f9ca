-- The definitions of implication_laws, in reading order: schemas whose dependencies are written otherwise, what
-- it is that they answer alike, when a schema is a cover, that one answer alone is allowed, and when a derivation is
-- accepted.
pub mod Rewriting
pub mod Alike
pub mod Minimality
pub mod OneAnswer
pub mod AcceptedDerivations
