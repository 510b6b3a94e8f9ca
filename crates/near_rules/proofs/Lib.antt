pub mod FrontLemmas
pub mod RightLemmas
pub mod WholeLemmas
pub mod FrontErrors
