pub mod NumberLemmas
pub mod CountLemmas
pub mod TableLemmas
pub mod SearchLemmas
pub mod ListingLemmas
pub mod FindingLemmas
