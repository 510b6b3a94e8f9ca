pub mod DigitLemmas
pub mod UuidLemmas
pub mod CalendarLemmas
pub mod DecimalLemmas
pub mod MadeUpLemmas
