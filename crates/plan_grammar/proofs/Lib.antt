pub mod FirstLemmas
pub mod WordLemmas
pub mod NameLemmas
pub mod LineLemmas
pub mod PlanLaws
pub mod PrintedLaws
pub mod ExactLaws
