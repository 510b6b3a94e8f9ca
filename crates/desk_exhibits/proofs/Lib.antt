pub mod ExhibitLemmas
