pub mod PrimaryLemmas
