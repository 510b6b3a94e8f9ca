pub mod SamenessLemmas
mod KindLemmas
