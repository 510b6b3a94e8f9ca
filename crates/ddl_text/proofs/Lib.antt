pub mod DesignLemmas
mod KeyReferenceLemmas
pub mod TextLemmas
