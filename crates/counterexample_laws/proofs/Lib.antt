pub mod ShownTuples
