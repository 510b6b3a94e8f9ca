pub mod PrintedDerivations
pub mod WithinLines
