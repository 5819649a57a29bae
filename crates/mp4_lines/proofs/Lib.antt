pub mod DigitLemmas
pub mod DecimalLemmas
pub mod AgainLemmas
pub mod MoreLemmas
mod TripleLemmas
