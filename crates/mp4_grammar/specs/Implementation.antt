-- Only the code's own way; no public clause needs this.
pub mod SampleWords
pub mod FoundRows
pub mod Digits
