-- Only the code's own way; no public clause needs this.
-- What a stream means is defined in the folder above, without these.
pub mod Counting
pub mod Growing
pub mod Rooming
