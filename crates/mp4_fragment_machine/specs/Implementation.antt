-- Only the code's own way; no public clause needs this.
-- What a stream means is defined in the folder above, without these.
pub mod Feeds
pub mod Media
pub mod Recuts
pub mod Splits
pub mod Steps
pub mod Stops
pub mod InPlace
pub mod TrafLines
