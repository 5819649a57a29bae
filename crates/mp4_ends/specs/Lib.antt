pub mod Streams
pub mod Ends
