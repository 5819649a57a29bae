pub mod Feeders
pub mod BoxFeeders
pub mod Fragments
pub mod Pushes
