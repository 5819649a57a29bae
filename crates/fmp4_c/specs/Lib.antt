pub mod PendingOutput
pub mod Tasks
pub mod Portions
pub mod Answers
pub mod Engines
pub mod Calls
pub mod Handles
