pub mod Runs
pub mod Places
pub mod Orders
pub mod Takings
pub mod Worked
pub mod Implementation
