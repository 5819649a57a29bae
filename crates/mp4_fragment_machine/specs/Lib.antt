pub mod NextHeaders
pub mod Places
pub mod States
pub mod Implementation
