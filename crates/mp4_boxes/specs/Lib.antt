pub mod Listing
pub mod Buffering
pub mod Boxes
pub mod Joined
pub mod Rests
pub mod HeldBoxes
pub mod States
pub mod Steps
