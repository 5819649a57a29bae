pub mod Kinds
pub mod Fields
pub mod Rules
pub mod Tracks
pub mod Moovs
pub mod TrackFields
pub mod OrderedIds
pub mod Implementation
