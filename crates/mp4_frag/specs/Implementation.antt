-- Only the code's own way; no public clause needs this.
-- What a stream means is defined in the folder above, without these.
pub mod AtOnce
pub mod Following
pub mod ListedRows
pub mod RepeatMarks
pub mod Rereads
pub mod RunRows
pub mod LaterRuns
pub mod SettlingSteps
pub mod CommonLayout
