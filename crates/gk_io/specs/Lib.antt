-- what callers of this crate read
pub mod Cause
pub mod Files
pub mod Taken
pub mod FailedAt
pub mod FileStop
pub mod DirShelf
pub mod OutSink
pub mod SureShelf
pub mod SureSink
pub mod MemShelf
pub mod MemSink
-- inner invariants and words of the proofs
pub mod HeldFiles
pub mod HeldBytes
