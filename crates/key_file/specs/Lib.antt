-- what callers of this crate read
pub mod KeyShape
pub mod Key
pub mod KeyFile
pub mod Name
pub mod Compile
pub mod Numbered
-- inner invariants and words of the proofs
pub mod Walks
