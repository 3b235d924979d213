-- what callers of this crate read
pub mod Replaying
