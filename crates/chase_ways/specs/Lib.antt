-- what callers of this crate read
pub mod Ground
pub mod Limit
