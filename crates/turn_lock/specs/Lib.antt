-- what callers of this crate read
pub mod Handles
pub mod Lists
-- the rule of the lock's table, which the two above name, and words of the proofs
pub mod Serving
pub mod Turns
pub mod Lending
