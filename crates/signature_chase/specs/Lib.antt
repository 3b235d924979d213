-- inner invariants and words of the proofs
pub mod Settled
pub mod Setting
pub mod Advance
pub mod Leaders
pub mod Owning
pub mod Waiting
pub mod Owned
