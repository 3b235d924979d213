-- what callers of this crate read
pub mod Sifted
