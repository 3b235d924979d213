-- What proofs of the crates above cite. No other proof file of this crate is cited outside it.
pub use Rattle.class_book.proofs.Choosing.{either}
pub use Rattle.class_book.proofs.Merging.{moved}
