-- What proofs of the crates above cite. No other proof file of this crate is cited outside it.
pub use Rattle.typed_graph.proofs.Made.{three}
pub use Rattle.typed_graph.proofs.Order.{chain}
