-- What proofs of the crates above cite. No other proof file of this crate is cited outside it.
pub use Rattle.graph_rows.proofs.Told.{told, told_more, told_both}
pub use Rattle.graph_rows.proofs.RowsInNumbers.{as_built}
