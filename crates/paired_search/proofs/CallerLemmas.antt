-- What proofs of the crates above cite. No other proof file of this crate is cited outside it.
pub use Rattle.paired_search.proofs.Keys.{within_or_outside}
pub use Rattle.paired_search.proofs.Walking.{further, label_push, least_above, least_fewer, walked_all, walked_more}
