-- What proofs of the crates above cite. No other proof file of this crate is cited outside it.
pub use Rattle.list_pool.proofs.Plain.{Contains_from_times, one_place, times_from_Contains}
pub use Rattle.list_pool.proofs.Times.{times-append, times_here, times_nil, times_there}
