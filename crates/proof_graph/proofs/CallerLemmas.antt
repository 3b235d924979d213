-- What proofs of the crates above cite. No other proof file of this crate is cited outside it.
pub use Rattle.proof_graph.proofs.TellsLemmas.{told_all}
pub use Rattle.proof_graph.proofs.TermLeads.{leads_same}
pub use Rattle.proof_graph.proofs.WayLemmas.{Once, fronts, on_way, way-end_along, way-once, way-stable}
