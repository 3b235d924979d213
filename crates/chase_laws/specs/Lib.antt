-- what callers of this crate read: patterns and graphs
pub mod Shape
pub mod Graph
pub mod Valuation
pub mod Joined
pub mod Chase
pub mod Candidate
pub mod Pairing
pub mod Near
pub mod View
pub mod Report
pub mod Core
pub mod SameRows
pub mod Signature
-- how lists of numbers stand in memory
pub mod Padded
