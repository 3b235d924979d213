mod Finished
mod OfParts
pub mod CallerLemmas
