pub mod CallerLemmas
mod PackedLemmas
mod TripleLemmas
