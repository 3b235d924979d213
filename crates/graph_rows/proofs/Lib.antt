mod Told
mod RowsInNumbers
mod TwoGraphs
mod FeedingLemmas
pub mod CallerLemmas
