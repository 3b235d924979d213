mod Alone
pub mod CallerLemmas
mod Choosing
mod Entered
mod Joins
mod Members
mod Merging
