pub mod CallerLemmas
mod Cuts
mod Fields
mod Fresh
mod Linking
mod Looks
mod Paths
mod Plain
mod Pools
mod Shown
mod Times
mod Walks
