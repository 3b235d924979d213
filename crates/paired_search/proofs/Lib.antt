mod BlockLaws
pub mod CallerLemmas
mod CompleteLaws
mod Keys
mod Labels
mod Moves
mod Names
mod PairLaws
mod PartLaws
mod Walking
