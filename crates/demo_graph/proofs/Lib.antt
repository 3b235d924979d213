pub mod CallerLemmas
mod LineLemmas
mod SpelledLemmas
mod PlaceLemmas
