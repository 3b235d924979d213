pub mod CallerLemmas
mod CompileLemmas
mod KeyLemmas
mod NumberedLemmas
mod PatternLemmas
mod WalkLemmas
