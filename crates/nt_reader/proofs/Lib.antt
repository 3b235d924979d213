pub mod CallerLemmas
mod CutLemmas
mod FileLemmas
mod LineAnswers
mod LineLemmas
mod LinedLemmas
mod OneFile
mod OpenLemmas
mod StateLemmas
mod TextLemmas
mod TotalLemmas
