pub mod CallerLemmas
mod ListFacts
mod NameFacts
mod ToNumbers
mod Accepted
mod FromNumbers
mod SupportedLemmas
mod RowLemmas
mod FewLemmas
mod SameReason
mod StepLemmas
mod LookupLemmas
mod NumberLemmas
mod ReadyLemmas
mod SameVerdict
