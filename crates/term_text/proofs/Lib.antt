mod AppendLemmas
pub mod CallerLemmas
mod Choosing
mod LineSteps
mod MemberOrder
mod Ordered
mod Places
mod ReadBack
mod ReportLaw
mod Sorting
mod TextLemmas
