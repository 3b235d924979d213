pub mod CallerLemmas
mod WayLemmas
mod TreeLemmas
mod MeetLemmas
mod PartLemmas
mod SupportLemmas
mod TermLeads
mod TellsLemmas
