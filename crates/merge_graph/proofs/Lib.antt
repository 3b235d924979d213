mod FaceLemmas
mod JoinedLemmas
mod ListedLemmas
mod LineLemmas
mod RankLemmas
mod ReadLemmas
