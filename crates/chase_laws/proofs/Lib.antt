mod Bound
pub mod CallerLemmas
mod ChaseLaws
mod CoreEnd
mod CoreEvents
mod Derivations
mod EntityLaws
mod JoinedLaws
mod Lists
mod NearLaws
mod PairLaws
mod Patterns
mod SameLaws
mod SameRows
mod SignatureLaws
mod SmallCases
mod Turned
mod Walks
