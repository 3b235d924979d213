mod PairSearch
mod EnteredAgain
mod OldEntries
