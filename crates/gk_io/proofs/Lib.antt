mod TakenLemmas
mod FileLemmas
mod ResultLemmas
