mod CellLemmas
mod RowLemmas
mod OrderLemmas
mod GroupLemmas
mod SharedLemmas
