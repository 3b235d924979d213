-- what callers of this crate read
pub mod Rows
pub mod Groups
-- how both lie in memory
pub mod Cells
pub mod Heads
-- words of the functions within
pub mod Filling
pub mod Shared
