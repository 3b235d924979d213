mod Sums
mod Knowing
mod Calling
mod Keeps
mod Rows
mod Gathering
