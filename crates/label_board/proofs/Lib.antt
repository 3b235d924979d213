mod Entered
mod Keeps
mod ReadView
mod Writing
