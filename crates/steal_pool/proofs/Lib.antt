mod Entered
mod HintMoves
mod Jobs
mod Passes
mod Reaching
mod Wakings
