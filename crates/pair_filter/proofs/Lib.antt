mod Idle
mod Steps
mod Selections
mod Collected
mod Dealt
