mod Ordered
mod Blocks
mod Levels
