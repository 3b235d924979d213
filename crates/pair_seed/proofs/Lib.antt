mod Lists
mod Keys
mod Steps
mod InOrder
mod Whole
mod Bounding
