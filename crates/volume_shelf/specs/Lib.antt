pub mod Prints
pub mod Shelf
pub mod Steps
