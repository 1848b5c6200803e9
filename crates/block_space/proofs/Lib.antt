pub mod Walks
pub mod Members
pub mod Marks
pub mod Frees
pub mod Spaces
