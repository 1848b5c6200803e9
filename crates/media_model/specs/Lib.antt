pub mod Objects
pub mod Memory
pub mod Faults
pub mod Sharing
