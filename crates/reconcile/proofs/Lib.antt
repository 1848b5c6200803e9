pub mod Drives
pub mod Found
pub mod Sums
pub mod Walked
