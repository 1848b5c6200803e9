pub mod Listing
pub mod Table
pub mod Places
pub mod Index
