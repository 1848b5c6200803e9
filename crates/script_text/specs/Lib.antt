pub mod Limits
pub mod Lines
pub mod Scripts
pub mod Laws
pub mod Reading
