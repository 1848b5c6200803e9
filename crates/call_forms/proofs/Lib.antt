mod Finding
pub mod Forming
