pub mod Indexed
pub mod Looking
