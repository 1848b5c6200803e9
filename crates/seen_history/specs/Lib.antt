pub mod Alike
pub mod Outlines
pub mod Laws
