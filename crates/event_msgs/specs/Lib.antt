pub mod Buffers
pub mod Laws
pub mod Packing
pub mod Reading
pub mod Views
