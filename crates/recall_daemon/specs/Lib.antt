pub mod Bounds
pub mod Known
pub mod Machine
pub mod Tellings
pub mod Workers
