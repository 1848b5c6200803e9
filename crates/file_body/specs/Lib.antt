pub mod Segments
pub mod BodyBlocks
pub mod HeldBodies
pub mod Contents
