pub mod Pieces
pub mod Fields
pub mod Readings
pub mod Opening
pub mod Framing
pub mod Committing
