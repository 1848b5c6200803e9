pub mod Settings
pub mod Documents
pub mod Candidates
pub mod Picking
