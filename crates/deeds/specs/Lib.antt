pub mod Deeds
pub mod Lives
pub mod KnownByMoves
pub mod Answers
pub mod Leads
pub mod Given
pub mod Faults
