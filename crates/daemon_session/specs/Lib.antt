pub mod Tellings
pub mod Seats
pub mod SessionSteps
pub mod Keeping
pub mod Members
