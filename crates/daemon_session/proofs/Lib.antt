pub mod OwnEvents
pub mod WaySteps
