pub mod Rising
pub mod Running
pub mod Pieces
pub mod FetchSteps
