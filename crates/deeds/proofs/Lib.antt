pub mod Lists
pub mod Living
pub mod Along
pub mod Finding
pub mod Answering
pub mod Leading
pub mod Giving
pub mod Faulting
mod Examples
