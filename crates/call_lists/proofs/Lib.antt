pub mod Emptying
pub mod Making
