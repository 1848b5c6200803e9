pub mod Dealt
pub mod Sending
