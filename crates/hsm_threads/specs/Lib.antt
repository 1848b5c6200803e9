pub mod Deeds
pub mod Happens
pub mod Lots
pub mod Published
pub mod Shares
pub mod Steps
