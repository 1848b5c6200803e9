pub mod Sizes
pub mod Holding
pub mod Failing
pub mod Places
